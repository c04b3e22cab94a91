-- Two outcomes that a call on bytes allows are equal.
use mathlib.Core.Path.{◌≡◌, sym, ◌∙◌}
use mathlib.Core.List.{List}
use Prim.Native.Nat.{ℕ}
use Rattle.model.specs.Answers.{Fields}
use Rattle.model.specs.Table.{Machine}
use Rattle.table.specs.Refusal.{Checked, checked_fields}
use Rattle.table.proofs.RefusalLaws.{checked-only}
use Rattle.table_file.specs.File.{read_file}
use Rattle.table_file.specs.Write.{Written, written_fields}
use Rattle.table_file.proofs.WrittenLaws.{written-only}
use Rattle.table.proofs.TestLaws.{answered-only}
use Rattle.replay.proofs.OutcomeLaws.{play-only}
use Rattle.on_bytes.specs.Replays.{ReplayOnMachine, ReplayBytesOutcome}
use Rattle.on_bytes.specs.Rewrites.{RewriteBytesOutcome}
use Rattle.places.proofs.ReadingLaws.{on-file}

-- by number and values, then as answers
pub rewrite-fields-only : (file out₀ : List ℕ) (f g : Fields) (x y : List ℕ) → RewriteBytesOutcome file out₀ f x
    → RewriteBytesOutcome file out₀ g y → (f ≡ g) × (x ≡ y)
rewrite-fields-only file out₀ f g x y =
    on-file (read_file file) _ _ _ _ (λ n p s t. (s.0 ∙ sym t.0, s.1 ∙ sym t.1))
    (λ m. answered-only (λ e k l. (e, k ∙ sym l)) (λ d e. (d.0 ∙ sym e.0, d.1 ∙ sym e.1)))

pub rewrite-bytes-only : (file out₀ : List ℕ) (a b : Written) (x y : List ℕ) → RewriteBytesOutcome file out₀ (written_fields a) x
    → RewriteBytesOutcome file out₀ (written_fields b) y → (a ≡ b) × (x ≡ y)
rewrite-bytes-only file out₀ a b x y p q =
    let o = rewrite-fields-only file out₀ (written_fields a) (written_fields b) x y p q in
    (written-only a b o.0, o.1)

-- with a machine that was read
pub replay-machine-only : (m : Machine) (trace : List ℕ) (start : ℕ) (stamps order₀ due₀ : List ℕ) (f g : Fields) (o d o' d' : List ℕ)
    → ReplayOnMachine m trace start stamps order₀ due₀ f o d → ReplayOnMachine m trace start stamps order₀ due₀ g o' d' → (f ≡ g) × (o ≡ o') × (d ≡ d')
replay-machine-only m trace start stamps order₀ due₀ f g o d o' d' p q =
    let x = play-only {R = (o ≡ o') × (d ≡ d')} (λ p q. (p.0 ∙ sym q.0, p.1 ∙ sym q.1))
    (λ l k a b a' b'. (a ∙ sym a', b ∙ sym b')) p q in
    (x.0, x.1.0, x.1.1)

module _ (trace : List ℕ) (start : ℕ) (stamps order₀ due₀ file : List ℕ) where
  pub replay-fields-only : (f g : Fields) (o d o' d' : List ℕ) → ReplayBytesOutcome file trace start stamps order₀ due₀ f o d
      → ReplayBytesOutcome file trace start stamps order₀ due₀ g o' d' → (f ≡ g) × (o ≡ o') × (d ≡ d')
  replay-fields-only f g o d o' d' =
      on-file (read_file file) _ _ _ _
      (λ n p x y. (x.0 ∙ sym y.0, x.1 ∙ sym y.1, x.2 ∙ sym y.2))
      (λ m. replay-machine-only m trace start stamps order₀ due₀ f g o d o' d')

  pub replay-bytes-only : (r s : Checked) (o d o' d' : List ℕ) → ReplayBytesOutcome file trace start stamps order₀ due₀ (checked_fields r) o d
      → ReplayBytesOutcome file trace start stamps order₀ due₀ (checked_fields s) o' d' → (r ≡ s) × (o ≡ o') × (d ≡ d')
  replay-bytes-only r s o d o' d' x y =
      let p = replay-fields-only (checked_fields r) (checked_fields s) o d o' d' x y in
      (checked-only r s p.0, p.1, p.2)
