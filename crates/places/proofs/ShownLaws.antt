-- The call on bytes by the call on values, and what two of its outcomes agree in: once for every call that may show a trace.
use Rattle.std.specs.Prelude.{IfSome, Bool, true, false}
use Rattle.std.specs.Bool.{then_some}
use mathlib.Core.Path.{◌≡◌, refl, sym, ap, ◌∙◌}
use mathlib.Core.List.{List, [], ◌∷◌}
use Prim.Native.Nat.{ℕ, zero, suc, ◌+◌, ◌*◌, ◌/◌, ◌≤◌, ◌<◌}
use native.Mathlib.Omega.{arith}
use lib.ListN.{length, take, drop, length-append}
use Rattle.model.specs.Answers.{Fields, fields, Tells}
use Rattle.model.specs.Lists.{All, all_nil, all_cons, over}
use Rattle.model.specs.Table.{Machine, Valid}
use Rattle.wire.specs.Bytes.{bytes, placed, Bytes, les, le, wholes}
use Rattle.wire.proofs.Bytes.{Held, les-bytes, length-bytes}
use Rattle.table_file.specs.File.{read_file}
use Rattle.table.specs.Tests.{Test, unless, Passes, Fails, after_table, Answered, refuses, answers}
use Rattle.table.specs.Showing.{Showing, says_none, says_shown, ShownOn, shown_in, Agree}
use Rattle.table.proofs.TestLaws.{Numbered, passes-fails}
use Rattle.table.proofs.ShowingLaws.{Pinned, showing-map, told_is, told-plain, told-agree, told-only}
use Rattle.table_file.proofs.FileLaws.{sound, places}
use Rattle.places.specs.ShownBytes.{room_tests, ShownBytes, ShownOnFile}
use Rattle.places.proofs.PlaceLaws.{both-none, both-over}
use Rattle.places.proofs.AgreeLaws.{after-fails}
use Rattle.places.proofs.ReadingLaws.{of-file}

-- a quiet answer at sight, where the test tells what is so of the machine
pub sighted : {A P Quiet : Type 0} (said : A → Fields) (b : Bool) (x : A) → said x ≡ fields 0 0 0 0 → (P → Quiet) → Tells b P
    → IfSome (then_some b x) (λ a. (said a ≡ fields 0 0 0 0) × Quiet)
sighted said true x e quiet p = (e, quiet p)
sighted said false x e quiet p = tt

-- the call on values with a and b places t₀ and s₀, made for a valid machine
module _ (m : Machine) (valid : Valid m) (a b : ℕ) (t₀ s₀ : List ℕ) (long : (length t₀ ≡ a) × (length s₀ ≡ b)) {Quiet : Type 0}
    {Shows : Fields → List ℕ → List ℕ → Type 0} {f : Fields} {u v : List ℕ}
    (made : ShownOn (after_table m (unless 8 ((a ≤ length t₀) × (b ≤ length s₀)) ∷ [])) Quiet Shows t₀ s₀ f u v) where
  -- no test is left that could fail
  never : (n p : ℕ) → Fails (after_table m (unless 8 ((a ≤ length t₀) × (b ≤ length s₀)) ∷ [])) n p → ⊥
  never n p x =
      let tests : List Test = unless 8 ((a ≤ length t₀) × (b ≤ length s₀)) ∷ [] in
      passes-fails tests n p ((omega arith, omega arith), tt) (after-fails m valid tests n p x)

  pub made-showing : Showing Quiet Shows ((u ≡ t₀) × (v ≡ s₀)) (λ l s. (u ≡ over l t₀) × (v ≡ over s s₀)) f
  made-showing = by made
    where
      by : ShownOn (after_table m (unless 8 ((a ≤ length t₀) × (b ≤ length s₀)) ∷ [])) Quiet Shows t₀ s₀ f u v
          → Showing Quiet Shows ((u ≡ t₀) × (v ≡ s₀)) (λ l s. (u ≡ over l t₀) × (v ≡ over s s₀)) f
      by (refuses {n = n} {p = p} e x k) = absurd (never n p x)
      by (answers p d) = d

  -- behind bytes with as much room, n trace places and k stamp places written back: none of a quiet answer, all that is shown
  module _ (trace₀ stamps₀ : List ℕ) (room : Passes (room_tests a b trace₀ stamps₀)) (n k : ℕ) {trace stamps : List ℕ}
      (twos : trace ≡ placed trace₀ 0 (bytes 2 (take n u))) (fours : stamps ≡ placed stamps₀ 0 (bytes 4 (take k v)))
      (none : f ≡ fields 0 0 0 0 → (n ≡ 0) × (k ≡ 0)) (all : (l s : List ℕ) → Shows f l s → (length l ≡ n) × (length s ≡ k) × (n ≤ a) × (k ≤ b)) where
    pub shown-bytes : ShownBytes (room_tests a b trace₀ stamps₀) Quiet Shows trace₀ stamps₀ f trace stamps
    shown-bytes = answers room (by made-showing)
      where
        by : Showing Quiet Shows ((u ≡ t₀) × (v ≡ s₀)) (λ l s. (u ≡ over l t₀) × (v ≡ over s s₀)) f
            → Showing Quiet Shows ((trace ≡ trace₀) × (stamps ≡ stamps₀)) (λ l s. (trace ≡ over (bytes 2 l) trace₀) × (stamps ≡ over (bytes 4 s) stamps₀)) f
        by (says_none e q p) = let o = none e in says_none e q (both-none n k u v trace₀ stamps₀ twos fours o.0 o.1)
        by (says_shown {trace = l} {stamps = s} x p) =
            let o = all l s x in
            says_shown x (both-over n k u v trace₀ stamps₀ twos fours l s t₀ s₀ o.0 o.1 (omega (arith, room, o.2)) (omega (arith, room, o.3)) p)

-- the first of numbers in a row
take-les : (w n k : ℕ) (l : List ℕ) (j : ℕ) → n ≤ k → take n (les w k l j) ≡ les w n l j
take-les w zero k l j h = refl
take-les w (suc n) zero l j h = absurd (omega arith)
take-les w (suc n) (suc k) l j h = ap (λ (r : List ℕ). le w l j ∷ r) (take-les w n k l (j + w) (omega arith))

-- numbers that are written over lent bytes stand first in them
numbers-front : (l old : List ℕ) → Held 2 l → take (length l) (wholes 2 (over (bytes 2 l) old)) ≡ l
numbers-front l old f =
    let rest : List ℕ = drop (length (bytes 2 l)) old in
    let long : length (over (bytes 2 l) old) ≡ length l * 2 + length rest = length-append (bytes 2 l) rest ∙ rw (length-bytes 2 l) in
    take-les 2 (length l) (length (over (bytes 2 l) old) / 2) (over (bytes 2 l) old) 0 (omega arith) ∙ les-bytes 2 l rest f

-- numbers of transitions fit two bytes
pub known-fits : (n : ℕ) → n ≤ 256 → {l : List ℕ} → All (λ i. i < n) l → Held 2 l
known-fits n few all_nil = tt
known-fits n few (all_cons h a) = (omega arith, known-fits n few a)

-- what the calls that show a trace have in common: what is pinned, and that a shown trace names transitions of the table
module _ {Quiet : Machine → Type 0} {Shows : Machine → Fields → List ℕ → List ℕ → Type 0} {Same : Fields → List ℕ → Fields → List ℕ → Type 0}
    (pinned : (m : Machine) → Pinned (Quiet m) (Shows m) Same)
    (known : (m : Machine) (f : Fields) (l s : List ℕ) → Shows m f l s → All (λ i. i < length m.transitions) l)
    (a b : ℕ) (trace₀ stamps₀ : List ℕ) where
  numbered : Numbered (room_tests a b trace₀ stamps₀)
  numbered = omega arith

  -- every shown trace fits two bytes a step
  fitting : (m : Machine) → length m.transitions ≤ 256 → {f : Fields} {trace stamps : List ℕ}
      → ShownBytes (room_tests a b trace₀ stamps₀) (Quiet m) (Shows m) trace₀ stamps₀ f trace stamps
      → Answered (room_tests a b trace₀ stamps₀) (Showing (Quiet m) (Shows m) ((trace ≡ trace₀) × (stamps ≡ stamps₀))
      (λ l s. Held 2 l × ((trace ≡ over (bytes 2 l) trace₀) × (stamps ≡ over (bytes 4 s) stamps₀)))) ((trace ≡ trace₀) × (stamps ≡ stamps₀)) f
  fitting m few (refuses e x k) = refuses e x k
  fitting m few {f = f} (answers p d) = answers p (showing-map (λ k. k) (λ l s x q. (known-fits _ few (known m f l s x), q)) d)

  reads : (trace stamps l s : List ℕ) → Held 2 l × ((trace ≡ over (bytes 2 l) trace₀) × (stamps ≡ over (bytes 4 s) stamps₀))
      → take (length l) (wholes 2 trace) ≡ l
  reads trace stamps l s p = rw p.1.0 (numbers-front l trace₀ p.0)

  -- the numbers in the trace memory say which trace is shown
  module _ (file : List ℕ) (read : Bytes file) where
    abbrev Out : Fields → List ℕ → List ℕ → Type 0
    Out f trace stamps = ShownOnFile a b Quiet Shows file trace₀ stamps₀ f trace stamps

    -- what is so of every shown trace
    pub bytes-is : (f : Fields) (trace stamps : List ℕ) (P : List ℕ → Type 0) → ((m : Machine) (l s : List ℕ) → Shows m f l s → P l) → 256 ≤ f.status
        → Out f trace stamps → P (shown_in f (wholes 2 trace))
    bytes-is f trace stamps P h n x =
        of-file (read_file file) _ _ (λ i p e k. absurd (omega (arith, (places file i p e).last, ap (λ x. x.status) k.0)))
        (λ m e k. told_is (pinned m) numbered (reads trace stamps) P (h m) n (fitting m (sound file m read e).0.few k)) x

    -- a quiet answer and a refusal show no trace
    none_shown : (f : Fields) (trace stamps : List ℕ) → Out f trace stamps → f.status < 256 → f.steps ≡ 0
    none_shown f trace stamps x h =
        of-file (read_file file) _ _ (λ n p e k. ap (λ x. x.steps) k.0) (λ m e k. told-plain (pinned m) numbered h k) x

    module _ (f g : Fields) (trace stamps trace' stamps' : List ℕ) (x : Out f trace stamps) (y : Out g trace' stamps') where
      -- whatever traces they show
      pub bytes-agree : Agree Same f (wholes 2 trace) g (wholes 2 trace')
      bytes-agree =
          of-file (read_file file) _ _
          (λ n p e k.
          let l = rw e at y in
          let q : f ≡ g = k.0 ∙ sym l.0 in
          record {
            kind = ap (λ x. x.status) q;
            plain = λ h. q;
            shown = λ h. absurd (omega (arith, (places file n p e).last, ap (λ x. x.status) k.0));
          })
          (λ m e k.
          let few = (sound file m read e).0.few in
          told-agree (pinned m) numbered (reads trace stamps) (reads trace' stamps') (fitting m few k) (fitting m few (rw e at y))) x

      -- two outcomes that show one trace are equal: fields, trace memory and stamp memory
      pub bytes-only : shown_in f (wholes 2 trace) ≡ shown_in g (wholes 2 trace') → (f ≡ g) × (trace ≡ trace') × (stamps ≡ stamps')
      bytes-only h = let o = both in (o.0, o.1.0, o.1.1)
        where
          both : (f ≡ g) × ((trace ≡ trace') × (stamps ≡ stamps'))
          both =
              of-file (read_file file) _ _ (λ n p e k. let l = rw e at y in (k.0 ∙ sym l.0, (k.1 ∙ sym l.1, k.2 ∙ sym l.2)))
              (λ m e k.
              let few = (sound file m read e).0.few in
              told-only (pinned m) (reads trace stamps) (reads trace' stamps') (fitting m few k) (fitting m few (rw e at y))
              (λ k l. (k.0 ∙ sym l.0, k.1 ∙ sym l.1)) (λ l s p q. (p.1.0 ∙ sym q.1.0, p.1.1 ∙ sym q.1.1)) h) x

      -- so are two that show nothing
      pub bytes-plain-only : f.status < 256 → (f ≡ g) × (trace ≡ trace') × (stamps ≡ stamps')
      bytes-plain-only h =
          let e : f ≡ g = bytes-agree.plain h in
          let n : f.steps ≡ 0 = none_shown f trace stamps x h in
          bytes-only (rw (← e, n) refl)
