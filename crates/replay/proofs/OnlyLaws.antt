-- Two outcomes that the contract of a word on places allows are equal.
use mathlib.Core.Path.{◌≡◌, sym, ◌∙◌}
use mathlib.Core.List.{List}
use Prim.Native.Nat.{ℕ}
use Rattle.model.specs.Answers.{Fields}
use Rattle.wire.specs.Bytes.{Bytes}
use Rattle.parts.proofs.WholeLaws.{same_bytes}
use Rattle.table.specs.declared.Row.{Row}
use Rattle.replay.specs.Laid.{WordRun}
use Rattle.replay.specs.OnPlaces.{OnPlaces}
use Rattle.replay.proofs.OutcomeLaws.{word-run-only}

module _ (cells : List Row) (trace : List ℕ) (start : ℕ) (stamps o₀ d₀ : List ℕ) where
  abbrev Run : Fields → List ℕ → List ℕ → Type 0
  Run f o d = OnPlaces (λ o₀ d₀ o d. WordRun cells trace start stamps o₀ d₀ f o d) o₀ d₀ o d

  -- answer, order and due times, each byte of them
  pub word-only : {f g : Fields} {o d o' d' : List ℕ} → Bytes o → Bytes d → Bytes o' → Bytes d' → Run f o d → Run g o' d'
      → (f ≡ g) × (o ≡ o') × (d ≡ d')
  word-only bo bd bo' bd' x y =
      let e = word-run-only x.places y.places in (
        e.0,
        same_bytes 2 bo bo' e.1 (x.order_rest ∙ sym y.order_rest),
        same_bytes 4 bd bd' e.2 (x.due_rest ∙ sym y.due_rest),
      )
