-- Number and place fix the case of a refusal, and so an answer's fields the answer.
use Rattle.std.specs.Prelude.{Ok, Err}
use mathlib.Core.Path.{◌≡◌, refl, sym, ap, ◌∙◌}
use mathlib.Core.List.{[], ◌∷◌}
use Prim.Native.Nat.{ℕ, ◌≤◌}
use native.Mathlib.Omega.{arith}
use lib.ListN.{get_or}
use Rattle.table.specs.declared.Refusal.{Refusal}
use Rattle.table.specs.declared.Refusal.TheVariants.{Cut, Misplaced, Full, OutOfRange, Repeated, NoTrace, Uneven, NoRoom, Early, Late}
use Rattle.table.specs.Refusal.{Checked}
use Rattle.table.specs.Refusal.{refusal_number, refusal_place, refused_fields, checked_fields}

-- the case of a number and a place
made : ℕ → ℕ → Refusal
made n p =
    get_or (NoTrace ∷ Cut p ∷ Misplaced p ∷ Full p ∷ OutOfRange p ∷ Repeated p ∷ NoTrace ∷ Uneven ∷ NoRoom ∷ Early p ∷ NoTrace ∷ NoTrace ∷ Late p ∷ [])
    n NoTrace

made-is : (r : Refusal) → made (refusal_number r) (refusal_place r) ≡ r
unfolding made
made-is (Cut p) = refl
made-is (Misplaced p) = refl
made-is (Full p) = refl
made-is (OutOfRange p) = refl
made-is (Repeated p) = refl
made-is NoTrace = refl
made-is Uneven = refl
made-is NoRoom = refl
made-is (Early p) = refl
made-is (Late p) = refl

pub refusal-only : (r s : Refusal) → refusal_number r ≡ refusal_number s → refusal_place r ≡ refusal_place s → r ≡ s
refusal-only r s e f = sym (made-is r) ∙ rw (e, f) (made-is s)

-- a refusal's number is neither 0 nor a verdict's
pub refusal-some : (r : Refusal) → (1 ≤ refusal_number r) × (refusal_number r ≤ 255)
refusal-some (Cut p) = omega arith
refusal-some (Misplaced p) = omega arith
refusal-some (Full p) = omega arith
refusal-some (OutOfRange p) = omega arith
refusal-some (Repeated p) = omega arith
refusal-some NoTrace = omega arith
refusal-some Uneven = omega arith
refusal-some NoRoom = omega arith
refusal-some (Early p) = omega arith
refusal-some (Late p) = omega arith

-- equal fields of two refusals
pub refused-only : (r s : Refusal) → refused_fields r ≡ refused_fields s → r ≡ s
refused-only r s e = refusal-only r s (ap (λ f. f.status) e) (ap (λ f. f.first) e)

pub checked-only : (a b : Checked) → checked_fields a ≡ checked_fields b → a ≡ b
checked-only (Ok x) (Ok y) e = refl
checked-only (Ok x) (Err s) e = absurd (omega (arith, refusal-some s, ap (λ f. f.status) e))
checked-only (Err r) (Ok x) e = absurd (omega (arith, refusal-some r, ap (λ f. f.status) e))
checked-only (Err r) (Err s) e = ap Err (refused-only r s e)
