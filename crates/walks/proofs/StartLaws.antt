-- The answer of a search for the lowest start, whatever is asked: that there is one, and what it means to a caller.
use mathlib.Core.Path.{◌≡◌, refl}
use mathlib.Core.Logic.{◌↔◌, dite}
use mathlib.Core.List.{List}
use Prim.Native.Nat.{ℕ, ◌≤◌}
use native.Mathlib.Decide.{dec_lt}
use native.Mathlib.Omega.{arith}
use lib.ListN.{get_or}
use Rattle.model.specs.Table.{Transition, Machine, at}
use Rattle.model.specs.Trace.{Reached}
use Rattle.model.specs.Criterion.{WalkFrom}
use Rattle.criterion.specs.declared.Goal.{Goal}
use Rattle.criterion.specs.declared.Goal.TheVariants.{Turns, Overtakes}
use Rattle.criterion.specs.Goals.{Meets}
use Rattle.table.specs.declared.Row.{Row}
use Rattle.table.specs.Rows.{rows}
use Rattle.table.specs.Fit.{Sound}
use Rattle.std.specs.Prelude.{Option, Some, None}
use Rattle.walks.specs.Walks.{Seen, Followed, Starts, Least, LowestStart}
use Rattle.walks.proofs.OutcomeLaws.{least-only}

-- the answer for cells within their limits, from and to the least start
module _ (goal : Goal) (c : List Row) (n : ℕ) (dist : List ℕ) where
  pub lowest-sound : Sound c n → (r : Option ℕ) → Least (Starts goal (rows c n) dist) r → LowestStart goal c n dist r
  lowest-sound z (Some k) l = ((z, l.0), λ x h p. l.1 x h p.1)
  lowest-sound z None l = λ x p. l x p.1

  pub lowest-within : Sound c n → (r : Option ℕ) → LowestStart goal c n dist r → Least (Starts goal (rows c n) dist) r
  lowest-within z (Some k) l = (l.0.1, λ x h p. l.1 x h (z, p))
  lowest-within z None l = λ x p. l x (z, p)

-- two outcomes of a search for the lowest start are equal
pub lowest-only : (goal : Goal) (c : List Row) (n : ℕ) (dist : List ℕ) (r q : Option ℕ) → LowestStart goal c n dist r → LowestStart goal c n dist q → r ≡ q
lowest-only goal c n dist = least-only (λ k. Sound c n × Starts goal (rows c n) dist k)

-- a transition that leaves a state without a mark starts nothing
pub not-marked : {ts : List Transition} {k : ℕ} {t : Transition} → Seen ts k t → (goal : Goal) (dist : List ℕ) → get_or dist t.from 0 ≡ 0 → Starts goal ts dist k → ⊥
not-marked z goal dist h s = let l = rw z.here at s.arrives.leaves in omega arith

-- what turns is overtaken
starts-overtaken : (goal : Goal) {ts : List Transition} {dist : List ℕ} {k : ℕ} → Starts goal ts dist k → Starts Overtakes ts dist k
starts-overtaken Turns p =
    let t = p.after.to in
    record {
      arrives = p.arrives;
      after = record { m = p.after.m; to = record { rest = t.rest; end = t.end; walk = t.walk; meets = t.meets.above } };
    }
starts-overtaken Overtakes p = p

pub none-overtaken : (goal : Goal) {c : List Row} {n : ℕ} {dist : List ℕ} → LowestStart Overtakes c n dist None → LowestStart goal c n dist None
none-overtaken goal l x p = l x (p.0, starts-overtaken goal p.1)

-- what is overtaken first is the lowest start of what it starts
pub first-overtaken : (goal : Goal) {c : List Row} {n : ℕ} {dist : List ℕ} {k : ℕ} → LowestStart Overtakes c n dist (Some k) → Followed goal (rows c n) k
    → LowestStart goal c n dist (Some k)
first-overtaken goal l f = (
  (l.0.0, record { arrives = l.0.1.arrives; after = f }),
  λ x h p. l.1 x h (p.0, starts-overtaken goal p.1),
)

-- where the marks tell which states can be reached, a start is a walk of what is asked
module _ (goal : Goal) (m : Machine) (dist : List ℕ) (meant : (s : ℕ) → (1 ≤ get_or dist s 0) ↔ Reached m.transitions m.initial s) where
  pub starts-law : (k : ℕ) → Starts goal m.transitions dist k ↔ WalkFrom (Meets goal) m k
  starts-law k = (
    λ p. record {
      reached = (meant (at m.transitions k).from).0 p.arrives.leaves;
      known = p.arrives.known;
      j = p.after.m;
      after = p.after.to;
    },
    λ t. record {
      arrives = record { known = t.known; to = refl; leaves = (meant (at m.transitions k).from).1 t.reached };
      after = record { m = t.j; to = t.after };
    },
  )

  pub lowest-met : (k : ℕ) → Least (Starts goal m.transitions dist) (Some k) → WalkFrom (Meets goal) m k × ((i : ℕ) → WalkFrom (Meets goal) m i → k ≤ i)
  lowest-met k l = ((starts-law k).0 l.0, λ i t. dite (dec_lt i k) (λ h. absurd (l.1 i h ((starts-law i).1 t))) (λ n. omega arith))

  pub lowest-unmet : Least (Starts goal m.transitions dist) None → (i : ℕ) → WalkFrom (Meets goal) m i → ⊥
  lowest-unmet l i t = l i ((starts-law i).1 t)
