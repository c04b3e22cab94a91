-- Walks of a table with their sums, the transitions that start a pair of what is asked (`goal`), and what is answered and written of them.
use Rattle.std.specs.Prelude.{◌≡◌, ◌⊎◌, Option, Some, None, List, [], ◌∷◌, ◌++◌, ℕ, ◌+◌, ◌≤◌, ◌<◌, length, get_or, take, drop}
use Rattle.model.specs.Table.{Transition, InRange, at}
use Rattle.model.specs.Trace.{Trace, steps}
use Rattle.model.specs.Span.{span, late_sum}
use Rattle.model.specs.Criterion.{WalkTo}
use Rattle.criterion.specs.declared.Goal.{Goal}
use Rattle.criterion.specs.Goals.{Meets}
use Rattle.table.specs.Rows.{rows}
use Rattle.table.specs.Fit.{Sound}
use Rattle.table.specs.declared.Row.{Row}

-- t is transition i of the table
pub record Seen (ts : List Transition) (i : ℕ) (t : Transition) : Type 0 where
  pub known : i < length ts
  pub here : at ts i ≡ t
  pub fine : InRange 32 t

-- some walk from s to e has a sum of u of at most top and a sum of late gaps of b
pub record Walk (ts : List Transition) (s e top b : ℕ) : Type 0 where
  pub way : List ℕ
  pub path : Trace ts s way e
  pub fits : (span (steps ts way)).u ≤ top
  pub late : late_sum (steps ts way) ≡ b

-- after transition k a walk and then m: a pair of what is asked
abbrev pub EndsIn : Goal → List Transition → ℕ → ℕ → Type 0
EndsIn goal = WalkTo (Meets goal)

-- transition k can be followed by such a walk and end
pub record Followed (goal : Goal) (ts : List Transition) (k : ℕ) : Type 0 where
  pub m : ℕ
  pub to : EndsIn goal ts k m

-- transition k arrives in s and leaves a marked state
pub record Arrives (ts : List Transition) (dist : List ℕ) (s k : ℕ) : Type 0 where
  pub known : k < length ts
  pub to : (at ts k).to ≡ s
  pub leaves : 1 ≤ get_or dist (at ts k).from 0

-- and it can be step k of a pair
pub record StartsAt (goal : Goal) (ts : List Transition) (dist : List ℕ) (s k : ℕ) : Type 0 where
  pub arrives : Arrives ts dist s k
  pub after : Followed goal ts k

-- transition k leaves a marked state and can be step k of a pair
abbrev pub Starts : Goal → List Transition → List ℕ → ℕ → Type 0
Starts goal ts dist k = StartsAt goal ts dist (at ts k).to k

-- the least number of which P holds, if there is one
abbrev pub Least : (ℕ → Type 0) → Option ℕ → Type 0
Least P (Some k) = P k × ((x : ℕ) → x < k → P x → ⊥)
Least P None = (x : ℕ) → P x → ⊥

-- the answer of `lowest`: in cells within their limits the least start, in others none
abbrev pub LowestStart : Goal → List Row → ℕ → List ℕ → Option ℕ → Type 0
LowestStart goal cells count dist r = Least (λ k. Sound cells count × Starts goal (rows cells count) dist k) r

-- some number below n of which P holds
pub record Among (P : ℕ → Type 0) (n : ℕ) : Type 0 where
  pub x : ℕ
  pub known : x < n
  pub holds : P x

-- from place p on stand k, a walk and m, n steps in all; the other places are as in old
pub record ShownWalk (goal : Goal) (ts : List Transition) (k m p : ℕ) (old out : List ℕ) (n : ℕ) : Type 0 where
  pub to : EndsIn goal ts k m
  pub number : n ≡ length to.rest + 2
  pub few : n ≤ 239
  pub traced : out ≡ take p old ++ ((k ∷ (to.rest ++ (m ∷ []))) ++ drop (p + n) old)

-- the same with the least m
pub record ShownLeast (goal : Goal) (ts : List Transition) (k p : ℕ) (old out : List ℕ) (n : ℕ) : Type 0 where
  pub m : ℕ
  pub walk : ShownWalk goal ts k m p old out n
  pub least : (x : ℕ) → x < m → EndsIn goal ts k x → ⊥

-- the same where k starts a pair; where it starts none, nothing
abbrev pub ShownIfAny : Goal → List Transition → ℕ → ℕ → List ℕ → List ℕ → ℕ → Type 0
ShownIfAny goal ts k p old out n = ShownLeast goal ts k p old out n ⊎ ((Followed goal ts k → ⊥) × (n ≡ 0) × (out ≡ old))

-- a walk from k can be shown: cells within their limits, k one of their transitions that starts a pair, room from place p on
pub record CanShow (goal : Goal) (cells : List Row) (count k p : ℕ) (old : List ℕ) : Type 0 where
  pub sound : Sound cells count
  pub known : k < count
  pub room : p + 239 ≤ length old
  pub after : Followed goal (rows cells count) k

-- what `write_walk` leaves: such a walk, or nothing where none can be shown
abbrev pub WalkOutcome : Goal → List Row → ℕ → ℕ → ℕ → List ℕ → List ℕ → ℕ → Type 0
WalkOutcome goal cells count k p old out n =
    (CanShow goal cells count k p old × ShownLeast goal (rows cells count) k p old out n)
    ⊎ ((CanShow goal cells count k p old → ⊥) × (n ≡ 0) × (out ≡ old))

-- two outcomes for one input: both show a walk, with one end, or both write nothing. Which walk is shown is free
abbrev pub WalksAgree : Goal → List Transition → ℕ → ℕ → List ℕ → List ℕ → ℕ → List ℕ → ℕ → Type 0
WalksAgree goal ts k p old a x b y =
    ((s : ShownLeast goal ts k p old a x) × (t : ShownLeast goal ts k p old b y) × (s.m ≡ t.m))
    ⊎ ((x ≡ 0) × (y ≡ 0) × (a ≡ old) × (b ≡ old))
