-- Which states can be reached, how far each is from the initial one, and the way there.
use Rattle.std.specs.Prelude.{◌≡◌, Option, Some, None, cond, ◌↔◌, List, [], ◌∷◌, ◌++◌, ℕ, zero, suc, ◌-◌, ◌≤◌, ◌<◌, ltb, length, get_or, drop}
use Rattle.table.specs.declared.Row.{Row}
use Rattle.reach.specs.declared.Ways.{Ways}
use Rattle.model.specs.Table.{Transition, at}
use Rattle.model.specs.Trace.{Reached}
use Rattle.table.specs.Rows.{rows, row_of, said}
use Rattle.table.specs.Fit.{Sound}
use Rattle.table.specs.Tests.{Test, unless}

-- a state's mark: 0 if it was not reached, else one more than its distance
abbrev pub mark : List ℕ → ℕ → ℕ
mark dist s = get_or dist s 0

-- the transition by which a state was reached
abbrev pub way_in : List ℕ → ℕ → ℕ
way_in via s = get_or via s 0

-- transition i arrives in s, from a state with the mark k
pub record LeadsIn (ts : List Transition) (dist : List ℕ) (i s k : ℕ) : Type 0 where
  pub known : i < length ts
  pub arrives : (at ts i).to ≡ s
  pub leaves : mark dist (at ts i).from ≡ k

-- 32 marks and 32 ways in: a state with a mark above 1 has the lowest way in from a state with the mark below, every other state has 0
pub record Linked (ts : List Transition) (dist via : List ℕ) : Type 0 where
  pub marks : length dist ≡ 32
  pub ways : length via ≡ 32
  pub back : (s k : ℕ) → mark dist s ≡ suc (suc k) → LeadsIn ts dist (way_in via s) s (suc k)
  pub lowest : (s k j : ℕ) → mark dist s ≡ suc (suc k) → LeadsIn ts dist j s (suc k) → way_in via s ≤ j
  pub idle : (s : ℕ) → mark dist s ≤ 1 → way_in via s ≡ 0

-- a transition's arrival is reached, at most one step after its departure
pub record Met (dist : List ℕ) (t : Transition) : Type 0 where
  pub reached : 1 ≤ mark dist t.to
  pub near : mark dist t.to ≤ suc (mark dist t.from)

-- breadth first: no transition leads on from a reached state by more than one step
abbrev pub Breadth : List Transition → List ℕ → Type 0
Breadth ts dist = (i : ℕ) → i < length ts → 1 ≤ mark dist (at ts i).from → Met dist (at ts i)

-- the marks tell which states can be reached from s
abbrev pub MarksReached : List Transition → ℕ → List ℕ → Type 0
MarksReached ts s dist = (e : ℕ) → (1 ≤ mark dist e) ↔ Reached ts s e

-- the initial state alone has the mark 1
abbrev pub StartMarks : ℕ → List ℕ → Type 0
StartMarks initial dist = (s : ℕ) → (mark dist s ≡ 1) ↔ (s ≡ initial)

-- what breadth first gives
pub record Reach (ts : List Transition) (initial : ℕ) (dist via : List ℕ) : Type 0 where
  pub linked : Linked ts dist via
  pub start : StartMarks initial dist
  pub most : (s : ℕ) → mark dist s ≤ 32
  pub breadth : Breadth ts dist
  pub tells : MarksReached ts initial dist

-- what the marks are made for: every number of the transitions within its range, an initial state that has a place
pub record Admits (cells : List Row) (count initial : ℕ) : Type 0 where
  pub sound : Sound cells count
  pub inside : initial < 32

-- the tests of a search through cells that nobody tested, before others: 3, then 4 for as many states as a table can have. Equal transitions are
-- not looked for: they do no harm to a search.
abbrev pub after_limits : List Row → ℕ → ℕ → List Test → List Test
after_limits cells count initial more = unless 3 (count ≤ 256) ∷ unless 4 (Admits cells count initial) ∷ more

-- the marks and the ways in, or none where a number is outside its range
abbrev pub ReachOutcome : List Row → ℕ → ℕ → Option Ways → Type 0
ReachOutcome cells count initial (Some w) = Admits cells count initial × Reach (rows cells count) initial w.dist w.via
ReachOutcome cells count initial None = Admits cells count initial → ⊥

-- the last n steps of the way to s, by the ways in; t is the transition at a number
unfoldable pub way_back : (ℕ → Transition) → List ℕ → ℕ → ℕ → List ℕ
way_back t via zero s = []
way_back t via (suc n) s = way_back t via n (t (way_in via s)).from ++ (way_in via s ∷ [])

-- the whole way, from the initial state to s
abbrev pub way_to : List Transition → List ℕ → List ℕ → ℕ → List ℕ
way_to ts dist via s = way_back (at ts) via (mark dist s - 1) s

-- the same by what the numbers name in the cells, whatever the marks; no step where it has no room
unfoldable pub way_within : List Row → List ℕ → List ℕ → ℕ → ℕ → List ℕ
way_within cells dist via s places = cond (ltb places (mark dist s - 1)) [] (way_back (λ i. said (row_of cells i)) via (mark dist s - 1) s)

-- the way to s stands at the front of the trace, n steps; the rest is as it was
pub record WayStands (cells : List Row) (dist via : List ℕ) (s : ℕ) (trace₀ trace : List ℕ) (n : ℕ) : Type 0 where
  pub number : n ≡ length (way_within cells dist via s (length trace₀))
  pub traced : trace ≡ way_within cells dist via s (length trace₀) ++ drop n trace₀
