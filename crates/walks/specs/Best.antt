-- The table of greatest late sums: a row for each sum of u, a column for each state.
use Rattle.std.specs.Prelude.{◌≡◌, List, [], ◌∷◌, ◌++◌, ℕ, suc, ◌+◌, ◌*◌, ◌≤◌, ◌<◌, get_or, length, drop}
use Rattle.model.specs.Lists.{All}
use Rattle.model.specs.Table.{Transition, InRange, at}
use Rattle.model.specs.Trace.{Trace, steps}
use Rattle.model.specs.Span.{span, late_sum}
use Rattle.model.specs.Shown.{late_gap}
use Rattle.model.specs.Criterion.{slack}
use Rattle.criterion.specs.declared.Goal.{Goal}
use Rattle.criterion.specs.declared.Goal.TheVariants.{Turns, Overtakes}
use Rattle.criterion.specs.Goals.{Meets, Possible}
use Rattle.walks.specs.Walks.{Walk, Among}

-- the number in row a at state e
abbrev pub cell : List ℕ → ℕ → ℕ → ℕ
cell best a e = get_or best (a * 32 + e) 0

-- row a: 0 where no walk with a sum of u of at most a ends, else one more than the greatest late sum of such walks
pub record Exact (ts : List Transition) (s : ℕ) (best : List ℕ) (a : ℕ) : Type 0 where
  pub real : (e b : ℕ) → e < 32 → cell best a e ≡ suc b → Walk ts s e a b
  pub most : (e b : ℕ) → e < 32 → Walk ts s e a b → b < cell best a e

-- the first n rows
pub record Filled (ts : List Transition) (s : ℕ) (best : List ℕ) (n : ℕ) : Type 0 where
  pub row : (a : ℕ) → a < n → Exact ts s best a

-- row a in the making: the first i transitions are done
pub record Part (ts : List Transition) (s : ℕ) (best : List ℕ) (a i : ℕ) : Type 0 where
  pub real : (e b : ℕ) → e < 32 → cell best a e ≡ suc b → Walk ts s e a b
  pub kept : (b e : ℕ) → a ≡ b + 1 → e < 32 → cell best b e ≤ cell best a e
  pub goes : (j b : ℕ) → j < i → a ≡ b + (at ts j).u → 1 ≤ cell best b (at ts j).from
      → cell best b (at ts j).from + late_gap (at ts j) ≤ cell best a (at ts j).to

-- room for the numbers of walks from s: 239 rows of 32
pub record Roomy (ts : List Transition) (s : ℕ) (best : List ℕ) : Type 0 where
  pub fine : All (InRange 32) ts
  pub start : s < 32
  pub size : length best ≡ 7648

pub record Making (ts : List Transition) (s : ℕ) (best : List ℕ) (a i : ℕ) : Type 0 where
  pub roomy : Roomy ts s best
  pub low : 1 ≤ a
  pub high : a ≤ 238
  pub done : Filled ts s best a
  pub part : Part ts s best a i

-- row p + 1 is a copy of row p as far as state i, and all before is as it was
pub record Copied (old best : List ℕ) (p i : ℕ) : Type 0 where
  pub same : (k : ℕ) → k < p * 32 + 32 → get_or best k 0 ≡ get_or old k 0
  pub here : (e : ℕ) → e < i → get_or best (p * 32 + 32 + e) 0 ≡ get_or old (p * 32 + e) 0
  pub size : length best ≡ length old

-- row 0 has s alone
pub record First (best : List ℕ) (s : ℕ) : Type 0 where
  pub size : length best ≡ 7648
  pub one : get_or best s 0 ≡ 1
  pub others : (e : ℕ) → e < 32 → (e ≡ s → ⊥) → get_or best e 0 ≡ 0

-- m ends a pair whose first step is k, by the number of the walks between them with which m is above
pub record Closes (goal : Goal) (k m : Transition) (number : ℕ) : Type 0 where
  pub late : ℕ
  pub some : number ≡ suc late
  pub meets : Meets goal k m m.u (late + late_gap m)

-- rows enough for every possible end of a pair whose first step k arrives in s
pub record Ready (goal : Goal) (ts : List Transition) (s k : ℕ) (best : List ℕ) : Type 0 where
  pub roomy : Roomy ts s best
  pub depth : ℕ
  pub filled : Filled ts s best depth
  pub covers : (m : ℕ) → m < length ts → Possible goal (at ts k) (at ts m) → slack (at ts k) (at ts m) < depth

-- rows enough for what follows transition k
abbrev pub ReadyFor : Goal → List Transition → ℕ → List ℕ → Type 0
ReadyFor goal ts k best = Ready goal ts (at ts k).to k best

-- transition j is the last step of a walk that gives the number in row a at e
pub record Explains (ts : List Transition) (best : List ℕ) (e a j : ℕ) : Type 0 where
  pub to : (at ts j).to ≡ e
  pub left : ℕ
  pub whole : a ≡ left + (at ts j).u
  pub some : 1 ≤ cell best left (at ts j).from
  pub sum : cell best left (at ts j).from + late_gap (at ts j) ≡ cell best a e

abbrev pub Explained : List Transition → List ℕ → ℕ → ℕ → Type 0
Explained ts best e a = Among (Explains ts best e a) (length ts)

-- the number with which a walk is shown, for the number x of the last row: a pair that turns needs the greatest late sum, one that overtakes
-- only a walk, and the least sum of u has no cycle in it
abbrev pub asked : Goal → ℕ → ℕ
asked Turns x = x
asked Overtakes x = 1

-- a is the least row whose number at state e is at least `enough`
pub record LeastRow (best : List ℕ) (e top enough a : ℕ) : Type 0 where
  pub within : a ≤ top
  pub reaches : enough ≤ cell best a e
  pub least : (b : ℕ) → b < a → enough ≤ cell best b e → ⊥

-- row a has a number at e that no row before it has: its walks have the sum a of u
pub record Stands (ts : List Transition) (s : ℕ) (best : List ℕ) (e a : ℕ) : Type 0 where
  pub roomy : Roomy ts s best
  pub filled : Filled ts s best (a + 1)
  pub state : e < 32
  pub high : a ≤ 238
  pub some : 1 ≤ cell best a e
  pub least : (b : ℕ) → b < a → cell best b e ≡ cell best a e → ⊥

-- where the walk back stands: at transition j, the last step of a walk from s whose sum of u is `sum`, j's own with it
pub record Back (ts : List Transition) (s : ℕ) (best : List ℕ) (j sum : ℕ) : Type 0 where
  pub known : j < length ts
  pub left : ℕ
  pub whole : sum ≡ left + (at ts j).u
  pub stands : Stands ts s best (at ts j).from left

-- the sum from which end m is walked back, so that k, the walk and m are what is asked
pub record EndSum (goal : Goal) (ts : List Transition) (k m : ℕ) (best : List ℕ) (sum : ℕ) : Type 0 where
  pub back : Back ts (at ts k).to best m sum
  pub few : sum ≤ 238
  pub late : ℕ
  pub some : cell best back.left (at ts m).from ≡ suc late
  pub meets : Meets goal (at ts k) (at ts m) sum (late + late_gap (at ts m))

-- right before place `to` stands a walk from s that ends with j, from place p on, whose sum of u is `sum` and whose late sum before j is the
-- number's; behind it stands what stood there
pub record Went (ts : List Transition) (s : ℕ) (best : List ℕ) (j sum to : ℕ) (old out : List ℕ) (p : ℕ) : Type 0 where
  pub rest : List ℕ
  pub path : Trace ts s rest (at ts j).from
  pub whole : sum ≡ (span (steps ts rest)).u + (at ts j).u
  pub late : cell best (span (steps ts rest)).u (at ts j).from ≡ suc (late_sum (steps ts rest))
  pub number : to ≡ p + (length rest + 1)
  pub short : length rest + 1 ≤ sum
  pub traced : drop p out ≡ (rest ++ (j ∷ [])) ++ drop to old
  pub size : length out ≡ length old
