-- The table of what is kept: a row for each sum, a column for each state.
use Rattle.std.specs.Prelude.{◌≡◌, ◌⊎◌, List, ℕ, ◌+◌, ◌*◌, ◌%◌, ◌/◌, ◌≤◌, ◌<◌, get_or, length}
use Rattle.model.specs.Lists.{All}
use Rattle.model.specs.Table.{Transition, InRange, at}
use Rattle.starts.specs.declared.kept.Entry.{Entry}
use Rattle.starts.specs.Kept.{Kept, entry_of}
use Rattle.starts.specs.Runs.{Run, Under}

-- the two numbers of an entry in one
abbrev pub both : Entry → ℕ
both a = a.first + a.second * 65536

-- the entry at place p, the numbers in one list and the letters in another
abbrev pub placed : List ℕ → List ℕ → ℕ → Entry
placed numbers letters p = entry_of (get_or numbers p 0 % 65536) (get_or letters p 0) (get_or numbers p 0 / 65536)

-- the entry in row b at state s
abbrev pub cell : List ℕ → List ℕ → ℕ → ℕ → Entry
cell numbers letters b s = placed numbers letters (b * 32 + s)

-- no end is kept from place k on
pub record Blank (numbers : List ℕ) (k : ℕ) : Type 0 where
  pub none : (x : ℕ) → k ≤ x → get_or numbers x 0 ≡ 0

-- the first n rows keep what they are to keep, and the others nothing
pub record Filled (ts : List Transition) (numbers letters : List ℕ) (n : ℕ) : Type 0 where
  pub row : (b s : ℕ) → b < n → s < 32 → Kept (Run ts s b) (cell numbers letters b s)
  pub blank : Blank numbers (n * 32)

-- none of the first i transitions can end a walk in a row before r, which is at most n
pub record EndsFrom (ts : List Transition) (i n r : ℕ) : Type 0 where
  pub most : r ≤ n
  pub none : (m : ℕ) → m < i → r ≤ (at ts m).u + (at ts m).d

-- row b in the making: the first i transitions are done
pub record Making (ts : List Transition) (numbers letters : List ℕ) (b i : ℕ) : Type 0 where
  pub fine : All (InRange 32) ts
  pub sized : length letters ≡ length numbers
  pub room : b * 32 + 32 ≤ length numbers
  pub done : (a s : ℕ) → a < b → s < 32 → Kept (Run ts s a) (cell numbers letters a s)
  pub part : (s : ℕ) → s < 32 → Kept (Under ts s b i) (cell numbers letters b s)
  pub blank : Blank numbers (b * 32 + 32)

-- r is the greater of n and the delay of t, or n where t leaves no marked state
pub record MoreRows (dist : List ℕ) (t : Transition) (n r : ℕ) : Type 0 where
  pub more : n ≤ r
  pub enough : 1 ≤ get_or dist t.from 0 → t.d ≤ r
  pub most : (r ≡ n) ⊎ (r ≡ t.d)

-- n rows are enough for the first i transitions that leave a marked state
pub record Covers (ts : List Transition) (dist : List ℕ) (i n : ℕ) : Type 0 where
  pub most : n ≤ 240
  pub enough : (k : ℕ) → k < i → 1 ≤ get_or dist (at ts k).from 0 → (at ts k).d ≤ n

-- rows enough for every transition that leaves a marked state
pub record Ready (ts : List Transition) (dist numbers letters : List ℕ) : Type 0 where
  pub sized : length letters ≡ length numbers
  pub n : ℕ
  pub room : n * 32 ≤ length numbers
  pub covers : Covers ts dist (length ts) n
  pub filled : Filled ts numbers letters n
