-- The verdict on a whole table, and what it leaves in the lent memory.
use Rattle.std.specs.Prelude.{Result, Ok, Err, ◌≡◌, List, [], ◌∷◌, ◌++◌, ℕ, suc, ◌+◌, ◌≤◌, length}
use Rattle.model.specs.Answers.{Fields, fields}
use Rattle.model.specs.Lists.{LeastPair}
use Rattle.model.specs.Table.{Machine, at}
use Rattle.model.specs.Trace.{Trace, steps}
use Rattle.model.specs.Word.{Word, Activates}
use Rattle.model.specs.Verdict.{Turns, ShowsLowest, Splits, SplitPair, Strict, OnlyTurns}
use Rattle.model.specs.Shown.{Shows, split_word}
use Rattle.model.specs.Stamps.{stamps_of, shown_stamps}
use Rattle.table.specs.declared.Refusal.{Refusal}
use Rattle.table.specs.Refusal.{refused_fields}
use Rattle.table.specs.Tests.{Test, unless, after_table}
use Rattle.table.specs.Showing.{Showing, ShownOn}
use Rattle.table_verdict.specs.declared.OnTable.{OnTable}
use Rattle.table_verdict.specs.declared.OnTable.TheVariants.{Strict as StrictTable, Split, Turning}

-- the verdict, or why there is none
abbrev pub Judged : Type 0
Judged = Result OnTable Refusal

-- split: 256, the transitions I and J, n steps; turning: 257, the steps K and M counted from 1, the last of which is M
abbrev pub table_fields : Judged → Fields
table_fields (Ok StrictTable) = fields 0 0 0 0
table_fields (Ok (Split i j n)) = fields 256 i j n
table_fields (Ok (Turning k m)) = fields 257 k m m
table_fields (Err r) = refused_fields r

-- a table verdict always needs 270 trace places and 540 stamp places
abbrev pub table_tests : Machine → List ℕ → List ℕ → List Test
table_tests m trace₀ stamps₀ = after_table m (unless 8 ((270 ≤ length trace₀) × (540 ≤ length stamps₀)) ∷ [])

-- the word of a split, after the way to the state
abbrev pub word_after : Machine → List ℕ → ℕ → ℕ → Word
word_after m way i j = split_word (steps m.transitions way) (at m.transitions i) (at m.transitions j)

-- a shown split: the way to the state, then i in the first trace and j in the second; one word activates both
pub record ShowsSplit (m : Machine) (i j : ℕ) (way : List ℕ) : Type 0 where
  pub splits : Splits m
  pub pair : LeastPair (SplitPair m) i j
  pub path : Trace m.transitions m.initial way (at m.transitions i).from
  pub few : length way + 1 ≤ 270
  pub act_first : Activates (steps m.transitions (way ++ (i ∷ []))) (word_after m way i j)
  pub act_second : Activates (steps m.transitions (way ++ (j ∷ []))) (word_after m way i j)

-- a shown turning trace: step k is the lowest-numbered reachable transition that can be the first of a turning pair, and the trace ends at m
pub record ShowsTurning (m : Machine) (shown : List ℕ) (k last : ℕ) : Type 0 where
  pub only : OnlyTurns m
  pub lowest : ShowsLowest Turns m shown k last
  pub shows : Shows (steps m.transitions shown) k last

-- a shown trace and its stamps, by the answer's fields. A split shows the first of its two traces.
pub data TableShows (m : Machine) (f : Fields) : List ℕ → List ℕ → Type 0 where
  split_shown : {i j : ℕ} {way : List ℕ} → f ≡ fields 256 i j (length way + 1) → ShowsSplit m i j way
      → TableShows m f (way ++ (i ∷ [])) (stamps_of (word_after m way i j))
  turning_shown : {shown : List ℕ} {k last : ℕ} → f ≡ fields 257 (suc k) (suc last) (suc last) → ShowsTurning m shown k last
      → TableShows m f shown (shown_stamps (steps m.transitions shown) k last)

-- what is answered of a machine, on values and on bytes: strict, or shown
abbrev pub TableSays : Machine → Type 0 → (List ℕ → List ℕ → Type 0) → Fields → Type 0
TableSays m = Showing (Strict m) (TableShows m)

abbrev pub TableOutcome : Machine → List ℕ → List ℕ → Fields → List ℕ → List ℕ → Type 0
TableOutcome m trace₀ stamps₀ f trace stamps = ShownOn (table_tests m trace₀ stamps₀) (Strict m) (TableShows m) trace₀ stamps₀ f trace stamps
