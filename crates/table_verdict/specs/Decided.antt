-- What is decided of a valid machine, and of transitions by the marks of reach.
use Rattle.std.specs.Prelude.{Some, None, Ok, ◌≡◌, List, [], ◌∷◌, ℕ, ◌+◌, ◌≤◌, length}
use Rattle.model.specs.Lists.{over}
use Rattle.model.specs.Table.{Machine}
use Rattle.table.specs.declared.Row.{Row}
use Rattle.table.specs.Rows.{rows}
use Rattle.table.specs.Tests.{Test, unless, Answered}
use Rattle.reach.specs.Reach.{Reach, after_limits}
use Rattle.split_pair.specs.Split.{SplitOutcome}
use Rattle.criterion.specs.declared.Goal.TheVariants.{Turns}
use Rattle.witness.specs.Witness.{witness_of, ShownOutcome}
use Rattle.table_verdict.specs.declared.OnTable.{OnTable}
use Rattle.table_verdict.specs.declared.OnTable.TheVariants.{Strict as StrictTable, Turning}
use Rattle.table_verdict.specs.OnTable.{Judged, table_fields, TableSays}
use Rattle.table_verdict.specs.Shown.{SplitStands}

abbrev pub Decided : Machine → List ℕ → List ℕ → Judged → List ℕ → List ℕ → Type 0
Decided m trace₀ stamps₀ r trace stamps =
    TableSays m ((trace ≡ trace₀) × (stamps ≡ stamps₀)) (λ l s. (trace ≡ over l trace₀) × (stamps ≡ over s stamps₀)) (table_fields r)

-- nothing is shown, or a trace with its words
pub data TurnJudged (cells : List Row) (count : ℕ) (dist via trace₀ stamps₀ : List ℕ) : Judged → List ℕ → List ℕ → Type 0 where
  turns_not : {trace stamps : List ℕ} → ShownOutcome Turns cells count dist via trace₀ stamps₀ None trace stamps
      → TurnJudged cells count dist via trace₀ stamps₀ (Ok StrictTable) trace stamps
  turns_from : {n all : ℕ} {trace stamps : List ℕ} → ShownOutcome Turns cells count dist via trace₀ stamps₀ (Some (witness_of n all)) trace stamps
      → TurnJudged cells count dist via trace₀ stamps₀ (Ok (Turning (n + 1) all)) trace stamps

-- the decision by the marks of reach: the first split pair is shown; or there is none, and the search for a turning pair answers
pub data ByMarks (cells : List Row) (count initial : ℕ) (trace₀ stamps₀ : List ℕ) : Judged → List ℕ → List ℕ → Type 0 where
  marks_split : {dist via : List ℕ} {i j : ℕ} {v : OnTable} {trace stamps : List ℕ} → Reach (rows cells count) initial dist via
      → SplitOutcome cells count dist (Some (i, j)) → SplitStands (rows cells count) dist via i j trace₀ stamps₀ v trace stamps
      → ByMarks cells count initial trace₀ stamps₀ (Ok v) trace stamps
  marks_turn : {dist via : List ℕ} {r : Judged} {trace stamps : List ℕ} → Reach (rows cells count) initial dist via → SplitOutcome cells count dist None
      → TurnJudged cells count dist via trace₀ stamps₀ r trace stamps → ByMarks cells count initial trace₀ stamps₀ r trace stamps

-- on transitions that nobody tested: 3, 4, then 8; then the decision
abbrev pub cell_tests : List Row → ℕ → ℕ → List ℕ → List ℕ → List Test
cell_tests cells count initial trace₀ stamps₀ = after_limits cells count initial (unless 8 ((270 ≤ length trace₀) × (540 ≤ length stamps₀)) ∷ [])

abbrev pub CellsOutcome : List Row → ℕ → ℕ → List ℕ → List ℕ → Judged → List ℕ → List ℕ → Type 0
CellsOutcome cells count initial trace₀ stamps₀ r trace stamps =
    Answered (cell_tests cells count initial trace₀ stamps₀) (λ f. ByMarks cells count initial trace₀ stamps₀ r trace stamps)
    ((trace ≡ trace₀) × (stamps ≡ stamps₀)) (table_fields r)
