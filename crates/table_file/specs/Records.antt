-- The reader's work, record by record: record i of the transitions begins 8 + 18 i bytes into the file.
use Rattle.std.specs.Prelude.{true, false, Result, Ok, Err, IfOk}
use Rattle.std.specs.Prelude.{◌≡◌, Bool, cond, List, [], ℕ, ◌+◌, ◌*◌, ◌-◌, ◌≤◌, leb, length, drop}
use Rattle.model.specs.Table.{Transition}
use Rattle.table.specs.declared.Refusal.{Refusal}
use Rattle.table.specs.declared.Refusal.TheVariants.{Full}
use Rattle.table.specs.declared.Row.{Row}
use Rattle.table_file.specs.declared.Head.{Head}
use Rattle.table.specs.Refusal.{Checked, passing, refusal_number, refusal_place}
use Rattle.table.specs.Rows.{said, listed}
use Rattle.table.specs.Check.{has}
use Rattle.table.specs.Seen.{Marked}
use Rattle.table_file.specs.File.{body_in, row_in, admission, found, refused, rows_from, read_file, machine, FileOutcome}

-- the transition in record i, and those in the first n
abbrev pub record_at : List ℕ → ℕ → Row
record_at l i = row_in (body_in 14 (drop (8 + i * 18) l))

abbrev pub recorded : List ℕ → ℕ → List Transition
recorded l n = listed (λ i. said (record_at l i)) n

-- 3 first, after n others
unfoldable pub admit_of : ℕ → ℕ → ℕ → Bool → Transition → Checked
admit_of states offset n met t = cond (leb 256 n) (Err (Full offset)) (admission states offset met t)

-- record n holds t and begins at the offset, and those before it are marked
pub record Next (l seen : List ℕ) (n offset : ℕ) (t : Row) : Type 0 where
  pub few : n ≤ 256
  pub place : offset ≡ 8 + n * 18
  pub inside : offset + 18 ≤ length l
  pub is : t ≡ record_at l n
  pub marked : Marked seen (recorded l n)

-- then it is admitted or not, and marked if it is
pub record Admitted (l : List ℕ) (states offset n : ℕ) (t : Row) (a : Checked) (seen : List ℕ) : Type 0 where
  pub answers : a ≡ admit_of states offset n (has (said t) (recorded l n)) (said t)
  pub marks : a ≡ passing → Marked seen (recorded l (n + 1))

-- what the loop over the records tells: how many were found, or the refusal
abbrev pub RowsOutcome : ℕ → List ℕ → Result ℕ Refusal → Type 0
RowsOutcome states l (Ok n) = (rows_from 256 states 8 (drop 8 l) [] ≡ found (recorded l n)) × (n ≤ 256) × (8 + n * 18 ≤ length l)
RowsOutcome states l (Err r) = rows_from 256 states 8 (drop 8 l) [] ≡ refused (refusal_number r) (refusal_place r)

-- n records were taken and marked, and the scan from the offset on is the scan of the whole
pub record Kept (l seen : List ℕ) (states n offset : ℕ) : Type 0 where
  pub few : n ≤ 256
  pub place : offset ≡ 8 + n * 18
  pub inside : offset ≤ length l
  pub marked : Marked seen (recorded l n)
  pub same : rows_from (256 - n) states offset (drop offset l) (recorded l n) ≡ rows_from 256 states 8 (drop 8 l) []

-- what the next record leads to: one more is taken, or n were all, or the refusal stands
abbrev pub TakenOutcome : ℕ → List ℕ → List ℕ → ℕ → ℕ → Result Bool Refusal → Type 0
TakenOutcome states l seen n offset (Ok true) = Kept l seen states (n + 1) (offset + 18)
TakenOutcome states l seen n offset (Ok false) = RowsOutcome states l (Ok n)
TakenOutcome states l seen n offset (Err r) = RowsOutcome states l (Err r)

-- the records that a head counts are within the file, and are what it says
pub record Counts (l : List ℕ) (h : Head) : Type 0 where
  pub few : h.count ≤ 256
  pub inside : 8 + h.count * 18 ≤ length l
  pub is : read_file l ≡ machine (record { states = h.states; initial = h.initial; transitions = recorded l h.count })

-- what a file was found to be
pub record Scanned (l : List ℕ) (r : Result Head Refusal) : Type 0 where
  pub tells : FileOutcome (read_file l) r
  pub holds : IfOk r (Counts l)
