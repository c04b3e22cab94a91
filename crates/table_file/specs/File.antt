-- The file of a machine, and what the reader finds in any bytes.
use Rattle.std.specs.Prelude.{Option, None, Some, Result, Ok, Err, IfOk}
use Rattle.std.specs.Prelude.{◌≡◌, Bool, ◌&&◌, cond, List, [], ◌∷◌, ◌++◌, ℕ, zero, suc, ◌+◌, leb, ltb, eqb, length, take, drop}
use Rattle.model.specs.Answers.{Fields, fields}
use Rattle.model.specs.Table.{Transition, Machine, Valid}
use Rattle.wire.specs.Bytes.{le, bytes}
use Rattle.table.specs.declared.Refusal.{Refusal}
use Rattle.table.specs.declared.Refusal.TheVariants.{Cut, Misplaced, OutOfRange, Repeated}
use Rattle.table.specs.declared.Row.{Row}
use Rattle.table.specs.declared.Table.{Table}
use Rattle.table_file.specs.declared.Head.{Head}
use Rattle.table.specs.Refusal.{Checked, passing, refusal_number, refusal_place, refused_fields, checked_fields}
use Rattle.table.specs.Rows.{numbers, said, flat, put_all, table_in, table_of}
use Rattle.table.specs.Check.{head_fine, in_range, has}

-- a record is its length (two bytes, all after them counted), its kind (two bytes), its body: head, transition, end
abbrev pub head_numbers : ℕ → ℕ → List ℕ
head_numbers states initial = 6 ∷ 1 ∷ states ∷ initial ∷ []

abbrev pub row_numbers : Transition → List ℕ
row_numbers t = 16 ∷ 2 ∷ numbers t

abbrev pub end_numbers : List ℕ
end_numbers = 2 ∷ 3 ∷ []

-- a file is a head, the transitions, an end, and nothing behind it; a number is two bytes, the low one first
unfoldable pub file_of : Machine → List ℕ
file_of m = bytes 2 (head_numbers m.states m.initial ++ (flat row_numbers m.transitions ++ end_numbers))

-- a valid file, said without the reader
pub record ValidFile (l : List ℕ) : Type 0 where
  pub machine : Machine
  pub valid : Valid machine
  pub is : l ≡ file_of machine

-- what is left of a file where a record must begin: its length, its kind, its body behind these four bytes
abbrev pub length_in : List ℕ → ℕ
length_in rest = le 2 rest 0

abbrev pub kind_in : List ℕ → ℕ
kind_in rest = le 2 rest 2

abbrev pub body_in : ℕ → List ℕ → List ℕ
body_in n rest = take n (drop 4 rest)

-- the length is that of the kind, and the body is not cut off
unfoldable pub whole : ℕ → List ℕ → Bool
whole n rest = eqb (length_in rest) n && leb (2 + n) (length rest)

abbrev pub row_in : List ℕ → Row
row_in body =
    record { from = le 2 body 0; input = le 2 body 2; output = le 2 body 4; to = le 2 body 6; u = le 2 body 8; v = le 2 body 10; d = le 2 body 12 }

-- the record at an offset, after the head: a transition, the end, or its refusal; four bytes left (1), kind (2), length and body (1)
abbrev pub Frame : Type 0
Frame = Result (Option Row) Refusal

unfoldable pub frame_in : ℕ → List ℕ → Frame
frame_in offset rest =
    cond (ltb (length rest) 4) (Err (Cut offset))
    (cond (eqb (kind_in rest) 2) (cond (whole 16 rest) (Ok (Some (row_in (body_in 14 rest)))) (Err (Cut offset)))
    (cond (eqb (kind_in rest) 3) (cond (whole 2 rest) (Ok None) (Err (Cut offset)))
    (Err (Misplaced offset))))

-- the transitions, or the number and the offset of the first refusal
pub data Listed : Type 0 where
  found : List Transition → Listed
  refused : ℕ → ℕ → Listed

abbrev pub on_frame : Frame → (Row → Listed) → Listed → Listed
on_frame (Err r) took last = refused (refusal_number r) (refusal_place r)
on_frame (Ok (Some row)) took last = took row
on_frame (Ok None) took last = last

abbrev pub on_checked : Checked → Listed → Listed
on_checked (Ok x) next = next
on_checked (Err r) next = refused (refusal_number r) (refusal_place r)

-- any byte after the end record is refused
abbrev pub finish_of : ℕ → List ℕ → Checked
finish_of offset rest = cond (ltb 4 (length rest)) (Err (Misplaced (offset + 4))) passing

abbrev pub ended : ℕ → List ℕ → List Transition → Listed
ended offset rest ts = on_checked (finish_of offset rest) (found ts)

-- 4, then 5, of a transition that was met before or not
abbrev pub admission : ℕ → ℕ → Bool → Transition → Checked
admission states offset met t = cond (in_range states t) (cond met (Err (Repeated offset)) passing) (Err (OutOfRange offset))

-- the same of a transition after others, then the next record
abbrev pub admitted : ℕ → ℕ → List Transition → Transition → Listed → Listed
admitted states offset ts t next = on_checked (admission states offset (has t ts) t) next

-- the records after the head, with room for so many transitions more: a 257th has none
unfoldable pub rows_from : ℕ → ℕ → ℕ → List ℕ → List Transition → Listed
rows_from zero states offset rest ts = on_frame (frame_in offset rest) (λ r. refused 3 offset) (ended offset rest ts)
rows_from (suc room) states offset rest ts =
    on_frame (frame_in offset rest)
    (λ r. admitted states offset ts (said r) (rows_from room states (offset + 18) (drop 18 rest) (ts ++ (said r ∷ []))))
    (ended offset rest ts)

-- a head's two numbers within their range, or 4
abbrev pub Opening : Type 0
Opening = Result (ℕ × ℕ) Refusal

abbrev pub opened_in : List ℕ → Opening
opened_in body = cond (head_fine (le 2 body 0) (le 2 body 2)) (Ok (le 2 body 0, le 2 body 2)) (Err (OutOfRange 0))

-- the two numbers of a head, or its refusal
unfoldable pub head_in : List ℕ → Opening
head_in l =
    cond (ltb (length l) 4) (Err (Cut 0))
    (cond (eqb (kind_in l) 1)
    (cond (whole 6 l) (opened_in (body_in 4 l)) (Err (Cut 0)))
    (Err (Misplaced 0)))

-- the machine of a file, or a refusal's number and offset: of the refused record, or of the first byte behind the end
pub data Scan : Type 0 where
  machine : Machine → Scan
  stopped : ℕ → ℕ → Scan

abbrev pub with_rows : ℕ → ℕ → Listed → Scan
with_rows states initial (found ts) = machine (record { states = states; initial = initial; transitions = ts })
with_rows states initial (refused n p) = stopped n p

abbrev pub with_head : List ℕ → Opening → Scan
with_head l (Ok h) = with_rows h.0 h.1 (rows_from 256 h.0 8 (drop 8 l) [])
with_head l (Err r) = stopped (refusal_number r) (refusal_place r)

unfoldable pub read_file : List ℕ → Scan
read_file l = with_head l (head_in l)

-- what a refused file gives: one state, which is the initial one, and no transitions
abbrev pub bare : Machine
bare = record { states = 1; initial = 0; transitions = [] }

-- what the reader answers: 0, or the number and the offset
abbrev pub answer_of : Scan → Fields
answer_of (machine m) = fields 0 0 0 0
answer_of (stopped n p) = fields n p 0 0

-- the machine that the reader gives
abbrev pub given : Scan → Machine
given (machine m) = m
given (stopped n p) = bare

-- with its table
abbrev pub ReadOutcome : Scan → Fields → Table → Type 0
ReadOutcome s f t = (f ≡ answer_of s) × (t ≡ table_of (given s))

-- what a machine's file says of it but for its transitions
abbrev pub head_of : Machine → Head
head_of m = record { states = m.states; initial = m.initial; count = length m.transitions }

abbrev pub head_fields : Result Head Refusal → Fields
head_fields (Ok h) = fields 0 0 0 0
head_fields (Err r) = refused_fields r

-- with its numbers
pub record FileOutcome (s : Scan) (r : Result Head Refusal) : Type 0 where
  pub answers : head_fields r ≡ answer_of s
  pub tells : IfOk r (λ h. h ≡ head_of (given s))

-- a lent table after the reading: its numbers and its transitions, behind which the cells stay as they were; a refusal leaves all of it as it was
abbrev pub left_in : Scan → Table → Table
left_in (machine m) t₀ = table_in m.states m.initial (length m.transitions) (put_all t₀.cells m.transitions)
left_in (stopped n p) t₀ = t₀

abbrev pub IntoOutcome : Scan → Table → Checked → Table → Type 0
IntoOutcome s t₀ a t = (checked_fields a ≡ answer_of s) × (t ≡ left_in s t₀)
