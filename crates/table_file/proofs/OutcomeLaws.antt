-- Two outcomes that a call allows are equal, and what reading and writing give in turn.
use Rattle.std.specs.Prelude.{Result, Ok, Err}
use mathlib.Core.Path.{◌≡◌, refl, sym, ap, subst, ◌∙◌}
use mathlib.Core.List.{List, [], ◌∷◌, ◌++◌}
use mathlib.Core.Logic.{dite}
use Prim.Native.Nat.{ℕ, ◌+◌, ◌-◌, ◌≤◌, ◌<◌}
use native.Mathlib.Omega.{arith}
use native.Mathlib.Decide.{dec_lt}
use lib.ListN.{length, get_or, take, drop, replicate, length-map, length-replicate, get_or-replicate, get_or-eq_default}
use lib.Seq.{take_at, get_or-append-add}
use Rattle.model.specs.Lists.All.{all_nil}
use Rattle.model.specs.Table.{Machine, Valid}
use Rattle.wire.specs.Bytes.{Bytes as AllBytes}
use Rattle.std.proofs.Common.{map}
use Rattle.table.specs.declared.Row.{Row}
use Rattle.table.specs.declared.Table.{Table}
use Rattle.table_file.specs.declared.Reading.{Reading}
use Rattle.table_file.specs.declared.Head.{Head}
use Rattle.table.specs.declared.Refusal.{Refusal}
use Rattle.table.specs.Refusal.{Checked, passing, checked_fields}
use Rattle.table.specs.Rows.{blank, table_in, row, rows, row_at, cells_of, machine_of, table_of}
use Rattle.table.specs.Tests.{Test, unless, answers, after_table, CheckOutcome}
use Rattle.table_file.specs.Write.{Written, written_fields, Writes, WriteOutcome}
use Rattle.table_file.specs.File.{file_of, ValidFile, Scan, machine, stopped, read_file, given, left_in, ReadOutcome, FileOutcome, IntoOutcome}
use Rattle.table.proofs.RefusalLaws.{refusal-some, refused-only, checked-only}
use Rattle.table_file.proofs.WrittenLaws.{written-only}
use Rattle.table.proofs.RowLaws.{length-rows, at_rows}
use Rattle.table.proofs.CellLaws.{cells-none, machine-table, rows-put, put-clear, rows-cells, length-cells}
use Rattle.table.proofs.TestLaws.{answered-done, answered-only, tested-only, passes-valid, valid-passes}
use Rattle.table_file.proofs.FileLaws.{complete, sound, valid-read, places}

-- the machine that the reader gives is valid, whatever the file: that of a refused file has one state and no transitions
module _ (l : List ℕ) (b : AllBytes l) where
  pub given-valid : Valid (given (read_file l))
  given-valid = by (read_file l) refl
    where
      by : (s : Scan) → read_file l ≡ s → Valid (given s)
      by (machine m) e = (sound l m b e).0
      by (stopped n p) e = record { some = omega arith; most = omega arith; starts = omega arith; few = omega arith; ranged = all_nil; distinct = λ i j h k. absurd (omega arith) }

  module _ (t₀ t : Table) (o : IntoOutcome (read_file l) t₀ passing t) (long : length t₀.cells ≡ 256) where
    -- and is what a lent table then stands for
    pub into-machine : read_file l ≡ machine (machine_of t)
    into-machine = by (read_file l) refl given-valid o
      where
        by : (s : Scan) → read_file l ≡ s → Valid (given s) → IntoOutcome s t₀ passing t → s ≡ machine (machine_of t)
        by (machine m) e v q = rw (q.1, rows-put t₀.cells long m.transitions v.few)
        by (stopped n p) e v q = absurd (omega (arith, (places l n p e).first, ap (λ f. f.status) q.0))

    pub into-valid : Valid (machine_of t)
    into-valid = let v = given-valid in rw into-machine at v

  -- the table of one state, lent with clear cells, becomes the table of the file
  pub into-clear : (a : Checked) (t : Table) → IntoOutcome (read_file l) (table_in 1 0 0 (replicate 256 blank)) a t → ReadOutcome (read_file l) (checked_fields a) t
  into-clear a t o = (o.0, o.1 ∙ by (read_file l) given-valid)
    where
      by : (s : Scan) → Valid (given s) → left_in s (table_in 1 0 0 (replicate 256 blank)) ≡ table_of (given s)
      by (machine m) v = rw (put-clear m.transitions v.few)
      by (stopped n p) v = rw (← cells-none)

-- the reader's answer and table are fixed by the file
pub read_only : (s : Scan) (a b : Checked) (t u : Table) → ReadOutcome s (checked_fields a) t → ReadOutcome s (checked_fields b) u → (a ≡ b) × (t ≡ u)
read_only s a b t u x y = (checked-only a b (x.0 ∙ sym y.0), x.1 ∙ sym y.1)

pub file-only : (s : Scan) (a b : Result Head Refusal) → FileOutcome s a → FileOutcome s b → a ≡ b
file-only s (Ok h) (Ok k) x y = ap Ok (x.tells ∙ sym y.tells)
file-only s (Ok h) (Err r) x y = absurd (omega (arith, refusal-some r, ap (λ f. f.status) (x.answers ∙ sym y.answers)))
file-only s (Err r) (Ok h) x y = absurd (omega (arith, refusal-some r, ap (λ f. f.status) (x.answers ∙ sym y.answers)))
file-only s (Err q) (Err r) x y = ap Err (refused-only q r (x.answers ∙ sym y.answers))

-- and so is what it leaves in a lent table
pub into-only : (s : Scan) (t₀ : Table) (a b : Checked) (t u : Table) → IntoOutcome s t₀ a t → IntoOutcome s t₀ b u → (a ≡ b) × (t ≡ u)
into-only s t₀ a b t u x y = (checked-only a b (x.0 ∙ sym y.0), x.1 ∙ sym y.1)

-- a refusal leaves it as it was
pub into-kept : (n p : ℕ) (t₀ : Table) (a : Checked) (t : Table) → IntoOutcome (stopped n p) t₀ a t → t ≡ t₀
into-kept n p t₀ a t x = x.1

-- the writer's answer and the memory after it are fixed by the machine and the memory before
pub write-only : (m : Machine) (out₀ : List ℕ) (a b : Written) (x y : List ℕ) → WriteOutcome m out₀ (written_fields a) x → WriteOutcome m out₀ (written_fields b) y
    → (a ≡ b) × (x ≡ y)
write-only m out₀ a b x y =
    answered-only
    (λ e k l. (written-only a b e, k ∙ sym l))
    (λ d e. (written-only a b (d.counts ∙ sym e.counts), d.is ∙ sym e.is))

-- what a table value holds behind its last transition is never looked at: two values of one machine get the same answers
module _ (s t : Table) (same : machine_of s ≡ machine_of t) where
  pub same_check : (a b : Checked) → CheckOutcome (machine_of s) (checked_fields a) → CheckOutcome (machine_of t) (checked_fields b) → a ≡ b
  same_check a b x y = tested-only (after_table (machine_of t) []) a b (subst (λ m. CheckOutcome m (checked_fields a)) same x) y

  pub same_write : (out₀ : List ℕ) (a b : Written) (x y : List ℕ) → WriteOutcome (machine_of s) out₀ (written_fields a) x
      → WriteOutcome (machine_of t) out₀ (written_fields b) y → (a ≡ b) × (x ≡ y)
  same_write out₀ a b x y p q = write-only (machine_of t) out₀ a b x y (subst (λ m. WriteOutcome m out₀ (written_fields a) x) same p) q

-- a valid file is read, and what was read is written as it was
module _ (l : List ℕ) (v : ValidFile l) where
  same-file : file_of v.machine ≡ l
  same-file = sym v.is

  pub valid-answer : (a : Checked) (t : Table) → ReadOutcome (read_file l) (checked_fields a) t → (a ≡ passing) × (machine_of t ≡ v.machine)
  valid-answer a t o =
      let x : ReadOutcome (machine v.machine) (checked_fields a) t = rw (valid-read l v) at o in
      (checked-only a passing x.0, ap machine_of x.1 ∙ machine-table v.machine)

  pub read-then-write : (a : Checked) (t : Table) → ReadOutcome (read_file l) (checked_fields a) t → (out₀ : List ℕ) (w : Written) (out : List ℕ)
      → WriteOutcome (machine_of t) out₀ (written_fields w) out → length l ≤ length out₀
      → (a ≡ passing) × (w ≡ Ok (length l)) × (out ≡ l ++ drop (length l) out₀)
  read-then-write a t o out₀ w out p h =
      let k = valid-answer a t o in
      let more : List Test = unless 8 (length (file_of v.machine) ≤ length out₀) ∷ [] in
      let r = write-only v.machine out₀ w (Ok (length l)) out (l ++ drop (length l) out₀)
      (subst (λ m. WriteOutcome m out₀ (written_fields w) out) k.1 p)
      (answers (valid-passes v.machine v.valid more (rw same-file h, tt)) (record { counts = rw same-file; is = rw same-file })) in
      (k.0, r.0, r.1)

blanks-at : (n i : ℕ) → get_or (replicate n blank) i blank ≡ blank
blanks-at n i = dite (dec_lt i n) (λ h. get_or-replicate n i blank blank h) (λ h. get_or-eq_default (replicate n blank) blank (omega (arith, length-replicate {A = Row} n blank)))

-- the cells that the reader makes of a table's rows
module _ (c : List Row) (n : ℕ) where
  same-cells : (i : ℕ) → i < n → row_at (cells_of (rows c n)) i ≡ row_at c i
  same-cells i h =
      let e : rows (cells_of (rows c n)) n ≡ rows c n = rw (length-rows c n) at (rows-cells (rows c n)) in
      ap row (sym (at_rows (cells_of (rows c n)) n i h) ∙ rw e (at_rows c n i h))

  blank-cells : (i : ℕ) → n ≤ i → row_at (cells_of (rows c n)) i ≡ blank
  unfolding cells_of
  blank-cells i h =
      let f : List Row = map row (rows c n) in
      let k : length f ≡ n = length-map (rows c n) row ∙ length-rows c n in
      let e : i ≡ length f + (i - n) = omega arith in
      let z : ℕ = 256 - length (rows c n) in
      rw e (get_or-append-add f (replicate z blank) (i - n) blank ∙ blanks-at z (i - n))

-- what the reader answers to the file of a table value: the same table, with zeros behind its last transition
pub record ReadBack (t : Table) (a : Reading) : Type 0 where
  pub answers : a.answer ≡ passing
  pub gives : a.table ≡ table_of (machine_of t)
  pub stands : machine_of a.table ≡ machine_of t
  pub counts : a.table.count ≡ t.count
  pub long : length a.table.cells ≡ 256
  pub agrees : (i : ℕ) → i < t.count → row_at a.table.cells i ≡ row_at t.cells i
  pub zeros : (i : ℕ) → t.count ≤ i → row_at a.table.cells i ≡ blank

pub write-then-read : (t : Table) → Valid (machine_of t) → (a : Reading)
    → ReadOutcome (read_file (file_of (machine_of t))) (checked_fields a.answer) a.table → ReadBack t a
write-then-read t v a o =
    let x : ReadOutcome (machine (machine_of t)) (checked_fields a.answer) a.table = rw (complete (machine_of t) v) at o in
    let e : a.table ≡ table_of (machine_of t) = x.1 in
    record {
      answers = checked-only a.answer passing x.0;
      gives = e;
      stands = ap machine_of e ∙ machine-table (machine_of t);
      counts = ap (λ s. s.count) e ∙ length-rows t.cells t.count;
      long = rw e (length-cells (rows t.cells t.count) v.few);
      agrees = λ i h. rw e (same-cells t.cells t.count i h);
      zeros = λ i h. rw e (blank-cells t.cells t.count i h);
    }

-- the same of what the writer left in the lent memory
pub written_read : (t : Table) (out₀ out : List ℕ) (n : ℕ) → WriteOutcome (machine_of t) out₀ (written_fields (Ok n)) out → (a : Reading)
    → ReadOutcome (read_file (take n out)) (checked_fields a.answer) a.table → ReadBack t a
written_read t out₀ out n o a r =
    let k : _ × Writes (machine_of t) out₀ (written_fields (Ok n)) out = answered-done (omega arith) (λ h l. omega arith) o in
    let c : n ≡ length (file_of (machine_of t)) = ap (λ f. f.first) k.1.counts in
    let e : take n out ≡ file_of (machine_of t) =
    rw k.1.is (take_at (file_of (machine_of t)) (drop (length (file_of (machine_of t))) out₀) n (sym c)) in
    write-then-read t (passes-valid (machine_of t) (unless 8 (length (file_of (machine_of t)) ≤ length out₀) ∷ []) k.0) a (rw e at r)
