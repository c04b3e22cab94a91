-- The writer's stores, one behind the other, are the file.
use Rattle.std.specs.Prelude.{Ok, Err}
use mathlib.Core.Path.{◌≡◌, refl, sym, ap, ◌∙◌}
use mathlib.Core.List.{List, ◌++◌, append_assoc}
use Prim.Native.Nat.{ℕ, ◌+◌, ◌*◌, ◌≤◌, ◌<◌}
use native.Mathlib.Omega.{arith}
use lib.ListN.{length, drop, length-append}
use mathlib.Core.Logic.{inl}
use Rattle.model.specs.Table.{Transition, Machine, Valid}
use Rattle.table.specs.declared.Refusal.{Refusal}
use Rattle.table.specs.declared.Refusal.TheVariants.{NoRoom}
use Rattle.table.specs.declared.Row.{Row}
use Rattle.table.specs.declared.Table.{Table}
use Rattle.table.specs.Refusal.{passing, refused_fields, checked_fields}
use Rattle.table.specs.Tests.{refuses, answers, CheckOutcome}
use Rattle.table_file.specs.Write.{written_fields, room_test, WriteOutcome}
use Rattle.table.proofs.TestLaws.{sound-valid, refused-fails, valid-fails, valid-passes, valid-count}
use Rattle.wire.specs.Bytes.{bytes_by, bytes, placed}
use Rattle.wire.proofs.Bytes.{length-bytes, bytes-append, placed-none, placed-more, placed-fits, length-placed}
use Rattle.table.specs.Rows.{listed, rows, row_at, said, flat, machine_of}
use Rattle.table_file.specs.File.{head_numbers, row_numbers, end_numbers, file_of}
use Rattle.table.proofs.RowLaws.{length-rows, rows_more}
use Rattle.table.proofs.CellLaws.{flat-more, length-flat}

-- the bytes of the transitions' records
pub length-records : (ts : List Transition) → length (bytes 2 (flat row_numbers ts)) ≡ length ts * 18
length-records ts = length-bytes 2 (flat row_numbers ts) ∙ omega (arith, length-flat row_numbers 9 (λ t. refl) ts)

pub length-file : (m : Machine) → length (file_of m) ≡ 12 + length m.transitions * 18
unfolding file_of
length-file m =
    length-bytes 2 (head_numbers m.states m.initial ++ (flat row_numbers m.transitions ++ end_numbers))
    ∙ simp length-append (omega (arith, length-flat row_numbers 9 (λ t. refl) m.transitions))

module _ (cells : List Row) (out : List ℕ) where
  pub records-none : 8 ≤ length out → out ≡ placed out 8 (bytes 2 (flat row_numbers (rows cells 0)))
  unfolding rows listed flat bytes_by
  records-none h = sym (placed-none out 8 h)

  pub records-more : (i : ℕ) (o : List ℕ) → 8 + (i + 1) * 18 ≤ length out → o ≡ placed out 8 (bytes 2 (flat row_numbers (rows cells i)))
      → placed o (8 + i * 18) (bytes 2 (row_numbers (said (row_at cells i)))) ≡ placed out 8 (bytes 2 (flat row_numbers (rows cells (i + 1))))
  records-more i o h e =
      let n : length (bytes 2 (flat row_numbers (rows cells i))) ≡ i * 18 = length-records (rows cells i) ∙ ap (λ (x : ℕ). x * 18) (length-rows cells i) in
      let one : length (bytes 2 (row_numbers (said (row_at cells i)))) ≡ 18 = length-bytes 2 (row_numbers (said (row_at cells i))) in
      rw (e, rows_more cells i, flat-more row_numbers (rows cells i) (said (row_at cells i)), bytes-append 2 (flat row_numbers (rows cells i)) (row_numbers (said (row_at cells i))))
      (placed-more out 8 (8 + i * 18) (bytes 2 (flat row_numbers (rows cells i))) (bytes 2 (row_numbers (said (row_at cells i)))) (omega arith) (omega arith))

  pub length-records-placed : (i : ℕ) → 8 + i * 18 ≤ length out → length (placed out 8 (bytes 2 (flat row_numbers (rows cells i)))) ≡ length out
  length-records-placed i h = length-placed out 8 (bytes 2 (flat row_numbers (rows cells i))) (omega (arith, length-records (rows cells i), length-rows cells i))

-- head, records and end
pub file-placed : (m : Machine) (out a b c : List ℕ) (n : ℕ) → n ≡ length m.transitions → 12 + n * 18 ≤ length out
    → a ≡ placed out 0 (bytes 2 (head_numbers m.states m.initial))
    → b ≡ placed a 8 (bytes 2 (flat row_numbers m.transitions))
    → c ≡ placed b (8 + n * 18) (bytes 2 end_numbers)
    → c ≡ file_of m ++ drop (12 + n * 18) out
unfolding file_of
file-placed m out a b c n q h ea eb ec =
    let head : List ℕ = bytes 2 (head_numbers m.states m.initial) in
    let rs : List ℕ = bytes 2 (flat row_numbers m.transitions) in
    let end : List ℕ = bytes 2 end_numbers in
    let lh : length head ≡ 8 = length-bytes 2 (head_numbers m.states m.initial) in
    let lr : length rs ≡ n * 18 = length-records m.transitions ∙ ap (λ (x : ℕ). x * 18) (sym q) in
    let le : length end ≡ 4 = length-bytes 2 end_numbers in
    let lhr : length (head ++ rs) ≡ 8 + n * 18 = length-append head rs ∙ omega arith in
    let two : b ≡ placed out 0 (head ++ rs) = eb ∙ ap (λ (x : List ℕ). placed x 8 rs) ea ∙ placed-more out 0 8 head rs (omega arith) (omega arith) in
    let three : c ≡ placed out 0 ((head ++ rs) ++ end) =
    ec ∙ ap (λ (x : List ℕ). placed x (8 + n * 18) end) two ∙ placed-more out 0 (8 + n * 18) (head ++ rs) end (omega arith) (omega arith) in
    let lw : length ((head ++ rs) ++ end) ≡ 12 + n * 18 = length-append (head ++ rs) end ∙ omega arith in
    let whole : bytes 2 (head_numbers m.states m.initial ++ (flat row_numbers m.transitions ++ end_numbers)) ≡ (head ++ rs) ++ end =
    bytes-append 2 (head_numbers m.states m.initial) (flat row_numbers m.transitions ++ end_numbers)
    ∙ ap (λ (x : List ℕ). head ++ x) (bytes-append 2 (flat row_numbers m.transitions) end_numbers) ∙ sym (append_assoc head rs end) in
    let e : 0 + length ((head ++ rs) ++ end) ≡ 12 + n * 18 = omega arith in
    three ∙ placed-fits out 0 ((head ++ rs) ++ end) (omega arith) ∙ rw (e, whole)

-- the outcomes of the writer
module _ (t : Table) (out : List ℕ) where
  abbrev m : Machine
  m = machine_of t

  long : length m.transitions ≡ t.count
  long = length-rows t.cells t.count

  size : length (file_of m) ≡ 12 + t.count * 18
  size = length-file m ∙ ap (λ (n : ℕ). 12 + n * 18) long

  pub head-long : (a : List ℕ) → 12 + t.count * 18 ≤ length out → a ≡ placed out 0 (bytes 2 (head_numbers t.states t.initial)) → length a ≡ length out
  head-long a h e =
      ap length e ∙ length-placed out 0 (bytes 2 (head_numbers t.states t.initial)) (omega (arith, length-bytes 2 (head_numbers t.states t.initial)))

  pub write-refused : (r : Refusal) → CheckOutcome m (checked_fields (Err r)) → WriteOutcome m out (refused_fields r) out
  write-refused r x = refuses refl (refused-fails m (room_test m out) refl x) refl

  -- of a table that was checked: what is left to test is the room
  module _ (x : CheckOutcome m (checked_fields passing)) where
    pub write-valid : Valid m
    write-valid = sound-valid m refl x

    pub write-few : t.count ≤ 256
    write-few = valid-count t write-valid

    pub write-short : length out < 12 + t.count * 18 → WriteOutcome m out (refused_fields NoRoom) out
    write-short h = refuses refl ((valid-fails m write-valid (room_test m out) 8 0).1 (inl ((λ l. omega (arith, size)), refl, refl))) refl

    pub write-done : (a b c : List ℕ) → 12 + t.count * 18 ≤ length out
        → a ≡ placed out 0 (bytes 2 (head_numbers t.states t.initial))
        → b ≡ placed a 8 (bytes 2 (flat row_numbers m.transitions))
        → c ≡ placed b (8 + t.count * 18) (bytes 2 end_numbers)
        → WriteOutcome m out (written_fields (Ok (12 + t.count * 18))) c
    write-done a b c h p q r =
        let w = file-placed m out a b c t.count (sym long) h p q r in
        answers (valid-passes m write-valid (room_test m out) (omega (arith, size), tt)) (record { counts = rw size; is = rw size w })
