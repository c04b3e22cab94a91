-- The way, the word of both, and i at the end. Assumes nothing.
use native.Mathlib.Omega.{arith}
use mathlib.Core.Path.{ap}
use Prim.Native.Nat.{ℕ, ◌+◌}
use Rattle.table_verdict.specs.declared.OnTable.TheVariants.{Split}
use Rattle.table_verdict.proofs.ShownLaws.{bounds, split-number, split-traced, split-stamped}
use Rattle.table_verdict.proofs.show.show_split.Goals as goal

pub overflow_cast-trace : goal.overflow_cast-trace
overflow_cast-trace c = omega (arith, bounds c.requires.0 c.requires.1.traces c.row_of-first.result c.row_of-first.ensures c.write_way-n.ensures)

pub bounds-trace-n : goal.bounds-trace-n
bounds-trace-n c = omega (arith, bounds c.requires.0 c.requires.1.traces c.row_of-first.result c.row_of-first.ensures c.write_way-n.ensures)

pub returns : goal.returns
returns c =
    let a = c.args in
    record {
      answer = ap (λ (n : ℕ). Split a.i a.j (n + 1)) (split-number c.requires.0 c.requires.1.traces c.row_of-first.result c.row_of-first.ensures c.write_way-n.ensures);
      traced = split-traced c.requires.0 c.requires.1.traces c.row_of-first.result c.row_of-first.ensures c.write_way-n.ensures;
      stamped = split-stamped c.requires.0 c.requires.1.traces c.row_of-first.result c.row_of-first.ensures c.write_way-n.ensures
          c.requires.2 c.row_of-second.result c.row_of-second.ensures _ _ c.requires.1.stamps_places c.write_split_word.ensures;
    }
