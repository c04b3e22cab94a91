use Rattle.std.proofs.Common.{refl, sym, arith}
use Rattle.table.specs.Rows.{said}
use Rattle.words.proofs.WordLaws.{split-short, split-written}
use Rattle.words.proofs.write_split_word.Goals as goal

pub returns-then-out-n : goal.returns-then-out-n
returns-then-out-n c =
    let a = c.args in
    sym (split-short a.rows.now a.trace.now (said a.first) (said a.second) a.out.now (omega (arith, c.if-out-n.true)))

pub returns : goal.returns
returns c =
    let a = c.args in
    split-written a.rows.now a.trace.now (said a.first) (said a.second) a.out.now _ _ _ _ (omega (arith, c.if-out-n.false))
    c.write_word.ensures c.stamp_after.ensures c.lesser_late.ensures refl
