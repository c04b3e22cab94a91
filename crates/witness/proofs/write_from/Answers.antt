-- The walk, then the way before it. What is not named follows from the arithmetic around it.
use native.Mathlib.Omega.{arith}
use Rattle.witness.specs.Witness.{from_shown}
use Rattle.witness.proofs.WitnessLaws.{from-walked, from-unwalked}
use Rattle.witness.proofs.write_from.Goals as goal

pub returns-then-more-eq0 : goal.returns-then-more-eq0
returns-then-more-eq0 c =
    let m = rw c.row_of-from.ensures at c.mark_of.ensures in
    from-unwalked (omega arith) c.write_walk-more.ensures c.requires.0 c.requires.1.0 c.if-more-eq0.true

pub returns : goal.returns
returns c =
    let m = rw c.row_of-from.ensures at c.mark_of.ensures in
    from_shown (from-walked (omega arith) c.write_walk-more.ensures c.if-more-eq0.false (rw c.row_of-from.ensures at c.write_way.ensures))
