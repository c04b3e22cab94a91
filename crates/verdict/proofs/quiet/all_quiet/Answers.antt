-- What is not named follows from the arithmetic around it.
use native.Mathlib.Omega.{arith}
use Rattle.model.proofs.AnswerLaws.{told, untold}
use Rattle.verdict.proofs.QuietLaws.{testing-first, testing-over, testing-more, testing-last}
use Rattle.verdict.proofs.quiet.all_quiet.Goals as goal

pub loop-i-init : goal.loop-i-init
loop-i-init c = testing-first c.step-before.result c.step-before.ensures

pub returns-then-above : goal.returns-then-above
returns-then-above c =
    testing-over c.loop-i.invariant (omega arith) c.step-s.result c.step-s.ensures (rw c.from.ensures at (told c.above.result c.above.ensures c.if-above.true))

pub loop-i-preserved : goal.loop-i-preserved
loop-i-preserved c =
    testing-more c.loop-i.invariant (omega arith) c.step-s.result c.step-s.ensures (rw c.from.ensures at (untold c.above.result c.above.ensures c.if-above.false))

pub returns : goal.returns
returns c = testing-last c.loop-i.invariant (omega arith)
