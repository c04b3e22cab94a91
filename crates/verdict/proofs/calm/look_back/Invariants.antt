use lib.ListN.{length}
use Rattle.verdict.specs.Line.{along}
use Rattle.verdict.specs.Times.{number_of}
use Rattle.verdict.proofs.CalmLaws.{Looking, Back}
use Rattle.verdict.proofs.calm.look_back.Given as goal

abbrev pub invariant-loop-p : goal.invariant-loop-p
invariant-loop-p l =
    Back l.line l.early l.arrival l.p × Looking (number_of (along l.line)) (length l.line.trace.now) l.lows l.calm l.s l.first l.p
