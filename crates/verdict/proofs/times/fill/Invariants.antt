use Rattle.verdict.proofs.TimeLaws.{Filling}
use Rattle.verdict.proofs.times.fill.Given as goal

abbrev pub invariant-loop-j : goal.invariant-loop-j
invariant-loop-j l = Filling l.line l.late l.v l.j
