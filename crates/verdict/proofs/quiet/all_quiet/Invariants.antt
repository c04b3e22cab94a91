use Rattle.verdict.proofs.QuietLaws.{Testing}
use Rattle.verdict.proofs.quiet.all_quiet.Given as goal

abbrev pub invariant-loop-i : goal.invariant-loop-i
invariant-loop-i l = Testing l.line l.before l.i
