use Rattle.model.proofs.AnswerLaws.{told}
use Rattle.verdict.specs.Line.{along}
use Rattle.verdict.proofs.LineLaws.{length-along}
use Rattle.verdict.proofs.QuietLaws.{quiet_none}
use Rattle.verdict.proofs.pairs.least_pair.Goals as goal

pub returns-then-all_quiet : goal.returns-then-all_quiet
returns-then-all_quiet c =
    let q = c.all_quiet in
    let p = c.args.line in
    quiet_none (along p) (rw (length-along p) (told q.result q.ensures c.if-all_quiet.true))
