use Rattle.model.proofs.AnswerLaws.{told}
use Rattle.table.proofs.SliceLaws.{every-all}
use Rattle.table.proofs.fit.Fit.new.Goals as goal

pub invariant_of-result : goal.invariant_of-result
invariant_of-result c =
    let s = told c.in_limits.result c.in_limits.ensures c.if-in_limits.true in
    record { few = s.few; ranged = (every-all c.args.rows.now).1 s.ranged }
