use Rattle.std.proofs.Common.{refl}
use Rattle.std.proofs.lemmas.Result.{err_from_is_err_and}
use Rattle.model.specs.Table.{Valid}
use Rattle.table.specs.Rows.{machine_of}
use Rattle.table.proofs.TestLaws.{sound-valid}
use Rattle.trace.proofs.TraceLaws.{no_table, no-trace, a-trace, trace-lent}
use Rattle.trace.proofs.tested_trace.Goals as goal
use Rattle.trace.proofs.tested_trace.Goals.{In_ok-check}

-- the table passed its check
valid : (p : In_ok-check) → Valid (machine_of p.args.t.now)
valid p = sound-valid _ refl p.in_ok-check.ensures

pub returns-in_err-check : goal.returns-in_err-check
returns-in_err-check c =
    let p = err_from_is_err_and c.from_residual.result c.from_residual.ensures.1 in
    rw (p.1, p.2) (no_table c.args.t.now c.args.trace.now refl c.in_err-check.ensures)

pub returns-then-not-is_trace : goal.returns-then-not-is_trace
returns-then-not-is_trace c =
    let v = valid (goal.at.returns-then-not-is_trace c).In_ok-check in
    no-trace c.args.t.now c.args.trace.now v
    (λ h. c.if-not-is_trace.ensures ((trace-lent c.args.t.now c.args.trace.now v c.rows.result.now c.rows.ensures.number c.rows.ensures.held).1 h))

pub returns : goal.returns
returns c =
    let v = valid (goal.at.returns c).In_ok-check in
    a-trace c.args.t.now c.args.trace.now v ((trace-lent c.args.t.now c.args.trace.now v c.rows.result.now c.rows.ensures.number c.rows.ensures.held).0 c.if-not-is_trace.ensures)
