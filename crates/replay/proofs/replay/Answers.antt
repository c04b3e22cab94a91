use Rattle.std.proofs.Common.{refl}
use Rattle.std.proofs.lemmas.Result.{err_from_is_err_and}
use Rattle.table.specs.Rows.{machine_of}
use Rattle.table.proofs.TestLaws.{sound-valid, valid-count}
use Rattle.replay.proofs.ListsLaws.{numbers-refused, numbers-answer, run-outcome}
use Rattle.replay.proofs.replay.Goals as goal

pub returns-in_err-check : goal.returns-in_err-check
returns-in_err-check c =
    let a = c.args in
    let p = err_from_is_err_and c.from_residual.result c.from_residual.ensures.1 in
    rw (p.1, p.2) (numbers-refused (machine_of a.t.now) a.trace.now a.start a.stamps.now a.order.now a.due.now refl c.in_err-check.ensures)

pub returns : goal.returns
returns c =
    let a = c.args in
    let m = machine_of a.t.now in
    let v = sound-valid m refl c.in_ok-check.ensures in
    numbers-answer m v a.trace.now a.start a.stamps.now a.order.now a.due.now
    (run-outcome m v c.rows.result.now (c.rows.ensures.held (valid-count a.t.now v)) a.trace.now _ _ a.start a.stamps.now a.order.now a.due.now
    c.replay_on.ensures.run)
