use Rattle.std.proofs.Common.{refl}
use Rattle.std.proofs.lemmas.Result.{err_from_is_err_and}
use Rattle.table.specs.Rows.{machine_of}
use Rattle.table.proofs.TestLaws.{valid-count}
use Rattle.table_file.proofs.OutcomeLaws.{into-valid}
use Rattle.places.proofs.ReadingLaws.{into-stopped, into-read}
use Rattle.replay.proofs.ListsLaws.{run-outcome}
use Rattle.on_bytes.proofs.ByteLaws.{bytes-answer}
use Rattle.on_bytes.proofs.replay_bytes.Goals as goal
use Rattle.on_bytes.proofs.replay_bytes.Goals.{After-rows}

pub returns-in_err-read_into : goal.returns-in_err-read_into
returns-in_err-read_into c =
    let p = err_from_is_err_and c.from_residual.result c.from_residual.ensures.1 in
    rw (p.1, p.2, into-stopped _ _ _ _ c.in_err-read_into.ensures) (refl, refl, refl)

pub returns : goal.returns
returns c =
    let a = c.args in
    let s = (goal.at.returns c).After-rows in
    let t = c.read_into.new.t in
    let m = machine_of t in
    let v = into-valid _ (λ i. (c.type_inv.file i).fits) _ _ c.in_ok-read_into.ensures refl in
    rw (into-read _ _ _ (λ i. (c.type_inv.file i).fits) refl c.in_ok-read_into.ensures)
    (bytes-answer m a.trace.now a.start a.stamps.now a.order.now a.due.now
    (λ i. (s.type_inv.order i).fits) (λ i. (s.type_inv.due i).fits) (λ i. (c.type_inv.order i).fits) (λ i. (c.type_inv.due i).fits)
    c.replay_on.ensures.order_rest c.replay_on.ensures.due_rest
    (run-outcome m v c.rows.result.now (c.rows.ensures.held (valid-count t v)) _ _ _ a.start _ _ _ c.replay_on.ensures.run))
