use Rattle.std.proofs.Common.{refl}
use Rattle.std.proofs.lemmas.Result.{err_from_is_err_and}
use Rattle.table.specs.Rows.{machine_of}
use Rattle.table.proofs.TestLaws.{sound-valid, valid-count}
use Rattle.night.proofs.NightLaws.{numbers-refused, numbers-words}
use Rattle.night.proofs.replay_words.Goals as goal

pub returns-in_err-check : goal.returns-in_err-check
returns-in_err-check c =
    let a = c.args in
    let p = err_from_is_err_and c.from_residual.result c.from_residual.ensures.1 in
    rw (p.1, p.2)
    (numbers-refused (machine_of a.t.now) a.trace.now a.starts.now a.stamps.now a.order.now a.due.now a.marks.now refl c.in_err-check.ensures)

pub returns : goal.returns
returns c =
    let a = c.args in
    let m = machine_of a.t.now in
    let v = sound-valid m refl c.in_ok-check.ensures in
    numbers-words m v c.rows.result.now (c.rows.ensures.held (valid-count a.t.now v)) a.trace.now a.starts.now a.stamps.now a.order.now a.due.now a.marks.now
    c.words_on.ensures.run
