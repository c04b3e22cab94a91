use Rattle.std.proofs.Common.{refl}
use Rattle.std.proofs.lemmas.Result.{err_from_is_err_and}
use Rattle.table.specs.Rows.{machine_of}
use Rattle.table.proofs.TestLaws.{valid-count}
use Rattle.table_file.proofs.OutcomeLaws.{into-valid}
use Rattle.places.proofs.ReadingLaws.{into-stopped, into-read}
use Rattle.night_bytes.proofs.NightByteLaws.{bytes-words}
use Rattle.night_bytes.proofs.replay_words_bytes.Goals as goal
use Rattle.night_bytes.proofs.replay_words_bytes.Goals.{After-rows-rows}

pub returns-in_err-read_into : goal.returns-in_err-read_into
returns-in_err-read_into c =
    let p = err_from_is_err_and c.from_residual.result c.from_residual.ensures.1 in
    rw (p.1, p.2, into-stopped _ _ _ _ c.in_err-read_into.ensures) (refl, refl, refl, refl)

pub returns : goal.returns
returns c =
    let a = c.args in
    let s = (goal.at.returns c).After-rows-rows in
    let t = c.read_into.new.t in
    let m = machine_of t in
    let v = into-valid _ (λ i. (c.type_inv.file i).fits) _ _ c.in_ok-read_into.ensures refl in
    let w = c.words_on in
    rw (into-read _ _ _ (λ i. (c.type_inv.file i).fits) refl c.in_ok-read_into.ensures)
    (bytes-words m v c.rows-rows.result.now (c.rows-rows.ensures.held (valid-count t v))
    a.trace.now a.starts.now a.stamps.now a.order.now a.due.now a.marks.now
    (λ i. (s.type_inv.order i).fits) (λ i. (s.type_inv.due i).fits) (λ i. (s.type_inv.marks i).fits)
    (λ i. (c.type_inv.order i).fits) (λ i. (c.type_inv.due i).fits) (λ i. (c.type_inv.marks i).fits)
    w.auto.order w.auto.due w.auto.marks w.ensures.order_rest w.ensures.due_rest w.ensures.marks_rest w.ensures.run)
