-- What is not named follows from the arithmetic around it.
use Rattle.std.proofs.Common.{arith, length-take, rules}
use Rattle.std.proofs.lemmas.Result.{err_from_is_err_and}
use Rattle.trace_bytes.proofs.TraceLaws.{settled, settled-as, is-steady, refused, no_room, steady, turning, first-places}
use Rattle.trace_bytes.proofs.traces.judge_on.Goals as goal
use Rattle.trace_bytes.proofs.traces.judge_on.Goals.{After-rows-rows}

pub returns-in_err-found : goal.returns-in_err-found
returns-in_err-found c =
    let a = c.args in
    let t = c.rows-rows.ensures in
    let p = err_from_is_err_and c.from_residual.result c.from_residual.ensures.1 in
    rw (p.1, p.2)
    (refused a.t.now c.requires c.rows-rows.result.now (omega (arith, t.number)) t.held a.trace.now a.stamps.now
    (first-places _ c.numbers_in-n.ensures (search rules)) _ c.in_err-found.ensures)

pub returns-then-stamps-n : goal.returns-then-stamps-n
returns-then-stamps-n c =
    let a = c.args in
    let t = c.rows-rows.ensures in
    no_room a.t.now c.requires c.rows-rows.result.now (omega (arith, t.number)) t.held a.trace.now a.stamps.now
    (first-places _ c.numbers_in-n.ensures (search rules)) (settled _ _ _ c.in_ok-found.ensures) (simp length-take (omega arith))

pub returns-in_default : goal.returns-in_default
returns-in_default c =
    let a = c.args in
    let t = c.rows-rows.ensures in
    steady a.t.now c.requires c.rows-rows.result.now (omega (arith, t.number)) t.held a.trace.now a.stamps.now
    (first-places _ c.numbers_in-n.ensures (search rules))
    (settled-as _ _ (is-steady _ c.in_default.not-Turning) (settled _ _ _ c.in_ok-found.ensures)) (simp length-take (omega arith))

pub returns : goal.returns
returns c =
    let a = c.args in
    let s = (goal.at.returns c).After-rows-rows in
    let t = c.rows-rows.ensures in
    turning a.t.now c.requires c.rows-rows.result.now (omega (arith, t.number)) t.held a.trace.now a.stamps.now
    (first-places _ c.numbers_in-n.ensures (search rules)) (settled-as _ _ c.in-Turning.is (settled _ _ _ c.in_ok-found.ensures))
    (simp length-take (omega arith))
    (record {
      before = λ i. (s.type_inv.stamps i).fits;
      now = λ i. (c.type_inv.stamps i).fits;
      is = c.put_words.ensures.is;
      rest = c.put_words.ensures.rest;
    })
