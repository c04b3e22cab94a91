use native.Mathlib.Omega.{arith}
use Rattle.std.proofs.Common.{refl}
use Rattle.std.proofs.lemmas.Result.{err_from_is_err_and}
use Rattle.verdict.proofs.JudgeLaws.{no-head, Known, Passed, passed, known, no_room, kept, pair-near, steady, turning}
use Rattle.verdict.proofs.judge_trace.Goals as goal
use Rattle.verdict.proofs.judge_trace.Goals.{In_ok-tested_trace, After-rows-rows}

pub returns-in_err-tested_trace : goal.returns-in_err-tested_trace
returns-in_err-tested_trace c =
    let a = c.args in
    let p = err_from_is_err_and c.from_residual.result c.from_residual.ensures.1 in
    rw (p.1, p.2) (no-head a.t.now a.trace.now a.stamps.now refl c.in_err-tested_trace.ensures)

-- the place where the table and the trace have passed their tests
tested : (p : In_ok-tested_trace) → Passed p.args.t.now p.args.trace.now
tested p = passed p.args.t.now p.args.trace.now refl p.in_ok-tested_trace.ensures

pub returns-then-stamps-trace : goal.returns-then-stamps-trace
returns-then-stamps-trace c = no_room (tested (goal.at.returns-then-stamps-trace c).In_ok-tested_trace) c.args.stamps.now (omega arith)

-- and its transitions are lent as a slice
lent : (p : After-rows-rows) → Passed p.args.t.now p.args.trace.now → Known p.rows-rows.result.now p.args.trace.now
lent p h = known h p.rows-rows.result.now p.rows-rows.ensures.held

pub invariant_of-least_pair : goal.invariant_of-least_pair
invariant_of-least_pair c =
    let p = goal.at.invariant_of-least_pair c in
    let k = kept (lent p.After-rows-rows (tested p.In_ok-tested_trace)) in
    record { some = k.some; few = k.few; known = k.known; ranged = k.ranged }

pub returns-in_default : goal.returns-in_default
returns-in_default c =
    steady (tested (goal.at.returns-in_default c).In_ok-tested_trace) c.rows-rows.result.now c.rows-rows.ensures.held c.args.stamps.now (omega arith)
    c.in_default.ensures

pub overflow_add-result-2 : goal.overflow_add-result-2
overflow_add-result-2 c =
    let p = goal.at.overflow_add-result-2 c in
    omega (arith, pair-near (lent p.After-rows-rows (tested p.In_ok-tested_trace)) c.in-Some.ensures)

pub returns : goal.returns
returns c =
    turning (tested (goal.at.returns c).In_ok-tested_trace) c.rows-rows.result.now c.rows-rows.ensures.held c.args.stamps.now (omega arith) _ _ _
    c.in-Some.ensures c.write_words.ensures
