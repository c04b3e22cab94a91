-- The tests, then the decision. What is not named follows from the arithmetic around it.
use Rattle.std.proofs.Common.{refl}
use Rattle.std.proofs.lemmas.Result.{err_from_is_err_and}
use Rattle.table.specs.Rows.{machine_of}
use Rattle.table.proofs.ShowingLaws.{shown-refused}
use Rattle.table.proofs.TestLaws.{valid-count}
use Rattle.witness.proofs.WitnessLaws.{admits}
use Rattle.table_verdict.proofs.DecideLaws.{rows-judge}
use Rattle.table_verdict.proofs.judge_table.Goals as goal

pub returns-in_err-admitted : goal.returns-in_err-admitted
returns-in_err-admitted c =
    let p = err_from_is_err_and c.from_residual.result c.from_residual.ensures.1 in
    rw (p.1, p.2) (shown-refused _ c.args.trace.now c.args.stamps.now refl c.in_err-admitted.ensures)

pub returns : goal.returns
returns c =
    let a = c.args in
    let o = admits (machine_of a.t.now) _ _ _ refl c.in_ok-admitted.ensures in
    rows-judge a.t.now o.0 _ _ (c.rows.ensures.held (valid-count a.t.now o.0)) a.trace.now a.stamps.now o.1 c.judge_rows.ensures
