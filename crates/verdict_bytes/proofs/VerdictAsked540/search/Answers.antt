-- What is not named follows from the arithmetic around it.
use native.Mathlib.Omega.{arith}
use Rattle.table.specs.Rows.{machine_of}
use Rattle.table.proofs.TestLaws.{valid-count}
use Rattle.table_verdict.specs.OnTable.{table_fields, TableOutcome}
use Rattle.table_verdict.proofs.DecideLaws.{rows-judge}
use Rattle.verdict_bytes.proofs.TableLaws.{steps-few, table-uses}
use Rattle.verdict_bytes.proofs.VerdictAsked540.search.Goals as goal
use Rattle.verdict_bytes.proofs.VerdictAsked540.search.Goals.{After-judge_rows-answer}

-- the verdict on the table's transitions is that on the table
made : (p : After-judge_rows-answer) → TableOutcome (machine_of p.args.t.now) p.args.trace.now p.args.stamps.now
    (table_fields p.judge_rows-answer.result) p.judge_rows-answer.new.trace p.judge_rows-answer.new.stamps
made p =
    let a = p.args in
    let v = p.requires.valid in
    rows-judge a.t.now v _ _ (p.rows.ensures.held (valid-count a.t.now v)) a.trace.now a.stamps.now
    (omega (arith, p.requires.places), omega (arith, p.requires.places)) p.judge_rows-answer.ensures

pub used-steps-requires : goal.used-steps-requires
used-steps-requires c =
    let a = c.args in
    steps-few (machine_of a.t.now) c.requires.valid a.trace.now a.stamps.now c.requires.places (made (goal.at.used-steps-requires c).After-judge_rows-answer)

pub returns-clause-made : goal.returns-clause-made
returns-clause-made c = made (goal.at.returns-clause-made c).After-judge_rows-answer

pub returns-clause-uses : goal.returns-clause-uses
returns-clause-uses c = table-uses (machine_of c.args.t.now) c.used-steps.ensures
