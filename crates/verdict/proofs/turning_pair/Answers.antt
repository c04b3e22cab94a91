use native.Mathlib.Omega.{arith}
use lib.ListN.{length}
use Rattle.model.proofs.AnswerLaws.{told, untold}
use Rattle.verdict.proofs.JudgeLaws.{too_many, not-ranged, not-trace, Known, found, kept, pair-near, told_none, told-pair}
use Rattle.table.specs.Fit.{Sound}
use Rattle.trace.specs.Named.{TraceIn}
use Rattle.verdict.proofs.turning_pair.Goals as goal
use Rattle.verdict.proofs.turning_pair.Goals.{Else-not-is_trace}

pub returns-then-rows-gt256 : goal.returns-then-rows-gt256
returns-then-rows-gt256 c = too_many c.args.rows.now c.args.trace.now (omega arith)

pub returns-then-not-in_limits : goal.returns-then-not-in_limits
returns-then-not-in_limits c =
    not-ranged c.args.rows.now c.args.trace.now (omega arith) (untold c.in_limits.result c.in_limits.ensures c.if-not-in_limits.true)

pub returns-then-not-is_trace : goal.returns-then-not-is_trace
returns-then-not-is_trace c =
    not-trace c.args.rows.now c.args.trace.now (told c.in_limits.result c.in_limits.ensures c.if-not-in_limits.false)
    (untold c.is_trace.result c.is_trace.ensures c.if-not-is_trace.true)

-- what is known where the tests were passed
module _ (p : Else-not-is_trace) where
  sound : Sound p.args.rows.now (length p.args.rows.now)
  sound = told p.in_limits.result p.in_limits.ensures p.if-not-in_limits.false

  handed : TraceIn p.args.rows.now (length p.args.rows.now) p.args.trace.now
  handed = told p.is_trace.result p.is_trace.ensures p.if-not-is_trace.false

  passed : Known p.args.rows.now p.args.trace.now
  passed = found p.args.rows.now p.args.trace.now sound handed

pub invariant_of-least_pair : goal.invariant_of-least_pair
invariant_of-least_pair c =
    let k = kept (passed (goal.at.invariant_of-least_pair c).Else-not-is_trace) in
    record { some = k.some; few = k.few; known = k.known; ranged = k.ranged }

pub overflow_add-result-in-Some : goal.overflow_add-result-in-Some
overflow_add-result-in-Some c =
    omega (arith, pair-near (passed (goal.at.overflow_add-result-in-Some c).Else-not-is_trace) c.in-Some.ensures)

pub returns-in-Some : goal.returns-in-Some
returns-in-Some c =
    let p = (goal.at.returns-in-Some c).Else-not-is_trace in
    told-pair c.args.rows.now c.args.trace.now (sound p) (handed p) _ _ c.in-Some.ensures

pub returns-in-None : goal.returns-in-None
returns-in-None c =
    let p = (goal.at.returns-in-None c).Else-not-is_trace in
    told_none c.args.rows.now c.args.trace.now (sound p) (handed p) c.in-None.ensures
