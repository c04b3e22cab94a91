use native.Mathlib.Omega.{arith}
use mathlib.Core.Path.{sym, ◌∙◌}
use Rattle.std.proofs.lemmas.Bool.{both_ways}
use Rattle.model.proofs.AnswerLaws.{told, untold}
use Rattle.table.specs.Rows.{machine_of}
use Rattle.table.specs.Tests.{Ranged}
use Rattle.table.proofs.RangeLaws.{head-true}
use Rattle.table.proofs.TestLaws.{check-full, check-range, check-twin, check_sound}
use Rattle.table.proofs.check.Goals as goal
use Rattle.table.proofs.check.Goals.{Else-not-all_in_range}
use Rattle.table.proofs.check.Goals.{then-not-head_fine-via-then-not-head_fine, then-not-head_fine-via-else-not-head_fine+then-not-all_in_range}

pub returns-then-t-gt256 : goal.returns-then-t-gt256
returns-then-t-gt256 c = check-full _ c.if-t-gt256.true

pub returns-then-not-head_fine : goal.returns-then-not-head_fine
returns-then-not-head_fine c =
    let is = c.rows-rows.ensures.held (omega arith) in
    check-range _ (omega arith) (elim c.then-not-head_fine.branch [
      | then-not-head_fine-via-then-not-head_fine w ↦ λ r. both_ways _ (sym c.head_fine.ensures ∙ w.if-not-head_fine.true) ((head-true _ _).1 r.sized)
      | then-not-head_fine-via-else-not-head_fine+then-not-all_in_range w ↦
          λ r. untold w.all_in_range.result w.all_in_range.ensures w.if-not-all_in_range.true (rw is r.ranged)
    ])

-- the head's numbers and all transitions' are within their ranges
ranged : (p : Else-not-all_in_range) → Ranged (machine_of p.args.t.now)
ranged p =
    let all = p.all_in_range in
    record {
      sized = (head-true _ _).0 (sym p.head_fine.ensures ∙ p.if-not-head_fine.false);
      ranged = rw (p.rows-rows.ensures.held (omega arith)) at (told all.result all.ensures p.if-not-all_in_range.false);
    }

pub returns-then-not-all_unlike : goal.returns-then-not-all_unlike
returns-then-not-all_unlike c =
    let un = c.all_unlike in
    let p = goal.at.returns-then-not-all_unlike c in
    check-twin _ (omega arith) (ranged p.Else-not-all_in_range) (λ d. untold un.result un.ensures c.if-not-all_unlike.true (rw (c.rows-rows.ensures.held (omega arith)) d))

pub returns : goal.returns
returns c =
    let un = c.all_unlike in
    let p = goal.at.returns c in
    check_sound _ (omega arith) (ranged p.Else-not-all_in_range) (rw (c.rows-rows.ensures.held (omega arith)) at (told un.result un.ensures c.if-not-all_unlike.false))
