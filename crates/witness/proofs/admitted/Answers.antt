-- The table's check, then the room.
use native.Mathlib.Omega.{arith}
use Rattle.std.proofs.Common.{refl}
use Rattle.std.proofs.lemmas.Result.{err_from_is_err_and}
use Rattle.model.specs.Table.{Valid}
use Rattle.table.specs.Rows.{machine_of}
use Rattle.table.proofs.TestLaws.{sound-valid}
use Rattle.witness.proofs.WitnessLaws.{not-admitted, no_room, is-admitted}
use Rattle.witness.proofs.admitted.Goals as goal
use Rattle.witness.proofs.admitted.Goals.{In_ok-check, then-steps-lt270-via-then-steps-lt270, then-steps-lt270-via-else-steps-lt270+then-stamps-least}

-- the table passed its check
valid : (p : In_ok-check) → Valid (machine_of p.args.t.now)
valid p = sound-valid _ refl p.in_ok-check.ensures

pub returns-in_err-check : goal.returns-in_err-check
returns-in_err-check c =
    let a = c.args in
    let p = err_from_is_err_and c.from_residual.result c.from_residual.ensures.1 in
    rw (p.1, p.2) (not-admitted (machine_of a.t.now) a.steps a.stamps a.least refl c.in_err-check.ensures)

pub returns-then-steps-lt270 : goal.returns-then-steps-lt270
returns-then-steps-lt270 c =
    let a = c.args in
    no_room (machine_of a.t.now) a.steps a.stamps a.least (valid (goal.at.returns-then-steps-lt270 c).In_ok-check)
    (λ h. elim c.then-steps-lt270.branch [
      | then-steps-lt270-via-then-steps-lt270 w ↦ omega (arith, w.if-steps-lt270.true, h)
      | then-steps-lt270-via-else-steps-lt270+then-stamps-least w ↦ omega (arith, w.if-stamps-least.true, h)
    ])

pub returns : goal.returns
returns c =
    let a = c.args in
    is-admitted (machine_of a.t.now) a.steps a.stamps a.least (valid (goal.at.returns c).In_ok-check) (omega arith, omega arith)
