use Rattle.std.proofs.Common.{refl, arith}
use Rattle.std.proofs.lemmas.Result.{err_from_is_err_and}
use Rattle.model.specs.Table.{Valid}
use Rattle.table.specs.Rows.{machine_of}
use Rattle.table.proofs.TestLaws.{sound-valid}
use Rattle.player.proofs.MoveLaws.{start-refused, start-room, start-split, started}
use Rattle.player.proofs.begin.Goals as goal
use Rattle.player.proofs.begin.Goals.{In_ok-check}

-- the table passed its check
valid : (p : In_ok-check) → Valid (machine_of p.args.t.now)
valid p = sound-valid _ refl p.in_ok-check.ensures

pub returns-in_err-check : goal.returns-in_err-check
returns-in_err-check c =
    let a = c.args in
    let p = err_from_is_err_and c.from_residual.result c.from_residual.ensures.1 in
    rw (p.1, p.2) (start-refused (machine_of a.t.now) a.lent _ c.in_err-check.ensures)

pub returns-then-lent-lt240 : goal.returns-then-lent-lt240
returns-then-lent-lt240 c =
    let a = c.args in
    rw c.from.ensures (start-room (machine_of a.t.now) a.lent (valid (goal.at.returns-then-lent-lt240 c).In_ok-check) (λ h. omega arith))

pub returns-then-not-unsplit : goal.returns-then-not-unsplit
returns-then-not-unsplit c =
    let a = c.args in
    start-split (machine_of a.t.now) a.lent (valid (goal.at.returns-then-not-unsplit c).In_ok-check) (omega arith) c.if-not-unsplit.ensures

pub returns : goal.returns
returns c =
    let a = c.args in
    started (machine_of a.t.now) a.lent (valid (goal.at.returns c).In_ok-check) (omega arith) c.if-not-unsplit.ensures _ _ c.default.ensures c.default-2.ensures
