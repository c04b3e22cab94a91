use Rattle.std.proofs.Common.{refl, arith}
use Rattle.std.proofs.lemmas.Result.{err_from_is_err_and}
use Rattle.model.specs.Table.{Valid}
use Rattle.table.specs.Rows.{machine_of}
use Rattle.table.proofs.TestLaws.{sound-valid}
use Rattle.player.specs.declared.Move.TheVariants.{Time, Input, Output}
use Rattle.player.proofs.MoveLaws.{table-refused, damaged, no_room, stepped}
use Rattle.player.proofs.step.Goals as goal
use Rattle.player.proofs.step.Goals.{In_ok-check}

-- the table passed its check
valid : (p : In_ok-check) → Valid (machine_of p.args.t.now)
valid p = sound-valid _ refl p.in_ok-check.ensures

pub returns-in_err-check : goal.returns-in_err-check
returns-in_err-check c =
    let a = c.args in
    let p = err_from_is_err_and c.from_residual.result c.from_residual.ensures.1 in
    rw (p.1, p.2) (table-refused (machine_of a.t.now) a.c a.list.now a.m _ c.in_err-check.ensures)

pub returns-then-not-whole : goal.returns-then-not-whole
returns-then-not-whole c =
    let a = c.args in
    damaged (machine_of a.t.now) a.c a.list.now a.m (valid (goal.at.returns-then-not-whole c).In_ok-check) c.if-not-whole.ensures

pub returns-then-list-lt240 : goal.returns-then-list-lt240
returns-then-list-lt240 c =
    let a = c.args in
    rw c.from.ensures (no_room (machine_of a.t.now) a.c a.list.now a.m (valid (goal.at.returns-then-list-lt240 c).In_ok-check) c.if-not-whole.ensures
    (λ h. omega arith))

pub returns-in-Time : goal.returns-in-Time
returns-in-Time c =
    let a = c.args in
    let m = machine_of a.t.now in
    rw c.in-Time.is (stepped m a.c a.list.now (Time c.in-Time.parts) (valid (goal.at.returns-in-Time c).In_ok-check) c.if-not-whole.ensures (omega arith) _ (c.time.ensures m))

pub returns-in-Input : goal.returns-in-Input
returns-in-Input c =
    let a = c.args in
    let m = machine_of a.t.now in
    rw c.in-Input.is (stepped m a.c a.list.now (Input c.in-Input.letter) (valid (goal.at.returns-in-Input c).In_ok-check) c.if-not-whole.ensures (omega arith) _ c.input.ensures)

pub returns-in-Output : goal.returns-in-Output
returns-in-Output c =
    let a = c.args in
    let m = machine_of a.t.now in
    rw c.in-Output.is (stepped m a.c a.list.now Output (valid (goal.at.returns-in-Output c).In_ok-check) c.if-not-whole.ensures (omega arith) _ (c.output.ensures m))
