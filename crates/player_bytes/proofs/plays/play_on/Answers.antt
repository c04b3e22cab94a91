use Rattle.std.proofs.Common.{refl, arith}
use mathlib.Core.Logic.{inl}
use Rattle.std.proofs.lemmas.Result.{err_from_is_err_and}
use Rattle.table.specs.Rows.{machine_of}
use Rattle.table.specs.Tests.{refuses}
use Rattle.player_bytes.proofs.PlayLaws.{on-refused, on-done}
use Rattle.player_bytes.proofs.plays.play_on.Goals as goal

pub returns-then-config-lt10 : goal.returns-then-config-lt10
returns-then-config-lt10 c = refuses refl (inl ((λ r. omega (arith, r)), refl, refl)) (refl, refl)

pub returns-in_err-done : goal.returns-in_err-done
returns-in_err-done c =
    let a = c.args in
    let p = err_from_is_err_and c.from_residual.result c.from_residual.ensures.1 in
    let o = rw c.in_err-done.was at c.play-moved.ensures in
    rw (p.1, p.2) (on-refused (machine_of a.t.now) c.requires a.config.now a.waiting.now a.m (omega arith) c.config_in-c.ensures
    c.records_in-list.ensures (omega (arith, c.min-lent.ensures)) _ o)

pub returns : goal.returns
returns c =
    let a = c.args in
    let o = rw c.in_ok-done.was at c.play-moved.ensures in
    on-done (machine_of a.t.now) c.requires a.config.now a.waiting.now a.m (omega arith) c.config_in-c.ensures c.records_in-list.ensures
    (omega (arith, c.min-lent.ensures)) _ o c.put_config.ensures c.put_records.ensures
