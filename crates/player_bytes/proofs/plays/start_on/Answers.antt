use Rattle.std.proofs.Common.{refl, arith}
use mathlib.Core.Logic.{inl}
use Rattle.std.proofs.lemmas.Result.{err_from_is_err_and}
use Rattle.table.specs.Rows.{machine_of}
use Rattle.table.specs.Tests.{refuses}
use Rattle.player_bytes.proofs.PlayLaws.{start-refused}
use Rattle.player_bytes.proofs.plays.start_on.Goals as goal

pub returns-then-config-lt10 : goal.returns-then-config-lt10
returns-then-config-lt10 c = rw c.from.ensures (refuses refl (inl ((λ r. omega (arith, r.0)), refl, refl)) refl)

pub returns-in_err-done : goal.returns-in_err-done
returns-in_err-done c =
    let a = c.args in
    let p = err_from_is_err_and c.from_residual.result c.from_residual.ensures.1 in
    let o = rw c.in_err-done.was at c.start-moved.ensures in
    rw (p.1, p.2) (start-refused (machine_of a.t.now) c.requires a.config.now a.lent (omega arith) _ o)
