use mathlib.Core.Path.{refl}
use lib.ListN.{length, get_or-replicate}
use Rattle.table.specs.Rows.{transitions}
use Rattle.table.proofs.RowLaws.{length-rows}
use Rattle.soonest.proofs.SoonestLaws.{real-none, round-done}
use Rattle.soonest.proofs.settle.Goals as goal

pub loop-init : goal.loop-init
loop-init c = real-none _ refl (λ s h. get_or-replicate 32 s 240 0 h)

pub returns : goal.returns
returns c =
    let t = c.args.fit.rows.now in
    round-done (transitions t) (length t) c.loop.soonest c.lower_all.result c.loop-test.false (length-rows t (length t)) c.loop.invariant c.lower_all.ensures
