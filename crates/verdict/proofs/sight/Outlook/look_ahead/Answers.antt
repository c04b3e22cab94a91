-- What is not named follows from the arithmetic around it.
use native.Mathlib.Omega.{arith}
use mathlib.Core.Path.{refl}
use Rattle.verdict.proofs.MarkLaws.{clear-join}
use Rattle.verdict.proofs.SightLaws.{clear-beyond, far-by}
use Rattle.verdict.proofs.sight.Outlook.look_ahead.Goals as goal

pub returns-else-any_between-2 : goal.returns-else-any_between-2
returns-else-any_between-2 c =
    let beyond = clear-join (c.any_between.ensures c.if-any_between.false) (clear-beyond c.args.self.seen c.reach-far.ensures.0 c.reach-far.ensures.1) in
    let within = c.any_between-else-any_between.ensures c.if-any_between-2.false in
    (refl, far-by c.mark_block-all.ensures (omega arith) (clear-join within beyond))
