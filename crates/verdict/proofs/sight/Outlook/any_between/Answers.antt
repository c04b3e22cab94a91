-- By a lemma, so that a test that asks for something else is refused by what it says.
use Rattle.verdict.proofs.MarkLaws.{clear-more, asked-fits}
use Rattle.verdict.proofs.sight.Outlook.any_between.Goals as goal

pub loop-m-preserved : goal.loop-m-preserved
loop-m-preserved c =
    λ e.
    let l = c.loop-m in
    let f = asked-fits l.any {early = c.args.self.early.now} {late = c.args.self.late.now} c.args.q l.m e in
    clear-more (l.invariant f.0) f.1
