use Rattle.verdict.proofs.MarkLaws.{Marked}
use Rattle.verdict.proofs.sight.Outlook.mark_block.Given as goal

abbrev pub invariant-loop-k : goal.invariant-loop-k
invariant-loop-k l = Marked l.self.early.now l.self.late.now l.self.calm.now l.i l.all l.k
