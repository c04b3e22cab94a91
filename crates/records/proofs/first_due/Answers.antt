use Rattle.std.proofs.Common.{rules}
use Rattle.records.proofs.ListLaws.{FirstAt, first-due}
use Rattle.records.proofs.first_due.Goals as goal

pub returns : goal.returns
returns c = let h : FirstAt c.args.waiting.now c.position.result = search rules in first-due c.args.waiting.now c.position.result h
