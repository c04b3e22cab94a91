use Rattle.std.proofs.Common.{rules}
use Rattle.soonest.proofs.SoonestLaws.{FoundAt, found_lowest}
use Rattle.soonest.proofs.lowest_overtaken.Goals as goal

pub returns : goal.returns
returns c =
    let h : FoundAt c.args.rows.now c.args.dist.now c.settle-soonest.result c.position.result = search rules in
    found_lowest c.in_ok-new.field-0 c.in_ok-new.ensures.is _ c.settle-soonest.ensures _ h
