use native.Mathlib.Omega.{arith}
use mathlib.Core.Path.{◌∙◌, ap}
use mathlib.Core.List.{◌++◌, append-nil}
use lib.ListN.{length, take, drop}
use Rattle.std.proofs.lemmas.List.{length-take-le, drop_all}
use Rattle.player_bytes.specs.Records.{records_bytes}
use Rattle.player_bytes.proofs.HeldLaws.{writing-none, writing_more, writing-all}
use Rattle.player_bytes.proofs.held.put_records.Goals as goal

pub loop-i-init : goal.loop-i-init
loop-i-init c = writing-none (omega arith) (omega (arith, length-take-le 1920 c.args.out.now c.requires))

pub put_record-requires-clause-in_bounds : goal.put_record-requires-clause-in_bounds
put_record-requires-clause-in_bounds c = omega (arith, c.loop-i.auto.held, length-take-le 1920 c.args.out.now c.requires)

pub loop-i-preserved : goal.loop-i-preserved
loop-i-preserved c = writing_more c.loop-i.invariant _ (omega arith) c.put_record.ensures

pub returns : goal.returns
returns c =
    let l = c.args.out.now in
    let e = length-take-le 1920 l c.requires in
    let all = writing-all c.loop-i.invariant (omega arith) in
    ap (λ x. x ++ drop 1920 l) (all ∙ ap (λ x. records_bytes c.args.list.now ++ x) (drop_all 1920 (take 1920 l) (omega arith)) ∙ append-nil _)
