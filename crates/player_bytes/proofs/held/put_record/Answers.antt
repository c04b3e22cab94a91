use native.Mathlib.Omega.{arith}
use Rattle.player_bytes.proofs.HeldLaws.{record-put}
use Rattle.player_bytes.proofs.held.put_record.Goals as goal

pub returns : goal.returns
returns c =
    record-put c.args.p c.args.out.now _ _ c.args.k (omega (arith, c.requires))
    c.put.ensures c.put-2.ensures
