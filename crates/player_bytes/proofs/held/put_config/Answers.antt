use Rattle.player_bytes.proofs.HeldLaws.{config-put}
use Rattle.player_bytes.proofs.held.put_config.Goals as goal

pub returns : goal.returns
returns c =
    config-put c.args.c c.args.out.now _ _ c.requires c.put.ensures
    c.put-2.ensures
