use mathlib.Core.Path.{refl}
use lib.ListN.{length-replicate}
use Rattle.starts.proofs.TableLaws.{blank-new}
use Rattle.starts.proofs.in_room.Goals as goal

pub lowest_start-requires : goal.lowest_start-requires
lowest_start-requires g c = (c.requires.0, refl, blank-new g.row.ROOM, simp length-replicate c.requires.1)
