use Rattle.std.proofs.Common.{refl}
use lib.ListN.{length-replicate}
use Rattle.table.specs.Rows.{machine_of}
use Rattle.places.proofs.ShownLaws.{shown-bytes}
use Rattle.places.proofs.shown.search_on.Goals as goal

pub returns : goal.returns
returns g c =
    let a = c.args in
    let s = c.search-found.ensures in
    shown-bytes (machine_of a.t.now) c.requires.valid 270 g.row.STAMPS _ _ (refl, length-replicate _ _) s.made a.trace.now a.stamps.now
    c.requires.passes _ _ c.put_back.ensures c.put_back-2.ensures s.uses.none s.uses.all
