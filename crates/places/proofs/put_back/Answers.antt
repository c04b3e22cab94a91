-- Without it an edit that takes more than there are would be refused only because the search gives up.
use native.Mathlib.Omega.{arith}
use lib.ListN.{length-take}
use Rattle.places.proofs.put_back.Goals as goal

pub slice_bounds-put-end : goal.slice_bounds-put-end
slice_bounds-put-end g c = simp length-take (omega (arith, c.lesser-k.ensures))
