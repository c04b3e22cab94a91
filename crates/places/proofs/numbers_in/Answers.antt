-- The room by arithmetic, so that an edit of it is refused by its numbers.
use native.Mathlib.Omega.{arith}
use Rattle.places.proofs.PlaceLaws.{decoded-rest, decoded-long, decoded-all}
use Rattle.places.proofs.numbers_in.Goals as goal
use Rattle.places.proofs.numbers_in.Goals.{then-rest-gt0-via-then-rest-gt0, then-rest-gt0-via-else-rest-gt0+then-out-n}

pub returns-then-rest-gt0 : goal.returns-then-rest-gt0
returns-then-rest-gt0 g c =
    elim c.then-rest-gt0.branch [
      | then-rest-gt0-via-then-rest-gt0 w ↦ decoded-rest _ _ _ _ w.if-rest-gt0.true
      | then-rest-gt0-via-else-rest-gt0+then-out-n w ↦ decoded-long _ _ _ _ w.if-rest-gt0.false (omega (arith, w.if-out-n.true))
    ]

pub returns : goal.returns
returns g c = decoded-all _ _ _ _ c.if-rest-gt0.false (omega (arith, c.if-out-n.false)) c.take.ensures
