-- The loop keeps that the places of the transitions passed, each another, are those taken.
use native.Mathlib.Omega.{arith}
use mathlib.Core.Path.{◌≡◌, ap}
use lib.ListN.{length}
use Rattle.model.specs.Table.{at}
use Rattle.table.specs.Rows.{transitions}
use Rattle.table.proofs.RowLaws.{at_rows}
use Rattle.split_pair.specs.Split.{fork_place}
use Rattle.split_pair.proofs.ApartLaws.{taken_none, taken_twice, taken_more}
use Rattle.split_pair.proofs.apart.Goals as goal
use Rattle.split_pair.proofs.apart.Goals.{After-place-k}

pub loop-r-init : goal.loop-r-init
loop-r-init c = taken_none _

-- the place that was found is that of the transition
placed : (p : After-place-k) → p.place-k.result ≡ fork_place (at (transitions p.args.rows.now) p.loop-r.r-index)
placed p =
    let t = p.args.rows.now in
    omega (arith, p.place-k.ensures, ap fork_place (at_rows t (length t) p.loop-r.r-index p.loop-r-test.true))

pub returns-then-taken-k : goal.returns-then-taken-k
returns-then-taken-k c =
    let l = c.loop-r in
    λ w. taken_twice _ l.r-index l.taken l.invariant c.place-k.result (placed (goal.at.returns-then-taken-k c).After-place-k) (omega (arith, c.place-k.ensures)) c.if-taken-k.true
    (length c.args.rows.now) c.loop-r-test.true w.apart

pub loop-r-preserved : goal.loop-r-preserved
loop-r-preserved c =
    let l = c.loop-r in
    taken_more _ l.r-index l.taken l.invariant c.place-k.result (placed (goal.at.loop-r-preserved c).After-place-k) (omega (arith, c.place-k.ensures)) c.if-taken-k.false
