-- The loop keeps that the rounds before r are over.
use mathlib.Core.Path.{◌≡◌, refl}
use native.Mathlib.Omega.{arith}
use lib.ListN.{length}
use Rattle.table.specs.Rows.{transitions}
use Rattle.table.proofs.RowLaws.{length-rows}
use Prim.Native.Nat.{◌+◌}
use Rattle.reach.specs.Rounds.{Round}
use Rattle.reach.proofs.RoundLaws.{first_round, first_marks, round-over, start-kept, rounds-reach}
use Rattle.reach.proofs.spread.Goals as goal
use Rattle.reach.proofs.spread.Goals.{After-round}

pub loop-r-init : goal.loop-r-init
loop-r-init c =
    let e : c.from.result ≡ c.args.initial = omega arith in
    rw e (
      first_round (transitions c.args.fit.rows.now) _ _ c.args.initial refl refl c.requires,
      first_marks (transitions c.args.fit.rows.now) _ _ c.args.initial refl refl c.requires,
    )

-- the round is over
over : (p : After-round) → Round (transitions p.args.fit.rows.now) p.round.new.self.dist p.round.new.self.via (p.loop-r.r + 1) 0 p.round.result
over p =
    let t = p.args.fit.rows.now in
    let n : length (transitions t) ≡ length t = length-rows t (length t) in
    round-over (rw n p.round.ensures.round)

pub loop-r-preserved : goal.loop-r-preserved
loop-r-preserved c =
    let e : c.round.result ≡ c.loop-r.r + 1 = omega (arith, c.round.ensures.round.near) in
    (rw e at (over (goal.at.loop-r-preserved c).After-round), start-kept c.round.ensures.same_start c.loop-r.invariant.1)

pub returns-then-round-r : goal.returns-then-round-r
returns-then-round-r c =
    rounds-reach (over (goal.at.returns-then-round-r c).After-round) (omega arith) (start-kept c.round.ensures.same_start c.loop-r.invariant.1)
