use Rattle.std.proofs.Common.{rules}
use native.Mathlib.Omega.{arith}
use mathlib.Core.Path.{◌≡◌}
use Prim.Native.Nat.{◌+◌, min}
use lib.ListN.{get_or}
use Rattle.table.specs.Rows.{row_at}
use Rattle.walks.proofs.WalkLaws.{seen}
use Rattle.soonest.proofs.SoonestLaws.{lower-not, lower-more}
use Rattle.soonest.proofs.lower.Goals as goal
use Rattle.soonest.proofs.lower.Goals.{After-min}

-- the lesser of the delay and what is kept for the state that the transition leads to
lesser : (p : After-min) → let t = row_at p.args.fit.rows.now p.args.i in p.min.result ≡ min t.d (get_or p.args.soonest.now t.to 0)
lesser p =
    let t = row_at p.args.fit.rows.now p.args.i in
    let g : p.from.result ≡ t.to = omega arith in
    let m : p.min.result ≡ min t.d (get_or p.args.soonest.now p.from.result 0) = search rules in
    rw g at m

pub returns-then-soonest-from : goal.returns-then-soonest-from
returns-then-soonest-from c =
    let t = row_at c.args.fit.rows.now c.args.i in
    let f : c.from-from.result ≡ t.from = omega arith in
    lower-not c.requires.1 (seen c.args.fit c.args.i c.requires.0) {x = t.u + c.min.result}
    (omega (arith, lesser (goal.at.returns-then-soonest-from c).After-min)) (rw f at c.if-soonest-from.true)

pub returns : goal.returns
returns c =
    let t = row_at c.args.fit.rows.now c.args.i in
    let f : c.from-from.result ≡ t.from = omega arith in
    rw f (lower-more c.requires.1 (seen c.args.fit c.args.i c.requires.0) {x = t.u + c.min.result}
    (omega (arith, lesser (goal.at.returns c).After-min)) (rw f at c.if-soonest-from.false))
