use native.Mathlib.Omega.{arith}
use mathlib.Core.Path.{◌≡◌, refl}
use Prim.Native.Nat.{◌+◌, ◌-◌}
use Rattle.walks.proofs.WalkLaws.{seen}
use Rattle.walks.proofs.BackLaws.{end_back, end-shown}
use Rattle.walks.proofs.walk.write_pair.Goals as goal

pub walk_back-p-requires : goal.walk_back-p-requires
walk_back-p-requires c =
    let e = c.end_sum-sum.ensures in
    (end_back e (seen c.args.fit c.args.k c.requires.0), omega (arith, e.few), omega arith, refl)

pub returns : goal.returns
returns c =
    let w = c.walk_back-p in
    let q = c.put_walk.ensures in
    let e = c.end_sum-sum.ensures in
    let d : w.result ≡ w.result - 1 + 1 = omega (arith, w.ensures.number, w.ensures.short, e.few) in
    rw q.1 (end-shown e (seen c.args.fit c.args.k c.requires.0) (w.result - 1)
    c.low.ensures refl w.ensures.size (rw d at w.ensures) (omega arith))
