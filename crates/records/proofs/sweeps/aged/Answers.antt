use mathlib.Core.Path.{◌≡◌}
use Prim.Native.Nat.{◌-◌}
use native.Mathlib.Omega.{arith}
use Rattle.records.proofs.sweeps.aged.Goals as goal

pub returns-then-left-t : goal.returns-then-left-t
returns-then-left-t c = let e : c.args.p.left - c.args.t ≡ 0 = omega arith in rw e
