use Prim.Native.Nat.{◌<◌}
use native.Mathlib.Omega.{arith}
use borrow.Author.Tests.{lt-leb}
use Rattle.records.proofs.sweeps.turn.Goals as goal

pub returns-else-at-i : goal.returns-else-at-i
returns-else-at-i c = let h : c.args.i < c.in-Close.at = omega arith in simp (c.in-Close.is, lt-leb _ _ h)
