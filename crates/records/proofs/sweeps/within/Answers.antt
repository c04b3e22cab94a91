use Prim.Native.Nat.{◌≤◌, ◌<◌}
use native.Mathlib.Omega.{arith}
use borrow.Author.Tests.{le-leb, lt-leb}
use Rattle.records.proofs.sweeps.within.Goals as goal

pub returns-then-n-lent : goal.returns-then-n-lent
returns-then-n-lent c = let h : c.args.n ≤ c.args.lent = omega arith in (rw (le-leb _ _ h), h)

pub returns : goal.returns
returns c = let h : c.args.lent < c.args.n = omega arith in (rw (lt-leb _ _ h), omega arith)
