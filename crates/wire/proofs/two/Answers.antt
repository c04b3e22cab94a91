-- What is not named follows from the arithmetic around it.
use mathlib.Core.Path.{sym}
use native.Mathlib.Omega.{arith}
use Rattle.wire.proofs.Bytes.{le-past}
use Rattle.wire.proofs.two.Goals as goal

pub returns-then-b-k : goal.returns-then-b-k
returns-then-b-k c = sym (le-past 2 c.args.b.now c.args.k c.if-b-k.true)

pub returns : goal.returns
returns c = omega arith
