use mathlib.Core.Path.{sym}
use native.Mathlib.Omega.{arith}
use Rattle.wire.proofs.Bytes.{le-past, le-halves}
use Rattle.wire.proofs.four.Goals as goal

pub returns-then-b-k : goal.returns-then-b-k
returns-then-b-k c = sym (le-past 4 c.args.b.now c.args.k c.if-b-k.true)

pub returns : goal.returns
returns c = omega (arith, le-halves c.args.b.now c.args.k)
