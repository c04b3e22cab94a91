use Rattle.wire.proofs.Bytes.{Storing}
use Rattle.wire.proofs.put.Given as goal

abbrev pub invariant-loop-i : goal.invariant-loop-i
invariant-loop-i g l = Storing g.N.Number.digits g.row.W l.initial.out l.k l.vals l.out l.i
