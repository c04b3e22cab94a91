use Rattle.std.proofs.Common.{◌≡◌, ◌++◌, drop}
use Rattle.wire.specs.Bytes.{les_by}
use Rattle.wire.proofs.take.Given as goal

abbrev pub invariant-loop-i : goal.invariant-loop-i
invariant-loop-i g l = l.out ≡ les_by g.N.Number.number g.row.W l.i l.b 0 ++ drop l.i l.initial.out
