use Rattle.std.proofs.Common.{◌≡◌, map, ◌++◌, take, drop}
use Rattle.records.specs.Record.{aged}
use Rattle.records.proofs.age.Given as goal

abbrev pub invariant-loop-p : goal.invariant-loop-p
invariant-loop-p l = l.p-items ≡ map (aged l.t) (take l.p-index (take l.n l.fn.list)) ++ drop l.p-index (take l.n l.fn.list)
