use mathlib.Core.Path.{◌≡◌}
use Prim.Native.Nat.{◌-◌}
use lib.ListN.{length}
use Rattle.table_file.specs.Records.{Kept}
use Rattle.table_file.proofs.reader.rows_by.Given as goal

abbrev pub invariant-loop-n : goal.invariant-loop-n
invariant-loop-n l = Kept l.file l.seen l.states l.n l.at × (length l.seen ≡ length l.initial.seen)

abbrev pub decreases-loop-n : goal.decreases-loop-n
decreases-loop-n l = 257 - l.n
