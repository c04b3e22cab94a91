-- The loop keeps that the steps after the n-th are written, and that s is where they begin.
use mathlib.Core.Path.{◌≡◌}
use Prim.Native.Nat.{◌≤◌, ◌-◌}
use lib.ListN.{length}
use Rattle.table.specs.Rows.{row_of, said}
use Rattle.reach.specs.Reach.{mark}
use Rattle.reach.proofs.ReachLaws.{Written}
use Rattle.reach.proofs.write_way.Given as goal

abbrev pub invariant-loop-n : goal.invariant-loop-n
invariant-loop-n l =
    (l.steps ≡ mark l.ways.dist l.end - 1) × (l.steps ≤ length l.initial.trace)
    × Written (λ x. said (row_of l.rows x)) l.ways.via l.initial.trace l.steps l.end l.trace l.n l.s
