-- The loop keeps that no number passed makes a pair with i.
use Prim.Native.Nat.{ℕ, ◌<◌}
use Rattle.table.specs.Rows.{transitions}
use Rattle.split_pair.specs.Split.{MarkedPair}
use Rattle.split_pair.proofs.partner.Given as goal

abbrev pub invariant-loop-j : goal.invariant-loop-j
invariant-loop-j l = (y : ℕ) → y < l.j → MarkedPair (transitions l.rows) l.dist l.i y → ⊥
