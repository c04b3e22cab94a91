-- What the cells that the search asks for give at each row that is read.
use mathlib.Core.Path.{◌≡◌, ap, ◌∙◌}
use mathlib.Core.List.{List}
use Prim.Native.Nat.{ℕ, ◌≤◌, ◌<◌}
use native.Mathlib.Omega.{arith}
use lib.ListN.{length}
use Rattle.model.specs.Lists.{All}
use Rattle.model.specs.Table.{Transition, InRange, Valid, at, none}
use Rattle.model.proofs.Lists.{all-at, all_map}
use Rattle.table.specs.declared.Row.{Row}
use Rattle.table.specs.declared.Table.{Table}
use Rattle.table.specs.Rows.{rows, row_of, said, machine_of}
use Rattle.table.specs.declared.fit.Fit.{Fit}
use Rattle.table.specs.Fit.{Sound}
use Rattle.table.proofs.SliceLaws.{every-all}
use Rattle.table.proofs.RowLaws.{length-rows, row-known}

module _ {c : List Row} {n : ℕ} (sound : Sound c n) (i : ℕ) (known : i < n) where
  -- the row that was read is the transition
  pub row-said : {r : Row} → r ≡ row_of c i → said r ≡ at (rows c n) i
  row-said e = ap said e ∙ row-known c n i known

  pub row-ranged : InRange 32 (at (rows c n) i)
  row-ranged = all-at none sound.ranged i (omega (arith, length-rows c n))

  -- its states have a place among 32
  pub row-leaves : {r : Row} → r ≡ row_of c i → r.from < 32
  row-leaves e = omega (arith, ap (λ (t : Transition). t.from) (row-said e), row-ranged.leaves)

  pub row-arrives : {r : Row} → r ≡ row_of c i → r.to < 32
  row-arrives e = omega (arith, ap (λ (t : Transition). t.to) (row-said e), row-ranged.arrives)

-- what a fit slice is
pub fit-sound : (f : Fit) → Sound f.rows.now (length f.rows.now)
fit-sound f = record { few = f.few; ranged = (every-all f.rows.now).0 f.ranged }

-- within fewer states is within more
pub range-wider : {a b : ℕ} → a ≤ b → (t : Transition) → InRange a t → InRange b t
range-wider h t g = record {
  leaves = omega arith;
  asks = g.asks;
  answers = g.answers;
  arrives = omega arith;
  low = g.low;
  wide = g.wide;
  high = g.high;
  soon = g.soon;
  late = g.late;
}

pub ranged-wider : {a b : ℕ} → a ≤ b → {l : List Transition} → All (InRange a) l → All (InRange b) l
ranged-wider h = all_map (range-wider h)

-- a valid table's cells
pub valid-sound : (t : Table) → t.count ≤ 256 → Valid (machine_of t) → Sound t.cells t.count
valid-sound t few v = record { few = few; ranged = ranged-wider v.most v.ranged }
