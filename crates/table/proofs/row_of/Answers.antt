use native.Mathlib.Omega.{arith}
use mathlib.Core.Path.{refl, sym}
use lib.ListN.{get_or-eq_default}
use Rattle.table.specs.Rows.{blank, row_of}
use Rattle.table.proofs.row_of.Goals as goal

pub returns-then-i-rows : goal.returns-then-i-rows
unfolding row_of
returns-then-i-rows c = refl

pub returns-else-i-rows : goal.returns-else-i-rows
unfolding row_of
returns-else-i-rows c = sym (get_or-eq_default c.args.rows.now blank (omega arith))
