-- What a line keeps, as the laws on traces ask for it.
use mathlib.Core.Path.{◌≡◌}
use mathlib.Core.List.{List, [], ◌∷◌}
use Prim.Native.Nat.{ℕ, zero, suc, ◌<◌}
use native.Mathlib.Omega.{arith}
use lib.ListN.{length, get_or}
use Rattle.std.specs.Prelude.{All as Every}
use Rattle.model.specs.Lists.{All}
use Rattle.model.specs.Table.{InRange, at}
use Rattle.table.specs.declared.Row.{Row}
use Rattle.table.specs.Rows.{row_of, said}
use Rattle.table.proofs.NamedLaws.{length-named, step-named}
use Rattle.verdict.specs.declared.line.Line.{Line}
use Rattle.verdict.specs.Line.{along}

module _ {A : Type 0} {P : A → Type 0} where
  of-each : (l : List A) → Every P l → All P l
  of-each [] a = All.all_nil
  of-each (t ∷ l) a = All.all_cons (a 0 t (omega arith)) (of-each l (λ k d h. a (suc k) d (omega arith)))

  pub to-each : (l : List A) → All P l → Every P l
  to-each [] e k d h = absurd (omega arith)
  to-each (t ∷ l) (All.all_cons p e) zero d h = p
  to-each (t ∷ l) (All.all_cons p e) (suc k) d h = to-each l e k d (omega arith)

module _ (p : Line) where
  pub fine : All (InRange 32) (along p)
  fine = of-each (along p) p.ranged

  pub length-along : length (along p) ≡ length p.trace.now
  length-along = length-named p.rows.now p.trace.now

  -- a step that was looked up
  pub step-along : (i : ℕ) → i < length p.trace.now → (s : Row) → s ≡ row_of p.rows.now (get_or p.trace.now i 0) → said s ≡ at (along p) i
  step-along i h s e = step-named p.rows.now p.trace.now i h s e
