use native.Mathlib.Omega.{arith}
use mathlib.Core.Path.{refl}
use mathlib.Core.Logic.{⊎_elim}
use borrow.Author.Tests.{le-leb}
use Rattle.table.specs.Check.{head_fine}
use Rattle.table.proofs.RangeLaws.{head-not}
use Rattle.table.proofs.head_fine.Goals as goal

pub returns-then-states-lt1 : goal.returns-then-states-lt1
returns-then-states-lt1 c = head-not c.args.states c.args.initial (λ h. ⊎_elim (λ l. omega arith) (λ l. omega arith) c.then-states-lt1.either)

pub returns : goal.returns
unfolding head_fine
returns c = rw (le-leb 1 c.args.states (omega arith), le-leb c.args.states 32 (omega arith)) refl
