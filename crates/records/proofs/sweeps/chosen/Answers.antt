use borrow.Author.Tests.{eq-eqb, ne_eqb}
use Rattle.records.proofs.sweeps.chosen.Goals as goal

pub returns-then-a-b : goal.returns-then-a-b
returns-then-a-b c = simp (eq-eqb _ _ c.if-a-b.true)

pub returns : goal.returns
returns c = simp (ne_eqb _ _ c.if-a-b.false)
