use borrow.Author.Tests.{eq-eqb, ne_eqb, lt-ltb, le-ltb}
use Rattle.records.proofs.sweeps.in_order.Goals as goal

pub returns-then-p-eq0 : goal.returns-then-p-eq0
returns-then-p-eq0 c = simp (eq-eqb _ _ c.if-p-eq0.true)

pub returns-then-s-p : goal.returns-then-s-p
returns-then-s-p c = simp (ne_eqb _ _ c.if-p-eq0.false, lt-ltb _ _ c.if-s-p.true)

pub returns-then-p-gt61440 : goal.returns-then-p-gt61440
returns-then-p-gt61440 c = simp (ne_eqb _ _ c.if-p-eq0.false, le-ltb _ _ c.if-s-p.false, lt-ltb _ _ c.if-p-gt61440.true)

pub returns : goal.returns
returns c = simp (ne_eqb _ _ c.if-p-eq0.false, le-ltb _ _ c.if-s-p.false, le-ltb _ _ c.if-p-gt61440.false)
