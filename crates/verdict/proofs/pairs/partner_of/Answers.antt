use native.Mathlib.Omega.{arith}
use mathlib.Core.Path.{refl}
use Rattle.model.proofs.AnswerLaws.{told, untold}
use Rattle.verdict.proofs.PairLaws.{near-first, near-more, looked-last, next_small, none-later, turns-here}
use Rattle.verdict.proofs.pairs.partner_of.Goals as goal

pub loop-m-init : goal.loop-m-init
loop-m-init c = near-first c.requires c.step-first.result c.step-first.ensures

pub overflow_add-u : goal.overflow_add-u
overflow_add-u c =
    omega (arith, c.from-u.ensures, next_small c.loop-m.invariant.looked (omega arith) c.step-s.result c.step-s.ensures _ refl)

pub overflow_add-late : goal.overflow_add-late
overflow_add-late c =
    omega (
      arith,
      next_small c.loop-m.invariant.looked (omega arith) c.step-s.result c.step-s.ensures c.late_gap-late.result c.late_gap-late.ensures,
    )

pub returns-then-spent : goal.returns-then-spent
returns-then-spent c =
    let s = c.step-s in
    let g = c.late_gap-late in
    none-later c.loop-m.invariant.looked (omega arith) s.result s.ensures g.result g.ensures
    (rw c.from-u.ensures at (told c.spent.result c.spent.ensures c.if-spent.true))

pub returns-then-crosses : goal.returns-then-crosses
returns-then-crosses c =
    let s = c.step-s in
    let g = c.late_gap-late in
    turns-here c.loop-m.invariant.looked (omega arith) s.result s.ensures g.result g.ensures
    (rw c.from-u.ensures at (told c.crosses.result c.crosses.ensures c.if-crosses.true))

pub loop-m-preserved : goal.loop-m-preserved
loop-m-preserved c =
    let s = c.step-s in
    let g = c.late_gap-late in
    rw c.from-u.ensures
    (near-more c.loop-m.invariant.looked (omega arith) s.result s.ensures g.result g.ensures
    (rw c.from-u.ensures at (untold c.spent.result c.spent.ensures c.if-spent.false))
    (rw c.from-u.ensures at (untold c.crosses.result c.crosses.ensures c.if-crosses.false)))

pub returns : goal.returns
returns c = looked-last c.loop-m.invariant.looked (omega arith)
