-- What is not named follows from the arithmetic around it.
use native.Mathlib.Omega.{arith}
use mathlib.Core.Path.{ap, ◌∙◌}
use Rattle.model.proofs.CriterionLaws.{slack-small}
use Rattle.walks.specs.Best.{asked}
use Rattle.walks.proofs.WalkLaws.{seen}
use Rattle.walks.proofs.EndLaws.{end-in, number-there}
use Rattle.walks.proofs.BackLaws.{end-sum, enough-here}
use Rattle.walks.proofs.walk.end_sum.Goals as goal

pub offset_bounds-fit-m : goal.offset_bounds-fit-m
offset_bounds-fit-m c = omega (arith, end-in c.args.goal c.args.fit c.requires.2, c.args.fit.few)

pub bounds-fit-m : goal.bounds-fit-m
bounds-fit-m c = end-in c.args.goal c.args.fit c.requires.2

pub number-requires : goal.number-requires
number-requires c =
    let a = c.args in
    let r = c.requires in
    number-there a.goal a.k r.1 a.m (seen a.fit a.k r.0) (seen a.fit a.m (end-in a.goal a.fit r.2)) c.most_before-top.ensures

pub least_row-requires : goal.least_row-requires
least_row-requires c =
    let a = c.args in
    let r = c.requires in
    let f = seen a.fit a.k r.0 in
    let l = seen a.fit a.m (end-in a.goal a.fit r.2) in
    let t = number-there a.goal a.k r.1 a.m f l c.most_before-top.ensures in
    let e = enough-here a.goal r.1 r.2 f l c.most_before-top.ensures c.number.ensures in
    (t.0, t.1, t.2, omega (arith, c.enough_for-enough.ensures, e))

pub overflow_add-result : goal.overflow_add-result
overflow_add-result c =
    let a = c.args in
    let l = seen a.fit a.m (end-in a.goal a.fit c.requires.2) in
    let o = slack-small _ _ (seen a.fit a.k c.requires.0).fine l.fine in
    omega (arith, c.most_before-top.ensures, c.least_row.ensures.within, l.fine.low)

pub returns : goal.returns
returns c =
    let a = c.args in
    let r = c.requires in
    let q = c.enough_for-enough.ensures ∙ ap (asked a.goal) c.number.ensures in
    rw c.from.ensures (end-sum a.goal r.1 r.2 (seen a.fit a.k r.0) (seen a.fit a.m (end-in a.goal a.fit r.2)) c.most_before-top.ensures
    (rw q at c.least_row.ensures))
