-- What is not named follows from the arithmetic around it.
use native.Mathlib.Omega.{arith}
use mathlib.Core.Path.{◌≡◌, sym, ap, ◌∙◌}
use mathlib.Core.Logic.{inl}
use Prim.Native.Nat.{ℕ, ◌≤◌}
use lib.ListN.{length, get_or, get_or-eq_default}
use Rattle.table.specs.Seen.{place_of, mark_at}
use Rattle.table.proofs.SeenLaws.{noted-nowhere, suspect-other, suspect-own, suspect-full, noted-first, noted-again}
use Rattle.table.proofs.seen.mark.Goals as goal
use Rattle.table.proofs.seen.mark.Goals.{After-slice_known-2-1}

pub returns-then-seen-k : goal.returns-then-seen-k
returns-then-seen-k c =
    let a = c.args in
    let h : length a.seen.now ≤ place_of (length a.seen.now) a.key = omega (arith, c.place-k.ensures) in
    let z = get_or-eq_default a.seen.now 0 h in
    (sym (suspect-other a.seen.now a.key (λ q. omega (arith, z)) (λ q. omega (arith, z))), noted-nowhere a.seen.now a.key h)

-- what stands at the place that was found
stands : (p : After-slice_known-2-1) → let a = p.args in get_or a.seen.now p.place-k.result 0 ≡ mark_at a.seen.now a.key
stands p = ap (λ (k : ℕ). get_or p.args.seen.now k 0) p.place-k.ensures

pub returns-then-x-eq0 : goal.returns-then-x-eq0
returns-then-x-eq0 c =
    let a = c.args in
    let z = sym (stands (goal.at.returns-then-x-eq0 c).After-slice_known-2-1) ∙ c.if-x-eq0.true in (
      sym (suspect-other a.seen.now a.key (λ q. omega (arith, z)) (λ q. omega (arith, z))),
      rw c.place-k.ensures (noted-first a.seen.now a.key z),
    )

pub returns-then-x-m : goal.returns-then-x-m
returns-then-x-m c =
    let a = c.args in (
      sym (suspect-own a.seen.now a.key (inl (sym (stands (goal.at.returns-then-x-m c).After-slice_known-2-1) ∙ c.if-x-m.true))),
      rw c.place-k.ensures (noted-again a.seen.now a.key (λ z. c.if-x-eq0.false (stands (goal.at.returns-then-x-m c).After-slice_known-2-1 ∙ z))),
    )

pub returns : goal.returns
returns c =
    let a = c.args in (
      rw (stands (goal.at.returns c).After-slice_known-2-1) (sym (suspect-full a.seen.now a.key (λ z. c.if-x-m.false (stands (goal.at.returns c).After-slice_known-2-1 ∙ z)))),
      rw c.place-k.ensures (noted-again a.seen.now a.key (λ z. c.if-x-eq0.false (stands (goal.at.returns c).After-slice_known-2-1 ∙ z))),
    )
