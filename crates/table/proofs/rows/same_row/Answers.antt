use native.Mathlib.Omega.{arith}
use mathlib.Core.Path.{◌≡◌, sym, ap}
use mathlib.Core.Bool.{true}
use Rattle.std.proofs.lemmas.Bool.{false_from_ne_true}
use Rattle.table.specs.Check.{same}
use Rattle.table.specs.Rows.{said}
use Rattle.table.proofs.RangeLaws.{same_not, same_true, alike}
use Rattle.table.proofs.rows.same_row.Goals as goal

pub returns-then-r-s : goal.returns-then-r-s
returns-then-r-s c = same_not (λ t. t.from) _ _ c.if-r-s.true

-- equal rows have equal numbers, and so equal sums
pub returns-then-packed : goal.returns-then-packed
returns-then-packed c = sym (false_from_ne_true _ (λ e. c.if-packed.true (equal e)))
  where
    equal : same (said c.args.r.now) (said c.args.s.now) ≡ true → c.packed.result ≡ c.packed-2.result
    equal e =
        let q = (same_true _ _).0 e in
        omega (arith, ap (λ t. t.to) q, ap (λ t. t.u) q, ap (λ t. t.v) q, ap (λ t. t.d) q, c.packed.ensures.sum, c.packed-2.ensures.sum)

pub returns-then-r-s-2 : goal.returns-then-r-s-2
returns-then-r-s-2 c = same_not (λ t. t.input) _ _ c.if-r-s-2.true

pub returns-then-r-s-3 : goal.returns-then-r-s-3
returns-then-r-s-3 c = same_not (λ t. t.output) _ _ c.if-r-s-3.true

pub returns : goal.returns
returns c =
    let r = c.args.r.now in
    let s = c.args.s.now in
    let h = c.packed.ensures.parts in
    let k = c.packed-2.ensures.parts in
    let to : r.to ≡ s.to = omega (arith, c.if-packed.false, h.0, k.0) in
    let u : r.u ≡ s.u = omega (arith, c.if-packed.false, h.1, k.1) in
    let v : r.v ≡ s.v = omega (arith, c.if-packed.false, h.2, k.2) in
    let d : r.d ≡ s.d = omega (arith, c.if-packed.false, h.3, k.3) in
    sym ((same_true _ _).1 (alike _ _ c.if-r-s.false c.if-r-s-2.false c.if-r-s-3.false to u v d))
