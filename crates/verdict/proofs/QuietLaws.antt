-- Where no step can be overtaken by the next one, none can be overtaken.
use Rattle.std.specs.Prelude.{None}
use mathlib.Core.Path.{◌≡◌, ap}
use mathlib.Core.Logic.{dite}
use mathlib.Core.List.{List}
use Prim.Native.Nat.{ℕ, zero, suc, ◌+◌, ◌-◌, ◌≤◌, ◌<◌}
use native.Mathlib.Omega.{arith}
use native.Mathlib.Decide.{dec_lt}
use lib.ListN.{length, get_or, take, drop}
use Rattle.model.specs.Lists.{total}
use Rattle.model.specs.Table.{Transition, at}
use Rattle.model.specs.Span.{sum_u}
use Rattle.model.specs.Criterion.{Above}
use Rattle.table.specs.declared.Row.{Row}
use Rattle.table.specs.Rows.{row_of, said}
use Rattle.verdict.specs.declared.line.Line.{Line}
use Rattle.verdict.specs.Line.{along}
use Rattle.verdict.proofs.LineLaws.{step-along}
use Rattle.verdict.specs.Pairs.{PairOf, Overtaken, Quiet}
use Rattle.verdict.proofs.PairLaws.{sofar, sum-next}

module _ (tr : List Transition) (q : Quiet tr (length tr)) where
  -- by adding up, from k on
  none_over : (k m : ℕ) → k < m → m < length tr → Above (at tr k) (at tr m) (sum_u tr k m) → ⊥
  unfolding Above Quiet
  none_over k zero h n x = omega arith
  none_over k (suc i) h n x =
      let s = sum-next (λ t. t.u) tr k (suc i) h n in
      dite (dec_lt k i)
      (λ l.
      let e : i - k ≡ suc i - suc k = omega arith in
      let f : sum_u tr k i ≡ sofar (λ t. t.u) tr k (suc i) = ap (λ (p : ℕ). total (λ (t : Transition). t.u) (take p (drop (suc k) tr))) e in
      omega (arith, s, f, none_over k i l (omega arith), q i n, x))
      (λ d. let e : k ≡ i = omega arith in omega (arith, s, ap (λ (p : ℕ). (at tr p).d) e, q i n, x))

  pub quiet_none : PairOf tr None
  quiet_none k m x = none_over k m x.ordered x.inside x.meets.above

-- the test stands before step i, the one before it being `before`
pub record Testing (p : Line) (before : Row) (i : ℕ) : Type 0 where
  pub some : 1 ≤ i
  pub held : before ≡ row_of p.rows.now (get_or p.trace.now (i - 1) 0)
  pub quiet : Quiet (along p) i

module _ {p : Line} where
  pub testing-first : (s : Row) → s ≡ row_of p.rows.now (get_or p.trace.now 0 0) → Testing p s 1
  unfolding Quiet
  testing-first s e = record { some = omega arith; held = e; quiet = λ j h. absurd (omega arith) }

  module _ {before : Row} {i : ℕ} (t : Testing p before i) where
    module _ (here : i < length p.trace.now) (s : Row) (read : s ≡ row_of p.rows.now (get_or p.trace.now i 0)) where
      -- what the code asks
      asked : Above (said before) (said s) s.u ≡ Overtaken (along p) (i - 1)
      asked =
          let z : suc (i - 1) ≡ i = omega (arith, t.some) in
          let a : said before ≡ at (along p) (i - 1) = step-along p (i - 1) (omega arith) before t.held in
          let b : said s ≡ at (along p) i = step-along p i here s read in
          let w : s.u ≡ (at (along p) i).u = ap (λ t. t.u) b in
          rw (z, a, b, w)

      pub testing-over : Above (said before) (said s) s.u → Quiet (along p) (length p.trace.now) → ⊥
      unfolding Quiet
      testing-over x q = q (i - 1) (omega (arith, t.some)) (rw asked at x)

      pub testing-more : (Above (said before) (said s) s.u → ⊥) → Testing p s (i + 1)
      unfolding Quiet
      testing-more x =
          let z : i + 1 - 1 ≡ i = omega arith in
          let y : Overtaken (along p) (i - 1) → ⊥ = rw asked at x in
          record {
            some = omega arith;
            held = rw z read;
            quiet = λ j h. dite (dec_lt (suc j) i) (λ b. t.quiet j b) (λ d. let e : j ≡ i - 1 = omega arith in rw e y);
          }

    pub testing-last : length p.trace.now ≤ i → Quiet (along p) (length p.trace.now)
    unfolding Quiet
    testing-last h j b = t.quiet j (omega arith)
