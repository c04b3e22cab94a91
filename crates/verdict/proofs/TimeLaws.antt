-- The latest times of the steps: how they are filled; and that what turns shows in the numbers.
use Rattle.std.specs.Prelude.{None}
use mathlib.Core.Path.{◌≡◌, ap, ◌∙◌}
use mathlib.Core.Logic.{dite}
use mathlib.Core.List.{List}
use Prim.Native.Nat.{ℕ, suc, ◌+◌, ◌*◌, ◌-◌, ◌%◌, ◌≤◌, ◌<◌}
use native.Mathlib.Omega.{arith}
use native.Mathlib.Decide.{ℕ_discrete}
use native.Mathlib.Numerals.{add-one}
use lib.ListN.{length, get_or, set, take, drop, length-set, length-take, length-drop, take-append-drop}
use lib.Seq.{get_or-set_same, get_or-set_other}
use Rattle.model.specs.Lists.{All, total, between}
use Rattle.model.specs.Table.{Transition, InRange, at, none}
use Rattle.model.specs.Shown.{late_gap}
use Rattle.model.specs.Span.{sum_u, sum_late}
use Rattle.model.specs.Criterion.{Criterion}
use Rattle.model.proofs.CriterionLaws.{above_from, below-from}
use Rattle.model.proofs.Lists.{total-append, total-between, all-at, all_take, all_drop}
use Rattle.table.specs.declared.Row.{Row}
use Rattle.table.specs.Rows.{row_of, said}
use Rattle.verdict.specs.declared.line.Line.{Line}
use Rattle.verdict.specs.Line.{along}
use Rattle.verdict.proofs.LineLaws.{fine, length-along, step-along}
use Rattle.verdict.specs.Pairs.{PartnerOf}
use Rattle.verdict.specs.Times.{number_of, Numbered, Latest}
use Rattle.verdict.specs.Calm.{standing, Calm}
use Rattle.verdict.specs.Marks.{Fits, Clear, mark_at}
use Rattle.verdict.proofs.PairLaws.{sum_more, sums-small}

-- the loop that fills them stands at step j
pub record Filling (p : Line) (late : List ℕ) (v j : ℕ) : Type 0 where
  pub within : j ≤ length p.trace.now
  pub high : v ≡ total late_gap (take j (along p))
  pub times : Latest (along p) late j

-- the code looks at step j, whose row is s
module _ {p : Line} {late : List ℕ} {v j : ℕ} (f : Filling p late v j) (here : j < length p.trace.now)
    (s : Row) (read : s ≡ row_of p.rows.now (get_or p.trace.now j 0)) (g : ℕ) (gap : g ≡ late_gap (said s)) where
  abbrev tr : List Transition
  tr = along p

  es : said s ≡ at tr j
  es = step-along p j here s read

  inside : j < length tr
  inside = rw (length-along p) here

  next-high : v + g ≡ total late_gap (take (suc j) tr)
  next-high = omega (arith, gap, ap late_gap es, f.high, sum_more late_gap tr j inside)

  pub next_small : (v + g ≤ 536739840) × (s.d ≤ 240)
  next_small =
      let r : InRange 32 (at tr j) = all-at none (fine p) j inside in
      omega (
        arith,
        next-high,
        sums-small (all_take (suc j) (fine p)) (omega (arith, length-take (suc j) tr, p.few)),
        ap (λ t. t.d) es,
        r.late,
      )

  pub filling-more : (w : ℕ) → w ≡ v + g + s.d * 256 → Filling p (set late j w) (v + g) (j + 1)
  filling-more w ew = record {
    within = omega arith;
    high = rw (add-one j) next-high;
    times = record {
      size = length-set late j w ∙ f.times.size;
      is = λ i h. dite (ℕ_discrete i j)
          (λ q. rw (q, get_or-set_same late j w 0 (omega (arith, f.times.size, p.few))) (omega (arith, ew, next-high, ap (λ t. t.d) es)))
          (λ d. rw (get_or-set_other late j i w 0 d) (f.times.is i (omega arith)));
    };
  }

-- what follows a step, by what follows a later one
total-after : (f : Transition → ℕ) (l : List Transition) (k m : ℕ) → k < m → total f (drop (suc k) l) ≡ total f (between k m l) + total f (drop (suc m) l)
total-after f l k m h =
    let whole : (i : ℕ) → total f l ≡ total f (take i l) + total f (drop i l) = λ i. rw (take-append-drop i l) at (total-append f (take i l) (drop i l)) in
    omega (arith, whole (suc k), whole (suc m), total-between f l k m h)

module _ {tr : List Transition} {early : List ℕ} {n : ℕ} (t : Numbered tr early 0) (fine : All (InRange n) tr) (few : length tr ≤ 512) where
  -- what meets the criterion shows in the numbers: this law alone ties the low byte to letters that differ
  pub turning-shows : {k m : ℕ} → Criterion tr k m
      → (get_or early m 0 < get_or early k 0 - get_or early k 0 % 256) × (get_or early m 0 % 256 ≡ get_or early k 0 % 256 → ⊥)
  turning-shows {k = k} {m = m} x =
      let i : k < length tr = omega (arith, x.ordered, x.inside) in
      let ek : get_or early k 0 ≡ number_of tr k = t.is k (omega arith) i in
      let em : get_or early m 0 ≡ number_of tr m = t.is m (omega arith) x.inside in
      let ok : (at tr k).output ≤ 255 = (all-at none fine k i).answers in
      let om : (at tr m).output ≤ 255 = (all-at none fine m x.inside).answers in (
        omega (
          arith,
          total-after (λ t. t.u) tr k m x.ordered,
          sums-small (all_drop (suc k) fine) (omega (arith, length-drop (suc k) tr)),
          above_from (at tr k) (at tr m) (sum_u tr k m) 0 x.meets.above,
        ),
        λ e. x.meets.differ (omega arith),
      )

  pub calm-alone : {k : ℕ} → Calm (standing early) (length tr) k → PartnerOf tr k None
  calm-alone c j x =
      let f = turning-shows x in
      omega (arith, f.0, c.none j x.ordered x.inside f.1)

  -- and in the latest times
  module _ {late : List ℕ} (v : Latest tr late (length tr)) where
    turning-fits : {k m : ℕ} → Criterion tr k m → Fits early late (mark_at early late k) m
    turning-fits {k = k} {m = m} x = record {
      before = (turning-shows x).0;
      after = omega (
        arith,
        v.is k (omega (arith, x.ordered, x.inside)),
        v.is m x.inside,
        total-between late_gap tr k m x.ordered,
        below-from (at tr k) (at tr m) (sum_late tr k m) (total late_gap (take (suc k) tr)) x.meets.below,
      );
      unlike = (turning-shows x).1;
    }

    pub clear-alone : {k : ℕ} → Clear early late (mark_at early late k) k (length tr) → PartnerOf tr k None
    clear-alone c j x = c.none j (omega (arith, x.ordered)) x.inside (turning-fits x)
