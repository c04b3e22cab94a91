-- The search for the least turning pair, over the steps of a trace.
use Rattle.std.specs.Prelude.{Some, None}
use mathlib.Core.Path.{◌≡◌, ap, ◌∙◌}
use mathlib.Core.Logic.{inl, inr, ⊎_elim, dite}
use mathlib.Core.List.{List, [], ◌∷◌}
use Prim.Native.Nat.{ℕ, suc, ◌+◌, ◌-◌, ◌≤◌, ◌<◌}
use native.Mathlib.Omega.{arith}
use native.Mathlib.Decide.{dec_lt}
use native.Mathlib.Nat.{eq-or-lt_of_le}
use lib.ListN.{length, get_or, take, drop, length-drop}
use lib.Seq.{take-suc, take-add, get_or-drop}
use Rattle.model.specs.Lists.{All, total, between}
use Rattle.model.specs.Table.{Transition, InRange, at, none}
use Rattle.model.specs.Shown.{late_gap}
use Rattle.model.specs.Span.{sum_u, sum_late}
use Rattle.model.specs.Criterion.{Crosses, Spent, Criterion}
use Rattle.model.proofs.CriterionLaws.{spent-none, unspent}
use Rattle.model.proofs.Words.{late-most}
use Rattle.model.proofs.Lists.{total-append, total-const, length-between, all-at, all-between, all-total}
use Rattle.table.specs.declared.Row.{Row}
use Rattle.table.specs.Rows.{row_of, said}
use Rattle.verdict.specs.declared.line.Line.{Line}
use Rattle.verdict.specs.Line.{along}
use Rattle.verdict.proofs.LineLaws.{fine, length-along, step-along}
use Rattle.verdict.specs.Pairs.{PartnerOf, PairOf, Passed}

-- the sum over the steps after k and before m
abbrev pub sofar : (Transition → ℕ) → List Transition → ℕ → ℕ → ℕ
sofar f tr k m = total f (take (m - suc k) (drop (suc k) tr))

-- one step more
pub sum_more : (f : Transition → ℕ) (l : List Transition) (p : ℕ) → p < length l → total f (take (suc p) l) ≡ total f (take p l) + f (at l p)
sum_more f l p h = rw (take-suc l p none h) (omega (arith, total-append f (take p l) (at l p ∷ [])))

pub sum-next : (f : Transition → ℕ) (tr : List Transition) (k m : ℕ) → k < m → m < length tr → sofar f tr k m + f (at tr m) ≡ total f (between k m tr)
sum-next f tr k m h i =
    let p : ℕ = m - suc k in
    let l : List Transition = drop (suc k) tr in
    let e : m - k ≡ suc p = omega arith in
    let g : at l p ≡ at tr m = get_or-drop (suc k) tr p none ∙ (let q : suc k + p ≡ m = omega arith in rw q) in
    rw e (omega (arith, sum_more f l p (omega (arith, length-drop (suc k) tr)), ap f g))

-- of at most 512 steps
pub sums-small : {n : ℕ} {l : List Transition} → All (InRange n) l → length l ≤ 512 → (total (λ t. t.u) l ≤ 2096640) × (total late_gap l ≤ 536739840)
sums-small {l = l} fine few = (
  omega (arith, total-const 4095 l, all-total (λ t. t.u) (λ t. 4095) (λ t x. omega (arith, x.wide, x.high)) fine),
  omega (arith, total-const 1048320 l, all-total late_gap (λ t. 1048320) late-most fine),
)

-- a sum grows with its last step
sum-grows : (f : Transition → ℕ) (tr : List Transition) (k m j : ℕ) → m ≤ j → total f (between k m tr) ≤ total f (between k j tr)
sum-grows f tr k m j h =
    let l : List Transition = drop (suc k) tr in
    let e : j - k ≡ (m - k) + (j - k - (m - k)) = omega arith in
    rw (e, take-add (m - k) (j - k - (m - k)) l) (omega (arith, total-append f (take (m - k) l) (take (j - k - (m - k)) (drop (m - k) l))))

-- the search from k, which is f, stands before step m: the sums over the steps between, none of which turns with k
pub record Looked (p : Line) (k : ℕ) (f : Transition) (m u late : ℕ) : Type 0 where
  pub first : f ≡ at (along p) k
  pub after : k < m
  pub within : m ≤ length p.trace.now
  pub low : u ≡ sofar (λ t. t.u) (along p) k m
  pub high : late ≡ sofar late_gap (along p) k m
  pub none_yet : (j : ℕ) → j < m → Criterion (along p) k j → ⊥

-- and m is near: with it the search looks at no more than 239 steps
pub record LookedNear (p : Line) (k : ℕ) (f : Transition) (m u late : ℕ) : Type 0 where
  pub looked : Looked p k f m u late
  pub near : m ≤ k + 239

module _ {p : Line} {k : ℕ} where
  pub looked-first : k < length p.trace.now → (s : Row) → s ≡ row_of p.rows.now (get_or p.trace.now k 0) → Looked p k (said s) (k + 1) 0 0
  looked-first h s e =
      let z : k + 1 - suc k ≡ 0 = omega arith in
      record {
        first = step-along p k h s e;
        after = omega arith;
        within = omega arith;
        low = rw z;
        high = rw z;
        none_yet = λ j b x. omega (arith, x.ordered);
      }

  pub near-first : k < length p.trace.now → (s : Row) → s ≡ row_of p.rows.now (get_or p.trace.now k 0) → LookedNear p k (said s) (k + 1) 0 0
  near-first h s e = record { looked = looked-first h s e; near = omega arith }

  pub looked-last : {f : Transition} {m u late : ℕ} → Looked p k f m u late → length p.trace.now ≤ m → PartnerOf (along p) k None
  looked-last seen h j x = seen.none_yet j (omega (arith, x.inside, length-along p)) x

-- the code looks at step m, whose row is s
module _ {p : Line} {k : ℕ} {f : Transition} {m u late : ℕ} (seen : Looked p k f m u late) (here : m < length p.trace.now)
    (s : Row) (read : s ≡ row_of p.rows.now (get_or p.trace.now m 0)) (g : ℕ) (gap : g ≡ late_gap (said s)) where
  abbrev tr : List Transition
  tr = along p

  es : said s ≡ at tr m
  es = step-along p m here s read

  inside : m < length tr
  inside = rw (length-along p) here

  next_low : u + s.u ≡ sum_u tr k m
  next_low = omega (arith, ap (λ t. t.u) es, seen.low, sum-next (λ t. t.u) tr k m seen.after inside)

  next-high : late + g ≡ sum_late tr k m
  next-high = omega (arith, gap, ap late_gap es, seen.high, sum-next late_gap tr k m seen.after inside)

  pub next_small : (u + s.u ≤ 2096640) × (late + g ≤ 536739840)
  next_small =
      let n : length (between k m tr) ≤ 512 = omega (arith, length-between k m tr inside, length-along p, p.few) in
      omega (arith, next_low, next-high, sums-small (all-between k m (fine p)) n)

  -- u is spent at m, and so from m on
  pub none-later : Spent f (u + s.u) → PartnerOf tr k None
  none-later h j x =
      dite (dec_lt j m) (λ a. seen.none_yet j a x) (λ b.
      spent-none (at tr k) (at tr j) (sum_u tr k m) (sum_u tr k j) (rw (seen.first, next_low) at h) (all-at none (fine p) j x.inside).soon
      (sum-grows (λ t. t.u) tr k m j (omega arith)) x.meets.above)

  -- what the code asks is the criterion
  asked : Crosses f (said s) (u + s.u) (late + g) ≡ Crosses (at tr k) (at tr m) (sum_u tr k m) (sum_late tr k m)
  asked = rw (seen.first, next_low, next-high, es)

  pub turns-here : Crosses f (said s) (u + s.u) (late + g) → PartnerOf tr k (Some m)
  turns-here b = (
    record { ordered = seen.after; inside = inside; meets = rw asked at b },
    λ j x. dite (dec_lt j m) (λ a. absurd (seen.none_yet j a x)) (λ b. omega arith),
  )

  pub looked-more : (Crosses f (said s) (u + s.u) (late + g) → ⊥) → Looked p k f (m + 1) (u + s.u) (late + g)
  looked-more no-turn =
      let e : m + 1 - suc k ≡ m - k = omega arith in
      record {
        first = seen.first;
        after = omega arith;
        within = omega arith;
        low = rw e next_low;
        high = rw e next-high;
        none_yet = λ j h x. ⊎_elim
            (λ (q : j ≡ m). no-turn (rw asked (rw q at x.meets)))
            (λ (a : j < m). seen.none_yet j a x)
            (eq-or-lt_of_le (omega arith));
      }

  -- each u is at least 1 and d at most 240: no more than 238 steps are passed
  next-near : (Spent f (u + s.u) → ⊥) → m - k ≤ 238
  next-near h =
      let b : List Transition = between k m tr in
      let ones : total (λ t. 1) b ≤ sum_u tr k m = all-total (λ t. 1) (λ t. t.u) (λ t x. x.low) (all-between k m (fine p)) in
      let late : (at tr k).d ≤ 240 = (all-at none (fine p) k (omega (arith, inside, seen.after))).late in
      let h' : Spent (at tr k) (sum_u tr k m) → ⊥ = rw (seen.first, next_low) at h in
      omega (arith, total-const 1 b, length-between k m tr inside, unspent (at tr k) (sum_u tr k m) 240 h' late)

  pub near-more : (Spent f (u + s.u) → ⊥) → (Crosses f (said s) (u + s.u) (late + g) → ⊥)
      → LookedNear p k f (m + 1) (u + s.u) (late + g)
  near-more below no-turn = record { looked = looked-more no-turn; near = omega (arith, next-near below) }

-- the search over k stands at k
pub passed-by : (tr : List Transition) (k : ℕ) → ((i : ℕ) → i < k → PartnerOf tr i None) → Passed tr k
unfolding Passed
passed-by _ k a i j h c = a i h j c

module _ {tr : List Transition} {k : ℕ} (p : Passed tr k) where
  pub passed-more : PartnerOf tr k None → Passed tr (k + 1)
  unfolding Passed
  passed-more a i j h c = ⊎_elim (λ (e : i ≡ k). a j (rw e at c)) (λ (l : i < k). p i j l c) (eq-or-lt_of_le (omega arith))

  pub passed-all : length tr ≤ k → PairOf tr None
  unfolding Passed
  passed-all h i j c = p i j (omega (arith, c.ordered, c.inside)) c

  pub least-here : (m : ℕ) → PartnerOf tr k (Some m) → PairOf tr (Some (k, m))
  unfolding Passed
  least-here m w = record {
    pair = w.0;
    least = λ i j c. dite (dec_lt i k) (λ l. absurd (p i j l c)) (λ n.
        ⊎_elim (λ (e : k ≡ i). inr (e, w.1 j (rw e c))) inl (eq-or-lt_of_le (omega arith)));
  }
