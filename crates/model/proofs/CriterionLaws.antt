-- The two halves of the criterion: what the searches cite. Besides this file only the theorems on pairs and on the shown words open them,
-- and crate `criterion`, which has them on rows.
use mathlib.Core.Path.{◌≡◌}
use mathlib.Core.List.{List}
use mathlib.Core.Logic.{◌⊎◌, inl, inr, ◌↔◌, by_cases}
use Prim.Native.Nat.{ℕ, ◌+◌, ◌*◌, ◌≤◌, ◌<◌}
use native.Mathlib.Omega.{arith}
use native.Mathlib.Decide.{dec_lt}
use lib.ListN.{length}
use Rattle.model.specs.Lists.{between}
use Rattle.model.specs.Table.{Transition, InRange, at}
use Rattle.model.specs.Order.{Differ}
use Rattle.model.specs.Shown.{late_gap}
use Rattle.model.specs.Span.{span, late_sum, sum_u, sum_v}
use Rattle.model.specs.Criterion.{Above, Below, Crosses, Spent, slack, Goal, Ahead, Criterion}
use Rattle.model.proofs.Lists.{total-scale}

-- late gaps are whole ticks
pub sum-late : (l : List Transition) → late_sum l ≡ (span l).v * 256
unfolding late_gap
sum-late l = total-scale (λ t. t.v) 256 l

-- in ticks
pub above-is : (k m : Transition) (u : ℕ) → Above k m u ↔ (u + m.d < k.d)
unfolding Above
above-is k m u = (λ h. h, λ h. h)

pub below-is : (k m : Transition) (v : ℕ) → Below k m (v * 256) ↔ (k.d ≤ v + m.d)
unfolding Below
below-is k m v = (λ h. omega arith, λ h. omega arith)

-- the criterion of a pair of steps k < m in ticks: U < D ≤ V, and their output letters differ
pub record InTicks (tr : List Transition) (k m : ℕ) : Type 0 where
  pub ordered : k < m
  pub inside : m < length tr
  pub differ : Differ (at tr k) (at tr m)
  pub above : sum_u tr k m + (at tr m).d < (at tr k).d
  pub below : (at tr k).d ≤ sum_v tr k m + (at tr m).d

pub criterion-is : (tr : List Transition) (k m : ℕ) → Criterion tr k m ↔ InTicks tr k m
criterion-is tr k m = (
  λ c. record {
    ordered = c.ordered;
    inside = c.inside;
    differ = c.meets.differ;
    above = (above-is (at tr k) (at tr m) (sum_u tr k m)).0 c.meets.above;
    below = (below-is (at tr k) (at tr m) (sum_v tr k m)).0 (rw (sum-late (between k m tr)) at c.meets.below);
  },
  λ c. record {
    ordered = c.ordered;
    inside = c.inside;
    meets = record {
      differ = c.differ;
      above = (above-is (at tr k) (at tr m) (sum_u tr k m)).1 c.above;
      below = rw (sum-late (between k m tr)) ((below-is (at tr k) (at tr m) (sum_v tr k m)).1 c.below);
    };
  },
)

module _ (k m : Transition) where
  -- with less u it only gets easier, with more late time too
  pub above-less : (u x : ℕ) → Above k m u → x ≤ u → Above k m x
  unfolding Above
  above-less u x h l = omega arith

  pub below_more : (late more : ℕ) → Below k m late → late ≤ more → Below k m more
  unfolding Below
  below_more late more h l = omega arith

  -- counted from one start: the sums up to k are x and y
  pub above_from : (u x : ℕ) → Above k m u → x + u + m.d < x + k.d
  unfolding Above
  above_from u x h = omega arith

  pub below-from : (late y : ℕ) → Below k m late → y + k.d * 256 ≤ y + late + m.d * 256
  unfolding Below
  below-from late y h = omega arith

  -- a bound on u, where m's delay is at least one number and k's at most another
  pub above-bound : (u least top : ℕ) → Above k m u → least ≤ m.d → k.d ≤ top → u + least < top
  unfolding Above
  above-bound u least top h l t = omega arith

  -- a bound that is reached stays
  pub spent-none : (u x : ℕ) → Spent k u → 1 ≤ m.d → u ≤ x → Above k m x → ⊥
  unfolding Above Spent
  spent-none u x s l h a = omega arith

  -- the greatest u before m
  pub slack-fits : Above k m m.u → Above k m (slack k m + m.u)
  unfolding Above slack
  slack-fits h = omega arith

  pub slack-most : (a : ℕ) → Above k m (a + m.u) → a ≤ slack k m
  unfolding Above slack
  slack-most a h = omega arith

  -- what is above is sooner than k's delay, by more than its slack
  pub slack-none : Above k m m.u → k.d ≤ m.u + m.d → ⊥
  unfolding Above
  slack-none h l = omega arith

  pub slack-under : (n : ℕ) → Above k m m.u → k.d ≤ n + (m.u + m.d) → slack k m < n
  unfolding Above slack
  slack-under n h l = omega arith

  -- and a bound on it, whether m is above or not
  pub slack-small : {a b : ℕ} → InRange a k → InRange b m → slack k m ≤ 237
  unfolding slack
  slack-small first last = omega (arith, first.late, last.soon, last.low)

-- a bound on u while it is not reached
pub unspent : (k : Transition) (u top : ℕ) → (Spent k u → ⊥) → k.d ≤ top → u + 1 < top
unfolding Spent
unspent k u top n h = by_cases (dec_lt (u + 1) k.d) (λ l. omega arith) (λ m. absurd (n (omega arith)))

-- a step t between two others: if m is above k, then t is above k or m above t
pub above-chain : (k t m : Transition) (u : ℕ) → Above k m (t.u + u) → Above k t t.u ⊎ Above t m u
unfolding Above
above-chain k t m u h = by_cases (dec_lt (t.u + t.d) k.d) inl (λ n. inr (omega arith))

-- what a search may count on: what meets the goal is above, and meets it with every sum of u with which it is above, and with more late time
pub record Sought (goal : Goal) : Type 0 where
  pub above : (k m : Transition) (u late : ℕ) → goal k m u late → Above k m u
  pub moves : (k m : Transition) (u late x more : ℕ) → goal k m u late → Above k m x → late ≤ more → goal k m x more

pub crosses-sought : Sought Crosses
crosses-sought = record {
  above = λ k m u late c. c.above;
  moves = λ k m u late x more c a l. record { differ = c.differ; above = a; below = below_more k m late more c.below l };
}

pub ahead-sought : Sought Ahead
ahead-sought = record { above = λ k m u late a. a; moves = λ k m u late x more c a l. a }
