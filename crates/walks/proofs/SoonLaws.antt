-- Laws of the ends that are due soonest.
use mathlib.Core.Path.{◌≡◌, refl, sym, ◌∙◌}
use mathlib.Core.Logic.{by_cases}
use mathlib.Core.List.{List}
use Prim.Native.Nat.{ℕ, ◌+◌, ◌-◌, ◌≤◌, ◌<◌}
use native.Mathlib.Omega.{arith}
use native.Mathlib.Decide.{dec_lt, ℕ_discrete}
use borrow.Author.Count.{below_more}
use Rattle.model.specs.Table.{Transition, at}
use Rattle.model.specs.Order.{Differ}
use Rattle.model.specs.Criterion.{slack}
use Rattle.model.proofs.CriterionLaws.{slack-under}
use Rattle.table.specs.declared.Row.{Row}
use Rattle.table.specs.Rows.{said}
use Rattle.criterion.specs.declared.Goal.{Goal}
use Rattle.criterion.specs.declared.Goal.TheVariants.{Turns, Overtakes}
use Rattle.criterion.specs.Goals.{Possible}
use Rattle.walks.specs.declared.soon.Soonest.{Soonest}
use Rattle.walks.specs.Walks.{Seen}
use Rattle.walks.specs.Soon.{Bounds, Sooner, Soon, Asks, RowsFor}

-- what can't be told apart is of one letter
like : (s t : Transition) → (Differ s t → ⊥) → s.output ≡ t.output
like s t n = by_cases (ℕ_discrete s.output t.output) (λ e. e) (λ d. absurd (n d))

-- the five ways of one more end: m, with its own u and d
module _ (s : Soonest) (m : Row) where
  abbrev own : ℕ
  own = m.u + m.d

  abbrev made : ℕ → Row → ℕ → Soonest
  made f e r = record { first = f; end = e; second = r }

  pub sooner-unlike : own < s.first → Sooner s (said m) (made own m s.first)
  sooner-unlike h = record {
    here = record { first = omega arith; second = λ d. absurd (d refl) };
    still = λ t b. record { first = omega (arith, b.first); second = λ d. b.first };
    above = λ x a b c. (omega arith, omega arith);
  }

  pub sooner-like : own < s.first → (Differ (said m) (said s.end) → ⊥) → Sooner s (said m) (made own m s.second)
  sooner-like h n = record {
    here = record { first = omega arith; second = λ d. absurd (d refl) };
    still = λ t b. record { first = omega (arith, b.first); second = λ d. b.second (λ e. d (e ∙ sym (like (said m) (said s.end) n))) };
    above = λ x a b c. (omega arith, omega arith);
  }

  pub same-like : s.first ≤ own → (Differ (said m) (said s.end) → ⊥) → Sooner s (said m) s
  same-like h n = record { here = record { first = h; second = λ d. absurd (n d) }; still = λ t b. b; above = λ x a b c. (a, b) }

  pub second-less : s.first ≤ own → own < s.second → Sooner s (said m) (made s.first s.end own)
  second-less h l = record {
    here = record { first = h; second = λ d. omega arith };
    still = λ t b. record { first = b.first; second = λ d. omega (arith, b.second d) };
    above = λ x a b c. (a, omega arith);
  }

  pub same_more : s.first ≤ own → s.second ≤ own → Sooner s (said m) s
  same_more h l = record { here = record { first = h; second = λ d. l }; still = λ t b. b; above = λ x a b c. (a, b) }

-- the pass over the table
module _ {ts : List Transition} where
  pub soon-none : {e : Row} → Soon ts 0 (record { first = 240; end = e; second = 240 })
  soon-none = record { bounds = λ m h. absurd (omega arith); low = (omega arith, omega arith) }

  pub soon-more : {i : ℕ} {s r : Soonest} {m : Transition} → Seen ts i m → Soon ts i s → Sooner s m r → Soon ts (i + 1) r
  soon-more {i} {s} {r} z b o = record {
    bounds = below_more (λ j. Bounds r (at ts j)) i (λ j h. o.still (at ts j) (b.bounds j h)) (rw z.here o.here);
    low = o.above 2 b.low.0 b.low.1 (omega (arith, z.fine.low, z.fine.soon));
  }

-- what is asked after k
module _ (k : Row) (s : Soonest) where
  pub asks-unlike : Asks Turns (said k) s s.first
  asks-unlike = record { least = λ t b p. b.first; above = λ x a b. a }

  pub asks-like : (Differ (said k) (said s.end) → ⊥) → Asks Turns (said k) s s.second
  asks-like n = record {
    least = λ t b p. b.second (λ e. p.told (like (said k) (said s.end) n ∙ sym e));
    above = λ x a b. b;
  }

  pub asks-every : Asks Overtakes (said k) s s.first
  asks-every = record { least = λ t b p. b.first; above = λ x a b. a }

  module _ {goal : Goal} {least : ℕ} (q : Asks goal (said k) s least) where
    pub rows-after : {r : ℕ} → r ≡ k.d - least → RowsFor goal (said k) s r
    rows-after e = record {
      covers = λ t b p. slack-under (said k) t _ p.above (omega (arith, q.least t b p, e));
      most = λ x a b c. omega (arith, q.above x a b, e);
    }

-- the rows that a transition of the table asks for
module _ {goal : Goal} {ts : List Transition} {i n r : ℕ} {first : Transition} {s : Soonest} (z : Seen ts i first) (b : Soon ts n s)
    (w : RowsFor goal first s r) where
  pub rows-most : r ≤ 238
  rows-most = by_cases (dec_lt 1 first.d) (λ h. omega (arith, w.most 2 b.low.0 b.low.1 (omega arith), z.fine.late))
      (λ h. omega (arith, w.most 1 (omega (arith, b.low)) (omega (arith, b.low)) (omega (arith, z.fine.soon))))

  pub rows-cover : (m : ℕ) → m < n → Possible goal (at ts i) (at ts m) → slack (at ts i) (at ts m) < r
  rows-cover m h c = rw z.here (w.covers (at ts m) (b.bounds m h) (rw z.here at c))
