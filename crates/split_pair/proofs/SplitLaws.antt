-- Laws of the search for the first split pair.
use mathlib.Core.Path.{◌≡◌, refl}
use mathlib.Core.Logic.{◌↔◌}
use mathlib.Core.List.{List}
use Prim.Native.Nat.{ℕ, ◌≤◌, ◌<◌}
use Rattle.model.specs.Table.{Transition, at}
use Rattle.model.specs.Verdict.{SplitPair}
use Rattle.model.proofs.Lists.{least-only}
use Rattle.table.specs.declared.Row.{Row}
use Rattle.table.specs.Rows.{rows}
use Rattle.reach.specs.Reach.{MarksReached}
use Rattle.std.specs.Prelude.{Option, Some, None}
use Rattle.split_pair.specs.Split.{MarkedPair, SplitOutcome, SplitFound}

-- no pair begins with a number below i
abbrev pub Clear : List Transition → List ℕ → ℕ → Type 0
Clear ts dist i = (x : ℕ) → x < i → (y : ℕ) → MarkedPair ts dist x y → ⊥

module _ (ts : List Transition) (dist : List ℕ) where
  -- where the marks tell of reachable states, a pair by the marks is a split pair
  marked-split : (states initial : ℕ) → MarksReached ts initial dist → (i j : ℕ)
      → MarkedPair ts dist i j ↔ SplitPair (record { states = states; initial = initial; transitions = ts }) i j
  marked-split states initial tells i j = (
    λ p. record {
      reached = (tells (at ts i).from).0 p.marked;
      ordered = p.ordered;
      inside = p.inside;
      together = p.forks.together;
      alike = p.forks.alike;
      overlap = p.forks.overlap;
    },
    λ p. record {
      marked = (tells (at ts i).from).1 p.reached;
      ordered = p.ordered;
      inside = p.inside;
      forks = record { together = p.together; alike = p.alike; overlap = p.overlap };
    },
  )

-- two outcomes are equal
pub first-split-only : (cells : List Row) (count : ℕ) (dist : List ℕ) (r s : Option (ℕ × ℕ)) → SplitOutcome cells count dist r → SplitOutcome cells count dist s → r ≡ s
first-split-only cells count dist (Some (i, j)) (Some (x, y)) p q = let e : (i ≡ x) × (j ≡ y) = least-only p.1 q.1 in rw (e.0, e.1)
first-split-only cells count dist (Some (i, j)) None p q = absurd (q p.0 i j p.1.pair)
first-split-only cells count dist None (Some (x, y)) p q = absurd (p q.0 x y q.1.pair)
first-split-only cells count dist None None p q = refl

-- what is answered holds of every machine with these transitions whose reachable states the marks tell
pub split-found : (cells : List Row) (count : ℕ) (dist : List ℕ) (r : Option (ℕ × ℕ)) → SplitOutcome cells count dist r → count ≤ 256
    → (states initial : ℕ) → MarksReached (rows cells count) initial dist
    → SplitFound (record { states = states; initial = initial; transitions = rows cells count }) r
split-found cells count dist (Some (i, j)) p few states initial tells =
    let law : _ = marked-split (rows cells count) dist states initial tells in
    record { pair = (law i j).0 p.1.pair; least = λ x y q. p.1.least x y ((law x y).1 q) }
split-found cells count dist None p few states initial tells =
    λ i j q. p few i j ((marked-split (rows cells count) dist states initial tells i j).1 q)
