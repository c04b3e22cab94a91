-- The sums add up: where some step can be overtaken, one can be overtaken by the step right after it.
use mathlib.Core.Path.{◌≡◌, refl}
use mathlib.Core.Logic.{◌↔◌, ⊎_elim}
use mathlib.Core.List.{List, [], ◌∷◌, ◌++◌}
use Prim.Native.Nat.{ℕ, ◌+◌, ◌<◌}
use native.Mathlib.Omega.{arith}
use lib.ListN.{length}
use Rattle.model.specs.Table.{Transition, Machine, Valid, at}
use Rattle.model.specs.Trace.{Trace, Reached, steps}
use Rattle.model.specs.Span.{span}
use Rattle.model.specs.Criterion.{Above, Ahead, WalkFrom}
use Rattle.model.specs.Verdict.{Overtakes, TableOvertakes, NextOvertakes}
use Rattle.model.proofs.CriterionLaws.{above-is, above-less, above-chain}
use Rattle.model.proofs.Pair.{overtakes-law}
use Rattle.model.proofs.Paths.{trace-append, trace-ranged}
use Rattle.model.proofs.Turn.{overtakes-walk-law}

-- a step that is above the one right before it, of which `First` holds
pub record NextAbove (ts : List Transition) (First : ℕ → Type 0) : Type 0 where
  pub k : ℕ
  pub next : ℕ
  pub first : First k
  pub known : next < length ts
  pub joined : (at ts next).from ≡ (at ts k).to
  pub above : Above (at ts k) (at ts next) (at ts next).u

-- of a chain of steps whose last is above the first, some step is above the one right before it
module _ {ts : List Transition} {First : ℕ → Type 0} (goes : (k next : ℕ) → First k → next < length ts → (at ts next).from ≡ (at ts k).to → First next) where
  pub next-above : (k : ℕ) → First k → (rest : List ℕ) (m e : ℕ) → Trace ts (at ts k).to (rest ++ (m ∷ [])) e
      → Above (at ts k) (at ts m) (span (steps ts (rest ++ (m ∷ [])))).u → NextAbove ts First
  unfolding steps
  next-above k f [] m e p a =
      record { k = k; next = m; first = f; known = p.0; joined = p.1; above = above-less (at ts k) (at ts m) _ (at ts m).u a (omega arith) }
  next-above k f (t ∷ l) m e p a =
      ⊎_elim (λ b. record { k = k; next = t; first = f; known = p.0; joined = p.1; above = b })
      (next-above t (goes k t f p.0 p.1) l m e p.2) (above-chain (at ts k) (at ts t) (at ts m) _ a)

-- one step after another
one-step : (ts : List Transition) (k next : ℕ) → Above (at ts k) (at ts next) (at ts next).u → Above (at ts k) (at ts next) (span (steps ts (next ∷ []))).u
unfolding steps
one-step ts k next a = above-less (at ts k) (at ts next) _ _ a (omega arith)

module _ (m : Machine) (v : Valid m) where
  open m use {transitions as ts, initial as start}

  module _ (k next : ℕ) (path : Trace ts (at ts k).from (k ∷ (next ∷ [])) (at ts next).to) where
    two_steps : Overtakes (steps ts (k ∷ (next ∷ []))) 0 1 ↔ Above (at ts k) (at ts next) (at ts next).u
    unfolding steps
    two_steps =
        let g : _ = trace-ranged ts v.ranged (at ts k).from (at ts next).to (k ∷ (next ∷ [])) path in (
          λ o. above-less (at ts k) (at ts next) _ (at ts next).u ((overtakes-law g 0 1).0 o).meets (omega arith),
          λ a.
              (overtakes-law g 0 1).1 (record { ordered = omega arith; inside = omega arith; meets = above-less (at ts k) (at ts next) _ _ a (omega arith) }),
        )

    -- on paper, in ticks
    pub next-in-ticks : Overtakes (steps ts (k ∷ (next ∷ []))) 0 1 ↔ ((at ts next).u + (at ts next).d < (at ts k).d)
    next-in-ticks =
        let i : _ = above-is (at ts k) (at ts next) (at ts next).u in
        (λ o. i.0 (two_steps.0 o), λ h. two_steps.1 (i.1 h))

  abbrev Leaves : ℕ → Type 0
  Leaves k = (k < length ts) × Reached ts start (at ts k).from

  leaves-on : (k next : ℕ) → Leaves k → next < length ts → (at ts next).from ≡ (at ts k).to → Leaves next
  leaves-on k next f h j =
      let r : Reached ts start (at ts k).from = f.1 in
      let p : _ = trace-append ts start (at ts k).from (at ts k).to r.way (k ∷ []) r.path (f.0, refl, refl) in
      (h, record { way = r.way ++ (k ∷ []); path = rw j p })

  -- a table is in order exactly if no transition that leaves a reachable state is overtaken by one that can come right after it
  pub next-law : TableOvertakes m ↔ NextOvertakes m
  next-law = (λ t. let w : _ = (overtakes-walk-law m v).0 t in to w.0 w.1, λ n. (overtakes-walk-law m v).1 (n.k, back n))
    where
      found : NextAbove ts Leaves → NextOvertakes m
      found n =
          let p : Trace ts (at ts n.k).from (n.k ∷ (n.next ∷ [])) (at ts n.next).to = (n.first.0, refl, (n.known, n.joined, refl)) in
          record { k = n.k; next = n.next; reached = n.first.1; path = p; overtakes = (two_steps n.k n.next p).1 n.above }

      to : (i : ℕ) → WalkFrom Ahead m i → NextOvertakes m
      to i w = found (next-above leaves-on i (w.known, w.reached) w.after.rest w.j w.after.end w.after.walk w.after.meets)

      back : (n : NextOvertakes m) → WalkFrom Ahead m n.k
      back n = record {
        reached = n.reached;
        known = n.path.0;
        j = n.next;
        after = record {
          rest = [];
          end = (at ts n.next).to;
          walk = n.path.2;
          meets = one-step ts n.k n.next ((two_steps n.k n.next n.path).0 n.overtakes);
        };
      }
