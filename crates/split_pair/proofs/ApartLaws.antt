-- Laws of the places: which are taken, and that transitions with places of their own do not fork.
use mathlib.Core.Path.{◌≡◌, refl, sym, ap, ◌∙◌}
use mathlib.Core.Bool.{Bool, true, false}
use mathlib.Core.Logic.{⊎_elim, dite}
use mathlib.Core.List.{List}
use Prim.Native.Nat.{ℕ, ◌+◌, ◌<◌}
use native.Mathlib.Decide.{ℕ_discrete}
use native.Mathlib.Nat.{eq-or-lt_of_le}
use native.Mathlib.Omega.{arith}
use lib.ListN.{length, get_or, set, replicate, length-set, get_or-replicate}
use Rattle.std.proofs.lemmas.Bool.{both_ways}
use lib.Seq.{get_or-set_same, get_or-set_other}
use Rattle.table.specs.declared.Row.{Row}
use Rattle.model.specs.Table.{at}
use Rattle.model.specs.Verdict.{SplitPair}
use Rattle.table.specs.Rows.{rows}
use Rattle.table.proofs.RowLaws.{length-rows}
use Rattle.split_pair.specs.Split.{Apart, MarkedPair}

-- the first i of the places f are taken, those alone, and each is another
pub record Taken (f : ℕ → ℕ) (i : ℕ) (l : List Bool) : Type 0 where
  pub size : length l ≡ 256
  pub each : (x : ℕ) → x < i → get_or l (f x) false ≡ true
  pub alone : (k : ℕ) → k < 256 → get_or l k false ≡ true → (x : ℕ) × (x < i) × (f x ≡ k)
  pub apart : (x y : ℕ) → x < y → y < i → f x ≡ f y → ⊥

module _ (f : ℕ → ℕ) where
  pub taken_none : Taken f 0 (replicate 256 false)
  taken_none = record {
    size = refl;
    each = λ x h. absurd (omega arith);
    alone = λ k h e. absurd (both_ways _ (get_or-replicate 256 k false false h) e);
    apart = λ x y h g. absurd (omega arith);
  }

  module _ (i : ℕ) (l : List Bool) (t : Taken f i l) (k : ℕ) (place : k ≡ f i) (inside : k < 256) where
    -- a place that was taken: two transitions have it
    pub taken_twice : get_or l k false ≡ true → (n : ℕ) → i < n → ((x y : ℕ) → x < y → y < n → f x ≡ f y → ⊥) → ⊥
    taken_twice e n h apart = let w = t.alone k inside e in apart w.0 i w.1 h (w.2 ∙ place)

    pub taken_more : get_or l k false ≡ false → Taken f (i + 1) (set l k true)
    taken_more e = record {
      size = length-set l k true ∙ t.size;
      each = λ x h. dite (ℕ_discrete (f x) k) (λ (q : f x ≡ k). rw q here)
          (λ n. get_or-set_other l k (f x) true false n
          ∙ ⊎_elim (λ (q : x ≡ i). absurd (n (ap f q ∙ sym place))) (λ (g : x < i). t.each x g) (eq-or-lt_of_le (omega arith)));
      alone = λ p b g. dite (ℕ_discrete p k) (λ (q : p ≡ k). (i, omega arith, sym (q ∙ place)))
          (λ n. let w = t.alone p b (sym (get_or-set_other l k p true false n) ∙ g) in (w.0, omega (arith, w.1), w.2));
      apart = λ x y h g. ⊎_elim
          (λ (q : y ≡ i). λ s. both_ways _ (ap (λ (p : ℕ). get_or l p false) (s ∙ ap f q ∙ sym place) ∙ e) (t.each x (omega arith)))
          (λ (b : y < i). t.apart x y h b) (eq-or-lt_of_le (omega arith));
    }
      where
        here : get_or (set l k true) k false ≡ true
        here = get_or-set_same l k true false (omega (arith, t.size))

-- transitions with places of their own: none is a split pair with another
module _ {c : List Row} {n : ℕ} (a : Apart c n) where
  forks-not : (i j : ℕ) → i < j → j < length (rows c n) → (at (rows c n) j).from ≡ (at (rows c n) i).from → (at (rows c n) j).input ≡ (at (rows c n) i).input → ⊥
  forks-not i j h g s t = a.apart i j h (omega (arith, length-rows c n)) (rw (s, t))

  pub apart-unmarked : (dist : List ℕ) (i j : ℕ) → MarkedPair (rows c n) dist i j → ⊥
  apart-unmarked dist i j p = forks-not i j p.ordered p.inside p.forks.together p.forks.alike

  pub apart-unsplit : (states initial i j : ℕ) → SplitPair (record { states = states; initial = initial; transitions = rows c n }) i j → ⊥
  apart-unsplit states initial i j p = forks-not i j p.ordered p.inside p.together p.alike
