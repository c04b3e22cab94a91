-- The tests of the gaps, place by place, and what the loop over them knows after i steps.
use Rattle.table.specs.Refusal.{passing}
use Rattle.std.proofs.Common.{◌≡◌, ℕ, zero, suc, ◌+◌, ◌<◌, ◌≤◌, ◌⊎◌, ◌↔◌, List, [], ◌∷◌, length, get_or, sym, refl, ◌∙◌, inl, inr, add-one, arith, below_more}
use Rattle.model.specs.Answers.{Fields}
use Rattle.model.specs.Table.{Transition, at}
use Rattle.model.specs.Word.{Fits}
use Rattle.model.specs.Stamps.{gap_of, gaps_from}
use Rattle.table.specs.declared.Row.{Row}
use Rattle.table.specs.Refusal.{checked_fields}
use Rattle.table.specs.Rows.{row_of, said, named}
use Rattle.table.specs.Tests.{Passes, Fails, refuses, answers, Tested}
use Rattle.table.proofs.NamedLaws.{length-named, at_named}
use Rattle.table.proofs.TestLaws.{Numbered}
use Rattle.replay.specs.declared.Guard.{Guard}
use Rattle.replay.specs.declared.Guard.TheVariants.{Inside}
use Rattle.replay.specs.Guards.{Meets, guard_fields}
use Rattle.replay.specs.Play.{gap_tests}
use Rattle.replay.proofs.WordLaws.{AllFit, gaps-at}
use Rattle.replay.proofs.GuardLaws.{fits-neither, neither-fits, guard-shape, guard-fails}

-- the gaps of n steps, of which the first is at place i
module _ (gaps : List ℕ) where
  abbrev FitFrom : ℕ → List Transition → ℕ → Type 0
  FitFrom i tr n = (j : ℕ) → j < n → Fits 256 (at tr j) (get_or gaps (i + j) 0)

  fits-first : (i : ℕ) (t : Transition) (tr : List Transition) (n : ℕ) → FitFrom i (t ∷ tr) (suc n) → Fits 256 t (get_or gaps i 0)
  fits-first i t tr n f = let e : i + 0 ≡ i = omega arith in rw e at (f 0 (omega arith))

  fits-rest : (i : ℕ) (t : Transition) (tr : List Transition) (n : ℕ) → FitFrom i (t ∷ tr) (suc n) → FitFrom (suc i) tr n
  fits-rest i t tr n f j h = let e : i + suc j ≡ suc i + j = omega arith in rw e at (f (suc j) (omega arith))

  fits-pass : (i : ℕ) (tr : List Transition) → FitFrom i tr (length tr) → Passes (gap_tests i tr gaps)
  fits-pass i [] f = tt
  fits-pass i (t ∷ tr) f =
      let n = fits-neither 256 t (get_or gaps i 0) (fits-first i t tr (length tr) f) in
      (n.0, (n.1, fits-pass (suc i) tr (fits-rest i t tr (length tr) f)))

  pass_fits : (i : ℕ) (tr : List Transition) → Passes (gap_tests i tr gaps) → FitFrom i tr (length tr)
  pass_fits i [] p j h = absurd (omega arith)
  pass_fits i (t ∷ tr) p zero h = let e : i + 0 ≡ i = omega arith in rw e (neither-fits 256 t (get_or gaps i 0) p.0 p.1.0)
  pass_fits i (t ∷ tr) p (suc j) h = let e : i + suc j ≡ suc i + j = omega arith in rw e (pass_fits (suc i) tr p.1.1 j (omega arith))

  -- the first that is outside, at place k
  fails-from : (i : ℕ) (tr : List Transition) (k : ℕ) → k < length tr → FitFrom i tr k → (c : Guard) → (c ≡ Inside → ⊥)
      → Meets c 256 (at tr k) (get_or gaps (i + k) 0) → Fails (gap_tests i tr gaps) (guard_fields c (suc (i + k))).status (suc (i + k))
  fails-from i [] k h f c n m = absurd (omega arith)
  fails-from i (t ∷ tr) zero h f c n m =
      let e : i + 0 ≡ i = omega arith in
      rw e (guard-fails c n t (get_or gaps i 0) (suc i) (gap_tests (suc i) tr gaps) (rw e at m))
  fails-from i (t ∷ tr) (suc k) h f c n m =
      let e : i + suc k ≡ suc i + k = omega arith in
      let p = fits-neither 256 t (get_or gaps i 0) (fits-first i t tr k f) in
      inr (p.0, inr (p.1, rw e (fails-from (suc i) tr k (omega arith) (fits-rest i t tr k f) c n (rw e at m))))

  pub gaps-numbered : (i : ℕ) (tr : List Transition) → Numbered (gap_tests i tr gaps)
  gaps-numbered i [] = tt
  gaps-numbered i (t ∷ tr) = (omega arith, omega arith, (omega arith, omega arith, gaps-numbered (suc i) tr))

  -- what they refuse is 9 or 12, and names one of the steps
  pub gaps-refuse : (i : ℕ) (tr : List Transition) (n p : ℕ) → Fails (gap_tests i tr gaps) n p → ((n ≡ 9) ⊎ (n ≡ 12)) × (i < p) × (p ≤ i + length tr)
  gaps-refuse i [] n p f = absurd f
  gaps-refuse i (t ∷ tr) n p (inl f) = (inl f.1, omega (arith, f.2), omega (arith, f.2))
  gaps-refuse i (t ∷ tr) n p (inr (e, inl f)) = (inr f.1, omega (arith, f.2), omega (arith, f.2))
  gaps-refuse i (t ∷ tr) n p (inr (e, inr f)) = let r = gaps-refuse (suc i) tr n p f.1 in (r.0, omega arith, omega arith)

  -- all of them hold exactly if every gap is inside its step's guard
  pub gaps-law : (tr : List Transition) → Passes (gap_tests 0 tr gaps) ↔ AllFit tr gaps
  gaps-law tr = (
    λ p j h. let e : 0 + j ≡ j = omega arith in rw e at (pass_fits 0 tr p j h),
    λ f. fits-pass 0 tr (λ j h. let e : 0 + j ≡ j = omega arith in rw e (f j h)),
  )

  pub gaps-fail : (tr : List Transition) (k : ℕ) → k < length tr → ((j : ℕ) → j < k → Fits 256 (at tr j) (get_or gaps j 0))
      → (c : Guard) → (c ≡ Inside → ⊥) → Meets c 256 (at tr k) (get_or gaps k 0) → Fails (gap_tests 0 tr gaps) (guard_fields c (suc k)).status (suc k)
  gaps-fail tr k h f c n m =
      let e : 0 + k ≡ k = omega arith in
      rw e at (fails-from 0 tr k h (λ j l. let d : 0 + j ≡ j = omega arith in rw d (f j l)) c n (rw e m))

pub record Passed (tr : List Transition) (start : ℕ) (stamps : List ℕ) (before i : ℕ) : Type 0 where
  pub last : before ≡ get_or (start ∷ stamps) i 0
  pub done : (j : ℕ) → j < i → Fits 256 (at tr j) (get_or (gaps_from start stamps) j 0)

module _ (c : List Row) (trace : List ℕ) (start : ℕ) (stamps : List ℕ) where
  abbrev Told : Fields → Type 0
  Told = Tested (gap_tests 0 (named c trace) (gaps_from start stamps))

  pub none_passed : Passed (named c trace) start stamps start 0
  none_passed = record { last = refl; done = λ j h. absurd (omega arith) }

  pub all-passed : {before i : ℕ} → Passed (named c trace) start stamps before i → length trace ≤ i → Told (checked_fields passing)
  all-passed k h = answers ((gaps-law (gaps_from start stamps) (named c trace)).1 (λ j l. k.done j (omega (arith, length-named c trace)))) refl

  module _ (e : length stamps ≡ length trace) {before i : ℕ} (k : Passed (named c trace) start stamps before i) (h : i < length trace) where
    -- with the row and the gap that the code has at i: what the guard test tells
    pub meets-here : {row : Row} {gap : ℕ} (g : Guard) → row ≡ row_of c (get_or trace i 0) → gap ≡ gap_of before (get_or stamps i 0)
        → Meets g 256 (said row) gap → Meets g 256 (at (named c trace) i) (get_or (gaps_from start stamps) i 0)
    meets-here {gap = gap} g er eg m =
        let x : gap ≡ get_or (gaps_from start stamps) i 0 = eg ∙ rw k.last (sym (gaps-at start stamps i (omega arith))) in
        rw (← at_named c trace i h, ← er, ← x) m

    pub one-passed : Fits 256 (at (named c trace) i) (get_or (gaps_from start stamps) i 0) → Passed (named c trace) start stamps (get_or stamps i 0) (i + 1)
    one-passed f = record {
      last = rw (add-one i) refl;
      done = below_more (λ j. Fits 256 (at (named c trace) j) (get_or (gaps_from start stamps) j 0)) i k.done f;
    }

    pub stopped : {f : Fields} (g : Guard) → (g ≡ Inside → ⊥) → f ≡ guard_fields g (i + 1)
        → Meets g 256 (at (named c trace) i) (get_or (gaps_from start stamps) i 0) → Told f
    stopped g n q m =
        let w : length (named c trace) ≡ length trace = length-named c trace in
        refuses (rw (add-one i) at (q ∙ guard-shape g n (i + 1)))
        (gaps-fail (gaps_from start stamps) (named c trace) i (omega arith) k.done g n m) tt
