-- Laws of walks and of their sums.
use mathlib.Core.Path.{◌≡◌, refl, sym, ap}
use mathlib.Core.Logic.{◌⊎◌, inl, inr, ⊎_elim}
use mathlib.Core.List.{List, [], ◌∷◌, ◌++◌}
use Prim.Native.Nat.{ℕ, ◌+◌, ◌*◌, ◌-◌, ◌≤◌, ◌<◌}
use native.Mathlib.Omega.{arith}
use lib.ListN.{length}
use Rattle.model.specs.Lists.{All, total}
use Rattle.model.specs.Table.{Transition, InRange, at, none}
use Rattle.model.specs.Trace.{Trace, steps}
use Rattle.model.specs.Span.{span}
use Rattle.model.specs.Shown.{late_gap}
use Rattle.model.proofs.Lists.{total-append, total-scale, all-at, all-total}
use Rattle.model.proofs.Paths.{trace-append, trace-split, trace-ranged, steps-last}
use Rattle.table.specs.Rows.{transitions, row_at, said}
use Rattle.table.specs.declared.fit.Fit.{Fit}
use Rattle.table.proofs.RowLaws.{length-rows, at_rows}
use Rattle.table.proofs.FitLaws.{fit-sound}
use Rattle.walks.specs.Walks.{Seen, Walk}

-- a row of a slice that fits
pub seen : (f : Fit) (i : ℕ) → i < length f.rows.now → Seen (transitions f.rows.now) i (said (row_at f.rows.now i))
seen f i h =
    let k : i < length (transitions f.rows.now) = omega (arith, length-rows f.rows.now (length f.rows.now)) in
    let q = at_rows f.rows.now (length f.rows.now) i h in
    record { known = k; here = q; fine = rw q at (all-at none (fit-sound f).ranged i k) }

-- with a lower bound of 1 a late gap is small beside it
late-small : {n : ℕ} (t : Transition) → InRange n t → late_gap t ≤ t.u * 1048320
unfolding late_gap
late-small t g = omega (arith, g.low, g.high)

pub late-top : {n : ℕ} {t : Transition} → InRange n t → late_gap t ≤ 1048320
unfolding late_gap
late-top g = omega (arith, g.high)

module _ (ts : List Transition) where
  pub sum-last : (f : Transition → ℕ) (l : List ℕ) (j : ℕ) → total f (steps ts (l ++ (j ∷ []))) ≡ total f (steps ts l) + f (at ts j)
  sum-last f l j = rw (steps-last ts l j) (omega (arith, total-append f (steps ts l) (at ts j ∷ [])))

  pub trace-last : (s : ℕ) (l : List ℕ) (j : ℕ) → j < length ts → Trace ts s l (at ts j).from → Trace ts s (l ++ (j ∷ [])) (at ts j).to
  trace-last s l j h p = trace-append ts s (at ts j).from (at ts j).to l (j ∷ []) p (h, refl, refl)

  -- the last step of a walk from s to e
  pub record Last (s e a b : ℕ) : Type 0 where
    pub j : ℕ
    pub known : j < length ts
    pub to : (at ts j).to ≡ e
    pub low : (at ts j).u ≤ a
    pub late : ℕ
    pub before : Walk ts s (at ts j).from (a - (at ts j).u) late
    pub sum : b ≡ late + late_gap (at ts j)

ended : (l : List ℕ) → (l ≡ []) ⊎ ((r : List ℕ) × (j : ℕ) × (l ≡ r ++ (j ∷ [])))
ended [] = inl refl
ended (x ∷ l) =
    let put : List ℕ → List ℕ = λ y. x ∷ y in
    inr (⊎_elim (λ e. ([], x, ap put e)) (λ r. (x ∷ r.0, r.1, ap put r.2)) (ended l))

module _ {ts : List Transition} {s e : ℕ} where
  pub walk_none : {top : ℕ} → s ≡ e → Walk ts s e top 0
  unfolding steps
  walk_none p = record { way = []; path = p; fits = omega arith; late = refl }

  pub walk-wide : {a d b : ℕ} → a ≤ d → Walk ts s e a b → Walk ts s e d b
  walk-wide h w = record { way = w.way; path = w.path; fits = omega (arith, w.fits); late = w.late }

  -- a walk is empty or has a last step
  pub walk-last : {a b : ℕ} → Walk ts s e a b → ((s ≡ e) × (b ≡ 0)) ⊎ Last ts s e a b
  unfolding steps
  walk-last {a} {b} w = ⊎_elim (λ q. inl (none q)) (λ r. inr (some r.0 r.1 r.2)) (ended w.way)
    where
      none : w.way ≡ [] → (s ≡ e) × (b ≡ 0)
      none q = (rw q at w.path, sym (rw q at w.late))

      some : (l : List ℕ) (j : ℕ) → w.way ≡ l ++ (j ∷ []) → Last ts s e a b
      some l j q =
          let p = trace-split ts s e l (j ∷ []) (rw q at w.path) in
          let f : (span (steps ts (l ++ (j ∷ [])))).u ≤ a = rw q at w.fits in
          let g : total late_gap (steps ts (l ++ (j ∷ []))) ≡ b = rw q at w.late in
          let x = sum-last ts (λ t. t.u) l j in
          let y = sum-last ts late_gap l j in
          record {
            j = j;
            known = p.2.0;
            to = p.2.2;
            low = omega arith;
            late = total late_gap (steps ts l);
            before = record { way = l; path = rw p.2.1 p.1; fits = omega arith; late = refl };
            sum = omega arith;
          }

  module _ (fine : All (InRange 32) ts) where
    -- every step adds at least one to the sum of u and at most 256 * 4095 to the late sum
    pub walk-small : {a b : ℕ} → Walk ts s e a b → b ≤ a * 1048320
    walk-small w =
        let r = trace-ranged ts fine s e w.way w.path in
        let h = all-total late_gap (λ t. t.u * 1048320) late-small r in
        omega (arith, w.fits, w.late, total-scale (λ t. t.u) 1048320 (steps ts w.way))

    -- a sum of 0 has the empty walk alone
    pub walk-zero : {a b : ℕ} → a ≡ 0 → Walk ts s e a b → (s ≡ e) × (b ≡ 0)
    walk-zero z w = ⊎_elim (λ p. p) (λ l. absurd (omega (arith, l.low, (all-at none fine l.j l.known).low))) (walk-last w)

-- one step more
pub walk-on : {ts : List Transition} {s a b : ℕ} (j : ℕ) → j < length ts → (at ts j).u ≤ a → Walk ts s (at ts j).from (a - (at ts j).u) b
    → Walk ts s (at ts j).to a (b + late_gap (at ts j))
walk-on {ts} {s} j h l w =
    record {
      way = w.way ++ (j ∷ []);
      path = trace-last ts s w.way j h w.path;
      fits = omega (arith, sum-last ts (λ t. t.u) w.way j, w.fits);
      late = omega (arith, sum-last ts late_gap w.way j, w.late);
    }
