-- Laws of the soonest ends.
use mathlib.Core.Path.{◌≡◌, refl, ap, ◌∙◌}
use mathlib.Core.Bool.{Bool, true, false}
use mathlib.Core.Logic.{dite, ◌↔◌}
use mathlib.Core.List.{List, [], ◌∷◌, ◌++◌}
use Prim.Native.Nat.{ℕ, zero, suc, ◌+◌, min, ◌≤◌, ◌<◌}
use native.Mathlib.Decide.{ℕ_discrete, dec_lt}
use native.Mathlib.Omega.{arith}
use lib.ListN.{length, get_or, set, length-set}
use lib.Seq.{get_or-set_same, get_or-set_other}
use Rattle.std.specs.Prelude.{Option, Some, None}
use Rattle.table.specs.declared.Row.{Row}
use Rattle.table.specs.Rows.{row_at, blank, transitions}
use Rattle.table.specs.declared.fit.Fit.{Fit}
use Rattle.table.proofs.RowLaws.{length-rows}
use Rattle.table.proofs.FitLaws.{fit-sound}
use Rattle.walks.proofs.WalkLaws.{seen}
use Rattle.walks.proofs.StartLaws.{not-marked, lowest-sound}
use Rattle.model.specs.Lists.{total}
use Rattle.model.specs.Table.{Transition, at}
use Rattle.model.specs.Trace.{Trace, steps}
use Rattle.model.specs.Span.{span}
use Rattle.model.proofs.CriterionLaws.{above-is}
use Rattle.criterion.specs.declared.Goal.TheVariants.{Overtakes}
use Rattle.walks.specs.Walks.{Seen, Followed, Starts, Least, LowestStart}
use Rattle.soonest.specs.Soonest.{Due, Settled, SettledTo, Real, Soonest, Lowered}

abbrev all : List ℕ → ℕ
all l = total (λ x. x) l

-- a lesser number makes the sum less
less-total : (l : List ℕ) (i x : ℕ) → x < get_or l i 0 → all (set l i x) < all l
less-total [] i x h = absurd (omega arith)
less-total (y ∷ l) zero x h = omega arith
less-total (y ∷ l) (suc i) x h = omega (arith, less-total l i x h)

-- all transitions settled: no end is sooner
least_by : (ts : List Transition) {l : List ℕ} → SettledTo ts (length ts) l → (rest : List ℕ) (m s end : ℕ) → Trace ts s (rest ++ (m ∷ [])) end
    → get_or l s 0 ≤ (span (steps ts (rest ++ (m ∷ [])))).u + (at ts m).d
unfolding steps
least_by ts z [] m s end w = rw (← w.1) (omega (arith, (z m w.0).own))
least_by ts z (j ∷ rest) m s end w = rw (← w.1) (omega (arith, (z j w.0).before, least_by ts z rest m (at ts j).to end w.2))

module _ {ts : List Transition} where
  -- an end, or one after a step
  due-own : (j : ℕ) → j < length ts → Due ts (at ts j).from ((at ts j).u + (at ts j).d)
  unfolding steps
  due-own j h = record { rest = []; m = j; end = (at ts j).to; walk = (h, refl, refl); sum = omega arith }

  due-before : (j e : ℕ) → j < length ts → Due ts (at ts j).to e → Due ts (at ts j).from ((at ts j).u + e)
  unfolding steps
  due-before j e h d = record { rest = j ∷ d.rest; m = d.m; end = d.end; walk = (h, refl, d.walk); sum = omega (arith, d.sum) }

  pub real-none : (l : List ℕ) → length l ≡ 32 → ((s : ℕ) → s < 32 → get_or l s 0 ≡ 240) → Real ts l
  real-none l n e = record { size = n; due = λ s h k. absurd (omega (arith, e s h)) }

  module _ {l : List ℕ} (r : Real ts l) {i : ℕ} {t : Transition} (z : Seen ts i t) {x : ℕ} where
    pub lower-not : x ≡ t.u + min t.d (get_or l t.to 0) → get_or l t.from 0 ≤ x → Lowered ts (Settled (at ts i)) l false l
    lower-not e h = (refl, rw z.here (record { own = omega arith; before = omega arith }))

    -- an end is due at x: transition i itself, or the soonest after it
    due-here : x ≡ t.u + min t.d (get_or l t.to 0) → x < 240 → Due ts (at ts i).from x
    due-here e h =
        let f = z.fine in
        dite (dec_lt t.d (get_or l t.to 0))
        (λ (b : t.d < get_or l t.to 0).
        let q : x ≡ (at ts i).u + (at ts i).d = rw z.here (omega arith) in
        rw q (due-own i z.known))
        (λ n.
        let q : x ≡ (at ts i).u + get_or l (at ts i).to 0 = rw z.here (omega arith) in
        let d : Due ts (at ts i).to (get_or l (at ts i).to 0) = rw z.here (r.due t.to f.arrives (omega arith)) in
        rw q (due-before i (get_or l (at ts i).to 0) z.known d))

    pub lower-more : x ≡ t.u + min t.d (get_or l t.to 0) → x < get_or l t.from 0 → Lowered ts (Settled (at ts i)) l true (set l t.from x)
    lower-more e h =
        let f : t.from < length l = omega (arith, r.size, z.fine.leaves) in
        let here : get_or (set l t.from x) t.from 0 ≡ x = get_or-set_same l t.from x 0 f in (
          record {
            size = length-set l t.from x ∙ r.size;
            due = λ s b k. dite (ℕ_discrete s t.from)
                (λ (q : s ≡ t.from). rw (q, here, ← z.here) (due-here e (omega (arith, ap (λ (y : ℕ). get_or (set l t.from x) y 0) q))))
                (λ n. let o : get_or (set l t.from x) s 0 ≡ get_or l s 0 = get_or-set_other l t.from s x 0 n in rw o (r.due s b (omega arith)));
          },
          less-total l t.from x h,
        )

  pub settled-soonest : {l : List ℕ} {n : ℕ} → length ts ≡ n → Real ts l → SettledTo ts n l → Soonest ts l
  settled-soonest e r z =
      record { real = r; least = λ s x d. omega (arith, least_by ts (rw (← e) at z) d.rest d.m s d.end d.walk, d.sum) }

  -- what is told of transition k
  module _ {l : List ℕ} (soon : Soonest ts l) {k : ℕ} {t : Transition} (z : Seen ts k t) where
    pub not-sooner : t.d ≤ get_or l t.to 0 → Followed Overtakes ts k → ⊥
    not-sooner h p =
        let w = p.to in
        let d : Due ts (at ts k).to ((span (steps ts (w.rest ++ (p.m ∷ [])))).u + (at ts p.m).d) =
        record { rest = w.rest; m = p.m; end = w.end; walk = w.walk; sum = refl } in
        let g : (at ts k).d ≤ get_or l (at ts k).to 0 = rw z.here h in
        omega (arith, soon.least (at ts k).to _ d, (above-is (at ts k) (at ts p.m) _).0 w.meets)

    pub is-sooner : get_or l t.to 0 < t.d → Followed Overtakes ts k
    is-sooner h =
        let d = soon.real.due t.to z.fine.arrives (omega (arith, z.fine.late)) in
        let g : get_or l t.to 0 < (at ts k).d = rw z.here h in
        record {
          m = d.m;
          to = record {
            rest = d.rest;
            end = d.end;
            walk = rw z.here d.walk;
            meets = (above-is (at ts k) (at ts d.m) _).1 (omega (arith, d.sum));
          };
        }

    pub starts-here : {dist : List ℕ} → 1 ≤ get_or dist t.from 0 → get_or l t.to 0 < t.d → Starts Overtakes ts dist k
    starts-here {dist} g h =
        let a : 1 ≤ get_or dist (at ts k).from 0 = rw z.here g in
        record { arrives = record { known = z.known; to = refl; leaves = a }; after = is-sooner h }

-- a loop over the transitions, which tells whether any made a number less
abbrev pub Round : List Transition → List ℕ → ℕ → Bool → List ℕ → Type 0
Round ts l₀ i any l = Real ts l × Lowered ts (SettledTo ts i) l₀ any l

-- what a round tells
pub round-done : (ts : List Transition) (n : ℕ) (l₀ : List ℕ) (r : Bool) {l : List ℕ} → r ≡ false → length ts ≡ n → Real ts l₀ → Lowered ts (SettledTo ts n) l₀ r l
    → Soonest ts l
round-done ts n l₀ false e q z w = rw w.0 (settled-soonest q z w.1)
round-done ts n l₀ true e q z w = let x : ◌≡◌ {A = ℕ} 0 1 = cc in absurd (omega arith)

-- what the code tests of a row: it leaves a marked state, and an end after it is due before its own response
abbrev Sooner : List ℕ → List ℕ → Row → Type 0
Sooner dist l r = (get_or dist r.from 0 ≡ 0 → ⊥) × (get_or l r.to 0 < r.d)

-- the first row of which it holds, by the places
abbrev pub FoundAt : List Row → List ℕ → List ℕ → Option ℕ → Type 0
FoundAt c dist l (Some k) = (k < length c) × Sooner dist l (row_at c k) × ((x : ℕ) (r : Row) → x < k → Sooner dist l (get_or c x r) → ⊥)
FoundAt c dist l None = (x : ℕ) (r : Row) → x < length c → Sooner dist l (get_or c x r) → ⊥

module _ (f : Fit) (dist : List ℕ) {l : List ℕ} (soon : Soonest (transitions f.rows.now) l) where
  sooner-law : (k : ℕ) → k < length f.rows.now → Sooner dist l (row_at f.rows.now k) ↔ Starts Overtakes (transitions f.rows.now) dist k
  sooner-law k h =
      let t = row_at f.rows.now k in
      let z = seen f k h in (
        λ p. starts-here soon z (omega (arith, p.0)) p.1,
        λ s. (
          λ e. not-marked z Overtakes dist e s,
          dite (dec_lt (get_or l t.to 0) t.d) (λ b. b) (λ n. absurd (not-sooner soon z (omega arith) s.after)),
        ),
      )

  found_least : (r : Option ℕ) → FoundAt f.rows.now dist l r → Least (Starts Overtakes (transitions f.rows.now) dist) r
  found_least (Some k) p = ((sooner-law k p.0).0 p.1, λ x h s. p.2 x blank h ((sooner-law x (omega (arith, p.0))).1 s))
  found_least None p = λ x s.
      let h : x < length f.rows.now = omega (arith, s.arrives.known, length-rows f.rows.now (length f.rows.now)) in
      p x blank h ((sooner-law x h).1 s)

-- and so the answer for the slice that was tested
pub found_lowest : (f : Fit) {c : List Row} → f.rows.now ≡ c → (dist : List ℕ) {l : List ℕ} → Soonest (transitions f.rows.now) l → (r : Option ℕ) → FoundAt c dist l r
    → LowestStart Overtakes c (length c) dist r
found_lowest f e dist soon r h =
    rw (← e) (lowest-sound Overtakes f.rows.now (length f.rows.now) dist (fit-sound f) r (found_least f dist soon r (rw (← e) at h)))
