-- Laws of walks to an end: by their first step, and by what is asked of a pair.
use mathlib.Core.Path.{◌≡◌, refl, sym, ◌∙◌}
use mathlib.Core.Logic.{◌⊎◌, inl, inr, ⊎_elim, ◌↔◌, dite}
use mathlib.Core.List.{List, [], ◌∷◌, ◌++◌}
use Prim.Native.Nat.{ℕ, ◌+◌, ◌*◌, ◌-◌, ◌≤◌, ◌<◌}
use native.Mathlib.Nat.{eq-or-lt_of_le}
use native.Mathlib.Omega.{arith}
use native.Mathlib.Decide.{ℕ_discrete}
use lib.ListN.{length}
use Rattle.model.specs.Lists.{All}
use Rattle.model.specs.Table.{Transition, InRange, at, none}
use Rattle.model.specs.Trace.{Trace, steps}
use Rattle.model.specs.Span.{span, late_sum}
use Rattle.model.specs.Shown.{late_gap}
use Rattle.model.specs.Criterion.{Crosses}
use Rattle.model.proofs.Lists.{all-at}
use Rattle.model.proofs.Paths.{trace-split}
use Rattle.criterion.specs.declared.Goal.TheVariants.{Turns}
use Rattle.criterion.proofs.GoalLaws.{crosses-due}
use Rattle.walks.specs.Walks.{Followed}
use Rattle.walks.proofs.WalkLaws.{sum-last}
use Rattle.starts.specs.declared.kept.Entry.{Entry}
use Rattle.starts.specs.Kept.{cap, Kept, Asked, Joined, Ended, ended_not, ended_here}
use Rattle.starts.specs.Runs.{Run, Alone, Begins, Under}
use Rattle.starts.proofs.KeptLaws.{kept_same, kept_full, kept-taken, kept-joined}

module _ {ts : List Transition} where
  -- a walk has a first step: the end itself, or one before a walk
  run_by : (rest : List ℕ) (m end : ℕ) {s b x c : ℕ} → Trace ts s (rest ++ (m ∷ [])) end → (span (steps ts (rest ++ (m ∷ [])))).u + (at ts m).d ≤ b
      → x ≡ cap (late_sum (steps ts (rest ++ (m ∷ []))) + (at ts m).d * 256) → c ≡ (at ts m).output → (j : ℕ) × Begins ts s b j x c
  unfolding steps
  run_by [] m end t f l e = (m, record { known = t.0; leaves = t.1; goes = inr (record { fits = omega arith; late = omega arith; letter = e }) })
  run_by (j ∷ rest) m end t f l e = (
    j,
    record {
      known = t.0;
      leaves = t.1;
      goes = inl (record {
        low = omega arith;
        y = cap (late_sum (steps ts (rest ++ (m ∷ []))) + (at ts m).d * 256);
        after = record { rest = rest; m = m; end = end; walk = t.2; fits = omega arith; late = refl; letter = e };
        late = omega arith;
      });
    },
  )

  pub run-begins : {s b x c : ℕ} → Run ts s b x c → (j : ℕ) × Begins ts s b j x c
  run-begins r = run_by r.rest r.m r.end r.walk r.fits r.late r.letter

  pub begins-run : {s b j x c : ℕ} → Begins ts s b j x c → Run ts s b x c
  unfolding steps
  begins-run {j = j} g = ⊎_elim
      (λ o. record {
        rest = j ∷ o.after.rest;
        m = o.after.m;
        end = o.after.end;
        walk = (g.known, g.leaves, o.after.walk);
        fits = omega (arith, o.low, o.after.fits);
        late = omega (arith, o.late, o.after.late);
        letter = o.after.letter;
      })
      (λ a. record {
        rest = [];
        m = j;
        end = (at ts j).to;
        walk = (g.known, g.leaves, refl);
        fits = omega (arith, a.fits);
        late = omega (arith, a.late);
        letter = a.letter;
      })
      g.goes

  -- by all transitions
  pub under-run : {s b i x c : ℕ} → Under ts s b i x c → Run ts s b x c
  under-run u = begins-run u.begins

  pub run-under : {s b i x c : ℕ} → length ts ≤ i → Run ts s b x c → Under ts s b i x c
  run-under h r = let g = run-begins r in record { j = g.0; below = omega (arith, g.1.known); begins = g.1 }

  pub under_none : {s b x c : ℕ} → Under ts s b 0 x c → ⊥
  under_none u = omega (arith, u.below)

  -- every end is due at some time, and counted as at most 240 ticks
  pub run-within : All (InRange 32) ts → {s b x c : ℕ} → Run ts s b x c → (1 ≤ x) × (x ≤ 61440)
  run-within fine r =
      let k = trace-split ts _ r.end r.rest (r.m ∷ []) r.walk in
      omega (arith, r.late, (all-at none fine r.m k.2.0).soon)

  -- no walk ends before its end can
  pub run-least : {r s b x c : ℕ} → ((m : ℕ) → m < length ts → r ≤ (at ts m).u + (at ts m).d) → b < r → Run ts s b x c → ⊥
  run-least least h r =
      let k = trace-split ts _ r.end r.rest (r.m ∷ []) r.walk in
      omega (arith, r.fits, sum-last ts (λ t. t.u) r.rest r.m, least r.m k.2.0)

  -- transition i taken in
  module _ {s b i : ℕ} where
    under_more : {x c : ℕ} → Under ts s b i x c → Under ts s b (i + 1) x c
    under_more u = record { j = u.j; below = omega (arith, u.below); begins = u.begins }

    under-here : {x c : ℕ} → Begins ts s b i x c → Under ts s b (i + 1) x c
    under-here g = record { j = i; below = omega arith; begins = g }

    under_last : {x c : ℕ} → Under ts s b (i + 1) x c → Under ts s b i x c ⊎ Begins ts s b i x c
    under_last u = ⊎_elim
        (λ (q : u.j ≡ i). inr (rw q at u.begins))
        (λ (l : u.j < i). inl (record { j = u.j; below = l; begins = u.begins }))
        (eq-or-lt_of_le (omega (arith, u.below)))

    -- it does not leave s, or its own u is too much
    pub kept-skip : {a : Entry} → ((x c : ℕ) → Begins ts s b i x c → ⊥) → Kept (Under ts s b i) a → Kept (Under ts s b (i + 1)) a
    kept-skip n = kept_same (λ x c. under_more) (λ x c u. ⊎_elim (λ q. q) (λ g. absurd (n x c g)) (under_last u))

    pub kept-capped : {a : Entry} → All (InRange 32) ts → 61440 ≤ a.second → Kept (Under ts s b i) a → Kept (Under ts s b (i + 1)) a
    kept-capped fine h = kept_full h (λ x c. under_more) (λ x c u. run-within fine (under-run u))

    -- it does, with the transition that the code has read
    module _ (known : i < length ts) (leaves : (at ts i).from ≡ s) (low : (at ts i).u ≤ b) where
      on : {x c y : ℕ} → Run ts (at ts i).to (b - (at ts i).u) y c → x ≡ cap (y + late_gap (at ts i)) → Under ts s b (i + 1) x c
      on {y = y} r e = under-here (record { known = known; leaves = leaves; goes = inl (record { low = low; y = y; after = r; late = e }) })

      alone : {x c : ℕ} → Alone (at ts i) b x c → Under ts s b (i + 1) x c
      alone a = under-here (record { known = known; leaves = leaves; goes = inr a })

      pub kept_more : {a n mid r : Entry} → InRange 32 (at ts i) → Kept (Under ts s b i) a → Kept (Run ts (at ts i).to (b - (at ts i).u)) n
          → Joined a n (late_gap (at ts i)) mid → Ended mid (at ts i) (b - (at ts i).u) r → Kept (Under ts s b (i + 1)) r
      kept_more f k p j (ended_not h) = kept_same
          (λ x c. ⊎_elim under_more (λ l. on l.1 l.2))
          (λ x c u. ⊎_elim inl
          (λ g. ⊎_elim (λ o. inr (o.y, o.after, o.late)) (λ a. absurd (omega (arith, a.fits))) g.goes)
          (under_last u))
          (kept-joined k p (late_gap (at ts i)) j)
      kept_more f k p j (ended_here h t) = kept_same
          (λ x c. ⊎_elim (⊎_elim under_more (λ l. on l.1 l.2)) (λ e. alone (record { fits = omega arith; late = e.0; letter = e.1 })))
          (λ x c u. ⊎_elim (λ q. inl (inl q))
          (λ g. ⊎_elim (λ o. inl (inr (o.y, o.after, o.late))) (λ a. inr (a.late, a.letter)) g.goes)
          (under_last u))
          (kept-taken (kept-joined k p (late_gap (at ts i)) j) (omega (arith, f.soon)) t)

-- an end with the number x and the letter c that turns with k
abbrev Wanted : Transition → ℕ → ℕ → Type 0
Wanted k x c = (k.output ≡ c → ⊥) × (k.d * 256 ≤ x)

crosses-wanted : (k m : Transition) (u late : ℕ) → InRange 32 k
    → Crosses k m u late ↔ ((u + m.d ≤ k.d - 1) × Wanted k (cap (late + m.d * 256)) m.output)
crosses-wanted k m u late f =
    let l = crosses-due k m u late in (
      λ c. let w = l.0 c in (omega (arith, w.1), (w.0, omega (arith, w.2, f.late))),
      λ w. l.1 (w.1.0, omega (arith, w.0, f.soon), omega (arith, w.1.1)),
    )

-- the ends that are kept answer for all
wanted-asked : (k : Transition) {Q : ℕ → ℕ → Type 0} {a : Entry} → 1 ≤ k.d → Kept Q a → ((x : ℕ) × (c : ℕ) × Q x c × Wanted k x c) ↔ Asked k a
wanted-asked k {a = a} d p = (
  λ w. dite (ℕ_discrete k.output a.letter)
      (λ (e : k.output ≡ a.letter). inr (e, omega (arith, p.others w.0 w.1 w.2 (λ z. w.3.0 (e ∙ sym z)), w.3.1)))
      (λ n. inl (n, omega (arith, p.most w.0 w.1 w.2, w.3.1))),
  ⊎_elim
      (λ w. (a.first, a.letter, p.first (omega arith), (w.0, w.1)))
      (λ w. let s = p.second (omega arith) in (a.second, s.0, s.2, ((λ e. s.1 (sym e ∙ w.0)), w.1))),
)

module _ {ts : List Transition} (fine : All (InRange 32) ts) {k : ℕ} (h : k < length ts) where
  followed-run : Followed Turns ts k → (x : ℕ) × (c : ℕ) × Run ts (at ts k).to ((at ts k).d - 1) x c × Wanted (at ts k) x c
  followed-run p =
      let t = p.to in
      let w = (crosses-wanted (at ts k) (at ts p.m) _ _ (all-at none fine k h)).0 t.meets in
      (_, _, record { rest = t.rest; m = p.m; end = t.end; walk = t.walk; fits = w.0; late = refl; letter = refl }, w.1)

  run-followed : (x c : ℕ) → Run ts (at ts k).to ((at ts k).d - 1) x c → Wanted (at ts k) x c → Followed Turns ts k
  run-followed x c r w =
      let z = rw (r.late, r.letter) at w in
      record {
        m = r.m;
        to = record {
          rest = r.rest;
          end = r.end;
          walk = r.walk;
          meets = (crosses-wanted (at ts k) (at ts r.m) _ _ (all-at none fine k h)).1 (r.fits, z);
        };
      }

  -- the entry of k answers for k
  pub asked-law : {a : Entry} → Kept (Run ts (at ts k).to ((at ts k).d - 1)) a → Asked (at ts k) a ↔ Followed Turns ts k
  asked-law p =
      let l = wanted-asked (at ts k) (all-at none fine k h).soon p in
      (λ a. let w = l.1 a in run-followed w.0 w.1 w.2 w.3, λ f. l.0 (followed-run f))
