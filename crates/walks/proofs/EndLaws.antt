-- Laws of the ends of a pair of what is asked.
use mathlib.Core.Path.{◌≡◌, refl}
use mathlib.Core.Logic.{◌↔◌}
use mathlib.Core.List.{List, [], ◌∷◌}
use Prim.Native.Nat.{ℕ, ◌+◌, ◌-◌, ◌≤◌, ◌<◌}
use native.Mathlib.Omega.{arith}
use lib.ListN.{length}
use Rattle.model.specs.Table.{Transition, at, none}
use Rattle.model.specs.Trace.{Trace, steps}
use Rattle.model.specs.Span.{span, late_sum}
use Rattle.model.specs.Shown.{late_gap}
use Rattle.model.specs.Criterion.{Above, slack}
use Rattle.model.proofs.Lists.{all-at}
use Rattle.model.proofs.Paths.{trace-split}
use Rattle.model.proofs.CriterionLaws.{above-less, slack-fits, slack-most, slack-small}
use Rattle.criterion.specs.declared.Goal.{Goal}
use Rattle.criterion.specs.Goals.{Meets, Possible}
use Rattle.criterion.proofs.GoalLaws.{goal-sought, met-possible}
use Rattle.std.specs.Prelude.{Option, Some, None}
use Rattle.table.specs.Rows.{transitions}
use Rattle.table.specs.declared.fit.Fit.{Fit}
use Rattle.table.proofs.RowLaws.{length-rows}
use Rattle.walks.specs.Walks.{Seen, Walk, EndsIn, Least, Among}
use Rattle.walks.specs.Best.{cell, Closes, ReadyFor}
use Rattle.walks.proofs.WalkLaws.{sum-last, trace-last}
use Rattle.walks.proofs.BestLaws.{cell-small}

-- the law of what is asked, and the walks that end in it
module _ (goal : Goal) where
  -- a walk, then m, by its sums
  abbrev pub ends_by : {ts : List Transition} {k m : ℕ} (rest : List ℕ) → m < length ts → Trace ts (at ts k).to rest (at ts m).from
      → Meets goal (at ts k) (at ts m) ((span (steps ts rest)).u + (at ts m).u) (late_sum (steps ts rest) + late_gap (at ts m)) → EndsIn goal ts k m
  ends_by {ts} {k} {m} rest h p x =
      let above = (goal-sought goal).above (at ts k) (at ts m) _ _ x in
      record {
        rest = rest;
        end = (at ts m).to;
        walk = trace-last ts (at ts k).to rest m h p;
        meets = (goal-sought goal).moves (at ts k) (at ts m) _ _ _ _ x
            (above-less (at ts k) (at ts m) _ _ above (omega (arith, sum-last ts (λ t. t.u) rest m))) (omega (arith, sum-last ts late_gap rest m));
      }

  -- the end of a pair is a transition of the table, where a walk arrives
  module _ {ts : List Transition} {k m : ℕ} (t : EndsIn goal ts k m) where
    end-split : (e : ℕ) × Trace ts (at ts k).to t.rest e × Trace ts e (m ∷ []) t.end
    end-split = trace-split ts (at ts k).to t.end t.rest (m ∷ []) t.walk

    pub end_known : m < length ts
    end_known = end-split.2.0

    end_rest : Trace ts (at ts k).to t.rest (at ts m).from
    end_rest = rw end-split.2.1 end-split.1

    -- a sum that m's own u and that of the walk before it make up
    end-above : (x : ℕ) → x ≤ (span (steps ts t.rest)).u + (at ts m).u → Above (at ts k) (at ts m) x
    end-above x h =
        above-less (at ts k) (at ts m) _ x ((goal-sought goal).above (at ts k) (at ts m) _ _ t.meets) (omega (arith, sum-last ts (λ t. t.u) t.rest m))

    -- whatever the walk before it
    pub end-possible : Possible goal (at ts k) (at ts m)
    end-possible = met-possible goal (at ts k) (at ts m) _ _ (omega (arith, sum-last ts (λ t. t.u) t.rest m)) t.meets

  -- and so a row of the slice
  pub end-in : (f : Fit) {k m : ℕ} → EndsIn goal (transitions f.rows.now) k m → m < length f.rows.now
  end-in f t = omega (arith, end_known t, length-rows f.rows.now (length f.rows.now))

  -- the test of an end, with the late gap that the code has read
  module _ {k m : Transition} {x g : ℕ} (e : g ≡ late_gap m) where
    pub closed-law : (x ≡ 0 → ⊥) → Meets goal k m m.u (x - 1 + g) ↔ Closes goal k m x
    closed-law n = (
      λ p. record { late = x - 1; some = omega arith; meets = rw e at p },
      λ p. let q : p.late ≡ x - 1 = omega (arith, p.some) in rw e (rw q at p.meets),
    )

  -- the table of numbers and the walks say the same of an end
  module _ {ts : List Transition} (k : ℕ) {best : List ℕ} (z : ReadyFor goal ts k best) (m : ℕ) where
    abbrev a : ℕ
    a = slack (at ts k) (at ts m)

    closes-ends : m < length ts → Closes goal (at ts k) (at ts m) (cell best a (at ts m).from) → EndsIn goal ts k m
    closes-ends h p =
        let f = all-at none z.roomy.fine m h in
        let c = met-possible goal (at ts k) (at ts m) _ _ (omega arith) p.meets in
        let w : Walk ts (at ts k).to (at ts m).from a p.late = (z.filled.row a (z.covers m h c)).real (at ts m).from p.late f.leaves p.some in
        let above = slack-fits (at ts k) (at ts m) ((goal-sought goal).above (at ts k) (at ts m) _ _ p.meets) in
        ends_by w.way h w.path ((goal-sought goal).moves (at ts k) (at ts m) _ _ _ _ p.meets
        (above-less (at ts k) (at ts m) _ _ above (omega (arith, w.fits))) (omega (arith, w.late)))

    pub ends-closes : EndsIn goal ts k m → Closes goal (at ts k) (at ts m) (cell best a (at ts m).from)
    ends-closes t =
        let h = end_known t in
        let f = all-at none z.roomy.fine m h in
        let b : ℕ = late_sum (steps ts t.rest) in
        let o = slack-most (at ts k) (at ts m) (span (steps ts t.rest)).u (end-above t _ (omega arith)) in
        let w : Walk ts (at ts k).to (at ts m).from a b = record { way = t.rest; path = end_rest t; fits = o; late = refl } in
        let p = (z.filled.row a (z.covers m h (end-possible t))).most (at ts m).from b f.leaves w in
        record {
          late = cell best a (at ts m).from - 1;
          some = omega arith;
          meets = (goal-sought goal).moves (at ts k) (at ts m) _ _ _ _ t.meets (end-above t (at ts m).u (omega arith))
              (omega (arith, sum-last ts late_gap t.rest m));
        }

    -- with the transitions and the numbers that the code has read
    module _ {first last : Transition} (df : Seen ts k first) (dl : Seen ts m last) where
      pub not-possible : (Possible goal first last → ⊥) → EndsIn goal ts k m → ⊥
      not-possible n t = n (rw (df.here, dl.here) at (end-possible t))

    module _ {first last : Transition} (df : Seen ts k first) (dl : Seen ts m last) {row : ℕ} (dr : row ≡ slack first last) where
      -- the number's place
      pub number-there : (length best ≡ 7648) × (row ≤ 238) × (last.from < 32)
      number-there = (z.roomy.size, omega (arith, slack-small first last df.fine dl.fine), dl.fine.leaves)

      module _ {x : ℕ} (dx : x ≡ cell best row last.from) where
        number_is : x ≡ cell best a (at ts m).from
        number_is = rw (df.here, dl.here) (rw dr at dx)

        pub end-law : Closes goal first last x ↔ EndsIn goal ts k m
        end-law = rw (← df.here, ← dl.here, number_is) (closes-ends dl.known, ends-closes)

        pub number_small : Possible goal first last → x < 4278190080
        number_small c =
            let f = all-at none z.roomy.fine m dl.known in
            let p : Possible goal (at ts k) (at ts m) = rw (df.here, dl.here) c in
            let s = cell-small best a (at ts m).from z.roomy.fine (z.filled.row a (z.covers m dl.known p)) f.leaves in
            let l = slack-small (at ts k) (at ts m) (all-at none z.roomy.fine k df.known) f in
            omega (arith, number_is)

-- a loop that looks for the least number of which P holds
module _ {P : ℕ → Type 0} where
  pub least-none : {n i : ℕ} → ((x : ℕ) → P x → x < n) → n ≤ i → ((x : ℕ) → x < i → P x → ⊥) → (x : ℕ) → P x → ⊥
  least-none k h b x p = b x (omega (arith, k x p)) p

-- a loop that looks for some transition of which P holds
module _ {P : ℕ → Type 0} {l n : ℕ} (len : l ≡ n) where
  pub among_none : {i : ℕ} → n ≤ i → ((x : ℕ) → x < i → P x → ⊥) → Among P l → ⊥
  among_none h b p = b p.x (omega (arith, p.known)) p.holds

-- nothing was found
pub least-not : (P : ℕ → Type 0) (r : Option ℕ) → Least P r → r ≡ None → (x : ℕ) → P x → ⊥
least-not P (Some k) l e x p = cc
least-not P None l e x p = l x p
