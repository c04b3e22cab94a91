-- Laws of the walk back: every number is explained, and the walk that explains it is written.
use mathlib.Core.Path.{◌≡◌, refl, sym, ◌∙◌}
use mathlib.Core.Logic.{⊎_elim, ◌↔◌}
use mathlib.Core.List.{List, [], ◌∷◌, ◌++◌, append_assoc, append-nil}
use Prim.Native.Nat.{ℕ, zero, suc, ◌+◌, ◌-◌, ◌≤◌, ◌<◌}
use native.Mathlib.Numerals.{add-one}
use native.Mathlib.Omega.{arith}
use lib.ListN.{length, set, take, drop, length-append, length-set}
use lib.Seq.{paste, take_all, drop-length, drop-cons, get_or-set_same, drop-set-lt}
use Rattle.model.specs.Lists.{All}
use Rattle.model.specs.Table.{Transition, InRange, at, none}
use Rattle.model.specs.Trace.{Trace, steps}
use Rattle.model.specs.Span.{span, late_sum}
use Rattle.model.specs.Shown.{late_gap}
use Rattle.model.specs.Criterion.{Above, slack}
use Rattle.model.proofs.Lists.{all-at}
use Rattle.model.proofs.CriterionLaws.{above-less, above-bound, slack-fits, slack-small}
use Rattle.criterion.specs.declared.Goal.{Goal}
use Rattle.criterion.specs.declared.Goal.TheVariants.{Turns, Overtakes}
use Rattle.criterion.specs.Goals.{Meets}
use Rattle.criterion.proofs.GoalLaws.{goal-sought}
use Rattle.table.specs.Rows.{transitions}
use Rattle.table.specs.declared.fit.Fit.{Fit}
use Rattle.table.proofs.RowLaws.{length-rows}
use Rattle.walks.specs.Walks.{Seen, Walk, EndsIn, ShownWalk}
use Rattle.walks.specs.declared.soon.Soonest.{Soonest}
use Rattle.walks.specs.Soon.{Soon, RowsFor}
use Rattle.walks.specs.Best.{cell, asked, Exact, Filled, Roomy, Closes, ReadyFor, Explains, Explained, LeastRow, Stands, Back, EndSum, Went}
use Rattle.walks.proofs.WalkLaws.{sum-last, trace-last, Last, walk_none, walk-wide, walk-on, walk-last, walk-zero}
use Rattle.walks.proofs.BestLaws.{filled-less}
use Rattle.walks.proofs.EndLaws.{ends_by, ends-closes, end-possible}
use Rattle.walks.proofs.SoonLaws.{rows-cover}

-- one more number right before what stands from a place on
store-before : (p to : ℕ) (old : List ℕ) (j : ℕ) → to ≡ p + 1 → to ≤ length old → drop p (set old p j) ≡ j ∷ drop to old
store-before p to old j e h =
    let l : p < length (set old p j) = simp length-set (omega arith) in
    rw (e, add-one p, drop-cons (set old p j) p 0 l, get_or-set_same old p j 0 (omega arith), drop-set-lt (suc p) old p j (omega arith))

-- the tests of a last step, with the transition that the code has read
module _ {ts : List Transition} {best : List ℕ} {e a j : ℕ} {t : Transition} (z : Seen ts j t) where
  left_is : (p : Explains ts best e a j) → p.left ≡ a - t.u
  left_is p = rw (← z.here) (omega (arith, p.whole))

  pub not-here : (t.to ≡ e → ⊥) → Explains ts best e a j → ⊥
  not-here = rw (← z.here) (λ h p. h p.to)

  pub not_low : a < t.u → Explains ts best e a j → ⊥
  not_low = rw (← z.here) (λ h p. omega (arith, p.whole))

  pub not_some : cell best (a - t.u) t.from ≡ 0 → Explains ts best e a j → ⊥
  not_some h p = let q = rw (left_is p, z.here) at p.some in omega arith

  pub is_sum : t.to ≡ e → t.u ≤ a → 1 ≤ cell best (a - t.u) t.from → cell best (a - t.u) t.from + late_gap t ≡ cell best a e → Explains ts best e a j
  is_sum = rw (← z.here) (λ h l s q. record { to = h; left = a - (at ts j).u; whole = omega arith; some = s; sum = q })

  -- where there is a number before it the sum tells
  -- where there is a number before it the sum tells
  pub sum-law : t.to ≡ e → t.u ≤ a → 1 ≤ cell best (a - t.u) t.from → (cell best (a - t.u) t.from + late_gap t ≡ cell best a e) ↔ Explains ts best e a j
  sum-law h l s = (is_sum h l s, λ p. rw (left_is p, z.here) at p.sum)

-- walks of the table ts from s
module _ {ts : List Transition} {s : ℕ} {best : List ℕ} where
  -- rows grow
  cell-grows : (a d e : ℕ) → Exact ts s best a → Exact ts s best d → a ≤ d → e < 32 → cell best a e ≤ cell best d e
  cell-grows a d e r q h l = grows (cell best a e) refl
    where
      grows : (x : ℕ) → cell best a e ≡ x → x ≤ cell best d e
      grows zero z = omega arith
      grows (suc b) z = q.most e b l (walk-wide h (r.real e b l z))

  -- a step from a row's number
  cell-goes : (j b x : ℕ) → j < length ts → All (InRange 32) ts → Exact ts s best b → Exact ts s best (b + (at ts j).u) → cell best b (at ts j).from ≡ suc x
      → suc x + late_gap (at ts j) ≤ cell best (b + (at ts j).u) (at ts j).to
  cell-goes j b x h fine r q e =
      let f = all-at none fine j h in
      let k : b + (at ts j).u - (at ts j).u ≡ b = omega arith in
      let w : Walk ts s (at ts j).to (b + (at ts j).u) (x + late_gap (at ts j)) = walk-on j h (omega arith) (rw k (r.real (at ts j).from x f.leaves e)) in
      omega (arith, q.most (at ts j).to (x + late_gap (at ts j)) f.arrives w)

  module _ {e a : ℕ} (p : Stands ts s best e a) where
    row-of : (d : ℕ) → d ≤ a → Exact ts s best d
    row-of d h = p.filled.row d (omega arith)

    stands-walk : (b : ℕ) → cell best a e ≡ suc b → Walk ts s e a b
    stands-walk b q = (row-of a (omega arith)).real e b p.state q

    -- the number before the last step
    last_sum : (b : ℕ) → cell best a e ≡ suc b → (w : Last ts s e a b) → Explains ts best e a w.j
    last_sum b q w =
        let j = w.j in
        let f = all-at none p.roomy.fine j w.known in
        let r = row-of (a - (at ts j).u) (omega arith) in
        let m = r.most (at ts j).from w.late f.leaves w.before in
        let x : ℕ = cell best (a - (at ts j).u) (at ts j).from - 1 in
        let y : cell best (a - (at ts j).u) (at ts j).from ≡ suc x = omega arith in
        let n : a - (at ts j).u + (at ts j).u ≡ a = omega (arith, w.low) in
        let g = rw (n, w.to) at (cell-goes j (a - (at ts j).u) x w.known p.roomy.fine r (rw n (row-of a (omega arith))) y) in
        record { to = w.to; left = a - (at ts j).u; whole = sym n; some = omega arith; sum = omega (arith, w.sum) }

    -- some transition explains the number of a row that is not the first
    pub explained : (a ≡ 0 → ⊥) → Explained ts best e a
    explained h =
        let b : ℕ = cell best a e - 1 in
        let q : cell best a e ≡ suc b = omega (arith, p.some) in
        ⊎_elim
        (λ z.
        let m = (row-of (a - 1) (omega arith)).most e 0 p.state (walk_none z.0) in
        let g = cell-grows (a - 1) a e (row-of (a - 1) (omega arith)) (row-of a (omega arith)) (omega arith) p.state in
        absurd (p.least (a - 1) (omega arith) (omega (arith, z.1))))
        (λ w. record { x = w.j; known = w.known; holds = last_sum b q w })
        (walk-last (stands-walk b q))

    -- row 0 is the start
    stands-start : a ≡ 0 → (s ≡ e) × (cell best a e ≡ 1)
    stands-start z =
        let b : ℕ = cell best a e - 1 in
        let q : cell best a e ≡ suc b = omega (arith, p.some) in
        let w = walk-zero p.roomy.fine z (stands-walk b q) in
        (w.0, omega (arith, w.1))

    -- one step back
    module _ (j : ℕ) (h : j < length ts) (x : Explains ts best e a j) where
      stands-least : (b : ℕ) → b < x.left → cell best b (at ts j).from ≡ cell best x.left (at ts j).from → ⊥
      stands-least b l q =
          let c = b + (at ts j).u in
          let y : ℕ = cell best b (at ts j).from - 1 in
          let n : cell best b (at ts j).from ≡ suc y = omega (arith, x.some) in
          let d : c < a = omega (arith, x.whole) in
          let g = rw x.to at (cell-goes j b y h p.roomy.fine (row-of b (omega arith)) (row-of c (omega arith)) n) in
          let m = cell-grows c a e (row-of c (omega arith)) (row-of a (omega arith)) (omega arith) p.state in
          p.least c d (omega (arith, x.sum))

      stands_on : Stands ts s best (at ts j).from x.left
      stands_on =
          let f = all-at none p.roomy.fine j h in
          record {
            roomy = p.roomy;
            filled = filled-less (omega (arith, x.whole)) p.filled;
            state = f.leaves;
            high = omega (arith, p.high, x.whole);
            some = x.some;
            least = stands-least;
          }

  -- at the last step j of a walk, with the row a of the walk before it
  module _ {j sum a : ℕ} (whole : sum ≡ a + (at ts j).u) (p : Stands ts s best (at ts j).from a) where
    went-first : (d to : ℕ) (old : List ℕ) → to ≡ d + 1 → to ≤ length old → a ≡ 0 → 1 ≤ (at ts j).u → Went ts s best j sum to old (set old d j) d
    unfolding steps
    went-first d to old e h z f =
        let w = stands-start p z in
        record {
          rest = [];
          path = w.0;
          whole = omega arith;
          late = rw z at w.1;
          number = e;
          short = omega arith;
          traced = store-before d to old j e h;
          size = length-set old d j;
        }

    went_on : {i : ℕ} → i < length ts → 1 ≤ (at ts j).u → Explains ts best (at ts j).from a i → (d to : ℕ) (old out : List ℕ) (n : ℕ) → to ≡ d + 1 → to ≤ length old
        → Went ts s best i a d (set old d j) out n → Went ts s best j sum to old out n
    went_on {i} k f x d to old out n e h w =
        let l : List ℕ = w.rest ++ (i ∷ []) in
        let u = sum-last ts (λ t. t.u) w.rest i in
        let q : (span (steps ts l)).u ≡ a = omega (arith, w.whole) in
        let r : x.left ≡ (span (steps ts w.rest)).u = omega (arith, x.whole, w.whole) in
        let y = rw r at x.sum in
        let c : length l ≡ length w.rest + 1 = simp length-append in
        record {
          rest = l;
          path = rw x.to at (trace-last ts s w.rest i k w.path);
          whole = omega arith;
          late = rw q (omega (arith, w.late, sum-last ts late_gap w.rest i));
          number = omega (arith, w.number);
          short = omega (arith, w.short);
          traced = w.traced ∙ rw (store-before d to old j e h) (sym (append_assoc l (j ∷ []) (drop to old)));
          size = w.size ∙ length-set old d j;
        }

  -- the same, with the transition that the code has read
  module _ {j sum : ℕ} (p : Back ts s best j sum) {t : Transition} (z : Seen ts j t) where
    left-same : p.left ≡ sum - t.u
    left-same = rw (← z.here) (omega (arith, p.whole))

    stands_here : Stands ts s best (at ts j).from (sum - t.u)
    stands_here = rw left-same at p.stands

    whole_here : sum ≡ sum - t.u + (at ts j).u
    whole_here = rw left-same at p.whole

    own : 1 ≤ (at ts j).u
    own = rw z.here z.fine.low

    pub step_falls : t.u ≤ sum
    step_falls = let h : (at ts j).u ≤ sum = omega (arith, p.whole) in rw z.here at h

    pub back-stands : Stands ts s best t.from (sum - t.u)
    back-stands = rw z.here at stands_here

    module _ {d to : ℕ} {old : List ℕ} {y : ℕ} (q : y ≡ j) (e : to ≡ d + 1) (l : to ≤ length old) where
      pub first-went : sum - t.u ≡ 0 → Went ts s best j sum to old (set old d y) d
      first-went n = rw q (went-first whole_here stands_here d to old e l n own)

      pub went-step : {i : ℕ} → i < length ts → Explains ts best t.from (sum - t.u) i → {out : List ℕ} {n : ℕ}
          → Went ts s best i (sum - t.u) d (set old d y) out n → Went ts s best j sum to old out n
      went-step {i} h x {out} {n} w =
          let v : Explains ts best (at ts j).from (sum - t.u) i = rw z.here x in
          went_on whole_here stands_here h own v d to old out n e l (rw q at w)

    pub back_on : {i : ℕ} → i < length ts → Explains ts best t.from (sum - t.u) i → Back ts s best i (sum - t.u)
    back_on {i} h x = record { known = h; left = x.left; whole = x.whole; stands = stands_on back-stands i h x }

-- the transition where the walk back stands is a row of the slice
pub back-in : (f : Fit) {s : ℕ} {best : List ℕ} {j sum : ℕ} → Back (transitions f.rows.now) s best j sum → j < length f.rows.now
back-in f p = omega (arith, p.known, length-rows f.rows.now (length f.rows.now))

-- the rows that are made for a transition, one more than it asks for
pub show-ready : {goal : Goal} {ts : List Transition} {k n rows : ℕ} {best : List ℕ} {first : Transition} {soon : Soonest} → Seen ts k first
    → length ts ≡ n → Soon ts n soon → RowsFor goal first soon rows → Roomy ts first.to best → Filled ts first.to best (rows + 1)
    → ReadyFor goal ts k best
show-ready {rows = rows} z len b w s f =
    rw z.here (record {
      roomy = s;
      depth = rows + 1;
      filled = f;
      covers = λ m l c. omega (arith, rows-cover z b w m (omega arith) c);
    })

-- the number that is asked for, of the last row's
asked-most : (goal : Goal) {x late : ℕ} → x ≡ suc late → asked goal x ≤ x
asked-most Turns e = omega arith
asked-most Overtakes e = omega arith

asked-some : (goal : Goal) {x late : ℕ} → x ≡ suc late → 1 ≤ asked goal x
asked-some Turns e = omega arith
asked-some Overtakes e = omega arith

-- with it the goal is met
row-meets : (goal : Goal) (k m : Transition) (u : ℕ) {x late y : ℕ} (sum : ℕ) → x ≡ suc late → asked goal x ≤ y → Meets goal k m u (late + late_gap m) → Above k m sum
    → Meets goal k m sum (y - 1 + late_gap m)
row-meets Turns k m u sum e h c a = (goal-sought Turns).moves k m _ _ _ _ c a (omega arith)
row-meets Overtakes k m u sum e h c a = a

-- the sum from which an end is walked back, with the two transitions that the code has read
module _ (goal : Goal) {ts : List Transition} {k m : ℕ} {best : List ℕ} (z : ReadyFor goal ts k best) (t : EndsIn goal ts k m)
    {first last : Transition} (df : Seen ts k first) (dl : Seen ts m last) where
  closed : Closes goal (at ts k) (at ts m) (cell best (slack (at ts k) (at ts m)) (at ts m).from)
  closed = ends-closes goal k z m t

  -- the last row has that number
  pub enough-there : asked goal (cell best (slack (at ts k) (at ts m)) (at ts m).from) ≤ cell best (slack (at ts k) (at ts m)) (at ts m).from
  enough-there = asked-most goal closed.some

  module _ {a : ℕ}
      (l : LeastRow best (at ts m).from (slack (at ts k) (at ts m)) (asked goal (cell best (slack (at ts k) (at ts m)) (at ts m).from)) a) where
    fk : InRange 32 (at ts k)
    fk = all-at none z.roomy.fine k df.known

    fm : InRange 32 (at ts m)
    fm = all-at none z.roomy.fine m dl.known

    some-there : 1 ≤ cell best a (at ts m).from
    some-there = omega (arith, l.reaches, asked-some goal closed.some)

    end-stands : Stands ts (at ts k).to best (at ts m).from a
    end-stands =
        record {
          roomy = z.roomy;
          filled = filled-less (omega (arith, l.within, z.covers m dl.known (end-possible goal t))) z.filled;
          state = fm.leaves;
          high = omega (arith, l.within, slack-small (at ts k) (at ts m) fk fm);
          some = some-there;
          least = λ b x y. l.least b x (omega (arith, y, l.reaches));
        }

    end-at : EndSum goal ts k m best (a + (at ts m).u)
    end-at =
        let above = (goal-sought goal).above (at ts k) (at ts m) _ _ closed.meets in
        let o = above-less (at ts k) (at ts m) _ (a + (at ts m).u) (slack-fits (at ts k) (at ts m) above) (omega (arith, l.within)) in
        record {
          back = record { known = dl.known; left = a; whole = refl; stands = end-stands };
          few = omega (arith, above-bound (at ts k) (at ts m) (a + (at ts m).u) 1 240 o fm.soon fk.late);
          late = cell best a (at ts m).from - 1;
          some = omega (arith, some-there);
          meets = row-meets goal (at ts k) (at ts m) _ _ closed.some l.reaches closed.meets o;
        }

  pub end-sum : {top a : ℕ} → top ≡ slack first last → LeastRow best last.from top (asked goal (cell best top last.from)) a
      → EndSum goal ts k m best (a + last.u)
  end-sum {top} {a} q r =
      let l : LeastRow best (at ts m).from (slack (at ts k) (at ts m)) (asked goal (cell best (slack (at ts k) (at ts m)) (at ts m).from)) a =
      rw (df.here, dl.here) (rw q at r) in
      rw dl.here at (end-at l)

  pub enough-here : {top x : ℕ} → top ≡ slack first last → x ≡ cell best top last.from → asked goal x ≤ cell best top last.from
  enough-here {top} q e =
      let h : asked goal (cell best (slack first last) last.from) ≤ cell best (slack first last) last.from = rw (← df.here, ← dl.here) enough-there in
      rw (e, q) h

-- the walk from that sum, with k before it
module _ {goal : Goal} {ts : List Transition} {k m : ℕ} {best : List ℕ} {sum : ℕ} (x : EndSum goal ts k m best sum) where
  abbrev sum-ends : (rest : List ℕ) → Trace ts (at ts k).to rest (at ts m).from → sum ≡ (span (steps ts rest)).u + (at ts m).u
      → cell best (span (steps ts rest)).u (at ts m).from ≡ suc (late_sum (steps ts rest)) → EndsIn goal ts k m
  sum-ends rest p u b =
      let q : x.back.left ≡ (span (steps ts rest)).u = omega (arith, x.back.whole) in
      let y = rw q at x.some in
      let above = (goal-sought goal).above (at ts k) (at ts m) sum _ x.meets in
      ends_by goal rest x.back.known p ((goal-sought goal).moves (at ts k) (at ts m) sum _ _ _ x.meets (rw u at above) (omega arith))

  -- k right before the walk, and both written from place p on
  show-walk : (p : ℕ) (old zeros back : List ℕ) (d n : ℕ) → length zeros ≡ 239 → length back ≡ 239 → Went ts (at ts k).to best m sum 239 zeros back (d + 1)
      → n + d ≡ 239 → ShownWalk goal ts k m p old (paste old p (drop d (set back d k)) n) n
  show-walk p old zeros back d n l h w e =
      let r : List ℕ = w.rest ++ (m ∷ []) in
      let z : drop 239 zeros ≡ [] = rw (← l) (drop-length zeros) in
      let t : drop (d + 1) back ≡ r = w.traced ∙ rw z (append-nil r) in
      let f : drop d (set back d k) ≡ k ∷ r = store-before d (d + 1) back k refl (omega (arith, w.number)) ∙ rw t in
      let c : length (k ∷ r) ≤ n = simp length-append (omega (arith, w.number)) in
      record {
        to = sum-ends w.rest w.path w.whole w.late;
        number = omega (arith, w.number);
        few = omega arith;
        traced = rw (f, take_all n (k ∷ r) c) (append_assoc (take p old) (k ∷ r) (drop (p + n) old));
      }

  -- with the transition and the number that the code has
  module _ {first : Transition} (df : Seen ts k first) where
    pub end_back : Back ts first.to best m sum
    end_back = rw df.here at x.back

    pub end-shown : {i p : ℕ} {old zeros back : List ℕ} (d : ℕ) {n : ℕ} → i ≡ k → length zeros ≡ 239 → length back ≡ 239
        → Went ts first.to best m sum 239 zeros back (d + 1) → n + d ≡ 239 → ShownWalk goal ts k m p old (paste old p (drop d (set back d i)) n) n
    end-shown {i} {p} {old} {zeros} {back} d {n} di l h w e =
        let v : Went ts (at ts k).to best m sum 239 zeros back (d + 1) = rw df.here w in
        rw di (show-walk p old zeros back d n l h v e)
