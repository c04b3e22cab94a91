-- Laws of the table of what is kept: how it is filled, and how many rows are looked at.
use mathlib.Core.Path.{◌≡◌, refl, sym, ◌∙◌}
use mathlib.Core.Logic.{⊎_elim, ◌↔◌, dite}
use mathlib.Core.List.{List}
use Prim.Native.Nat.{ℕ, ◌+◌, ◌*◌, ◌/◌, ◌-◌, ◌≤◌, ◌<◌, min}
use native.Mathlib.Nat.{eq-or-lt_of_le, eq-zero-or-pos}
use native.Mathlib.Omega.{arith}
use native.Mathlib.Decide.{ℕ_discrete, dec_lt}
use borrow.Author.Count.{below_more}
use lib.ListN.{length, get_or, set, replicate, length-set, length-replicate, get_or-replicate, get_or-eq_default}
use lib.Seq.{get_or-set_same, get_or-set_other}
use Rattle.model.specs.Lists.{All}
use Rattle.model.specs.Table.{Transition, InRange, at, none}
use Rattle.model.specs.Shown.{late_gap}
use Rattle.model.proofs.Lists.{all-at}
use Rattle.criterion.specs.declared.Goal.TheVariants.{Turns}
use Rattle.walks.specs.Walks.{Seen, Starts}
use Rattle.starts.specs.declared.kept.Entry.{Entry}
use Rattle.starts.specs.Kept.{Kept, Asked, Joined, Ended}
use Rattle.starts.specs.Runs.{Begins, Under}
use Rattle.starts.specs.Rows.{both, placed, cell, Blank, EndsFrom, Filled, Making, MoreRows, Covers, Ready}
use Rattle.starts.proofs.KeptLaws.{kept_same, kept-none}
use Rattle.starts.proofs.RunLaws.{run-under, run-within, run-least, under-run, under_none, kept-skip, kept-capped, kept_more, asked-law}

-- the same entry in another list
kept-cell : {Q : ℕ → ℕ → Type 0} {a b : Entry} → b.first ≡ a.first → b.letter ≡ a.letter → b.second ≡ a.second → Kept Q a → Kept Q b
kept-cell f l s k = record {
  some = k.some;
  first = λ h. rw (f, l) (k.first (omega arith));
  second = λ h. rw (s, l) (k.second (omega arith));
  most = λ x c q. omega (arith, k.most x c q);
  others = λ x c q n. omega (arith, k.others x c q (λ e. n (e ∙ sym l)));
}

-- no number is above the cap
kept_small : {Q : ℕ → ℕ → Type 0} {a : Entry} → ((x c : ℕ) → Q x c → x ≤ 61440) → Kept Q a → a.first ≤ 61440
kept_small {a = a} top k = ⊎_elim (λ e. omega arith) (λ h. top a.first a.letter (k.first h)) (eq-zero-or-pos a.first)

-- one entry stored
module _ (numbers letters : List ℕ) (p : ℕ) (r : Entry) where
  abbrev stored : ℕ → Entry
  stored = placed (set numbers p (both r)) (set letters p r.letter)

  stored_here : {Q : ℕ → ℕ → Type 0} → length letters ≡ length numbers → p < length numbers → r.first ≤ 61440 → Kept Q r → Kept Q (stored p)
  stored_here sized h l =
      let n = get_or-set_same numbers p (both r) 0 h in
      kept-cell (rw n (omega arith)) (get_or-set_same letters p r.letter 0 (omega (arith, sized))) (rw n (omega arith))

  stored_other : {Q : ℕ → ℕ → Type 0} (k : ℕ) → (k ≡ p → ⊥) → Kept Q (placed numbers letters k) → Kept Q (stored k)
  stored_other k n =
      let e = get_or-set_other numbers p k (both r) 0 n in
      kept-cell (rw e) (get_or-set_other letters p k r.letter 0 n) (rw e)

  stored-sized : length letters ≡ length numbers → length (set letters p r.letter) ≡ length (set numbers p (both r))
  stored-sized sized = simp length-set sized

  stored-blank : {k : ℕ} → p < k → Blank numbers k → Blank (set numbers p (both r)) k
  stored-blank h z = record { none = λ x l. get_or-set_other numbers p x (both r) 0 (λ e. omega arith) ∙ z.none x l }

module _ {ts : List Transition} {numbers letters : List ℕ} {b i : ℕ} (m : Making ts numbers letters b i) where
  -- nothing is stored
  making-stay : ((s : ℕ) → s < 32 → Kept (Under ts s b (i + 1)) (cell numbers letters b s)) → Making ts numbers letters b (i + 1)
  making-stay part = record { fine = m.fine; sized = m.sized; room = m.room; done = m.done; part = part; blank = m.blank }

  -- a state that transition i does not leave
  beside : (s : ℕ) → s < 32 → (s ≡ (at ts i).from → ⊥) → Kept (Under ts s b (i + 1)) (cell numbers letters b s)
  beside s l n = kept-skip (λ x c g. n (sym g.leaves)) (m.part s l)

  -- what transition i adds is stored
  module _ (h : i < length ts) (low : (at ts i).u ≤ b) {mid r : Entry}
      (j : Joined (cell numbers letters b (at ts i).from) (cell numbers letters (b - (at ts i).u) (at ts i).to) (late_gap (at ts i)) mid)
      (e : Ended mid (at ts i) (b - (at ts i).u) r) where
    abbrev p : ℕ
    p = b * 32 + (at ts i).from

    f : InRange 32 (at ts i)
    f = all-at none m.fine i h

    added : Kept (Under ts (at ts i).from b (i + 1)) r
    added = kept_more h refl low f (m.part (at ts i).from f.leaves) (m.done (b - (at ts i).u) (at ts i).to (omega (arith, f.low)) f.arrives) j e

    small : r.first ≤ 61440
    small = kept_small (λ x c u. (run-within m.fine (under-run u)).1) added

    part-put : (s : ℕ) → s < 32 → Kept (Under ts s b (i + 1)) (stored numbers letters p r (b * 32 + s))
    part-put s l =
        dite (ℕ_discrete s (at ts i).from)
        (λ (q : s ≡ (at ts i).from). rw q (stored_here numbers letters p r m.sized (omega (arith, m.room, f.leaves)) small added))
        (λ n. stored_other numbers letters p r (b * 32 + s) (λ q. n (omega arith)) (beside s l n))

    making-put : Making ts (set numbers p (both r)) (set letters p r.letter) b (i + 1)
    making-put = record {
      fine = m.fine;
      sized = stored-sized numbers letters p r m.sized;
      room = simp length-set m.room;
      done = λ a s k l. stored_other numbers letters p r (a * 32 + s) (λ q. omega arith) (m.done a s k l);
      part = part-put;
      blank = stored-blank numbers letters p r (omega (arith, f.leaves)) m.blank;
    }

  -- the ways out of a step, with the transition that the code has read
  module _ {t : Transition} (z : Seen ts i t) where
    too_long : b < t.u → (s x c : ℕ) → Begins ts s b i x c → ⊥
    too_long = rw (← z.here) (λ h s x c g. ⊎_elim (λ o. omega (arith, o.low)) (λ a. omega (arith, a.fits)) g.goes)

    pub skip-long : b < t.u → Making ts numbers letters b (i + 1)
    skip-long h = making-stay (λ s l. kept-skip (too_long h s) (m.part s l))

    capped-here : 61440 ≤ get_or numbers (b * 32 + (at ts i).from) 0 / 65536 → (s : ℕ) → s < 32 → Kept (Under ts s b (i + 1)) (cell numbers letters b s)
    capped-here h s l =
        dite (ℕ_discrete s (at ts i).from)
        (λ (q : s ≡ (at ts i).from). kept-capped m.fine (rw q h) (m.part s l))
        (beside s l)

    pub skip-full : {a : Entry} → a ≡ cell numbers letters b t.from → 61440 ≤ a.second → Making ts numbers letters b (i + 1)
    skip-full e h = making-stay (capped-here (rw z.here (rw e at h)))

    pub put-more : {a n mid r : Entry} {g : ℕ} → t.u ≤ b → a ≡ cell numbers letters b t.from → n ≡ cell numbers letters (b - t.u) t.to
        → g ≡ late_gap t → Joined a n g mid → Ended mid t (b - t.u) r
        → Making ts (set numbers (b * 32 + t.from) (both r)) (set letters (b * 32 + t.from) r.letter) b (i + 1)
    put-more l ea en eg = rw (ea, en, eg, ← z.here) (making-put z.known (rw z.here l))

    -- the places of the two entries
    pub here-there : b * 32 + t.from < length numbers
    here-there = omega (arith, m.room, z.fine.leaves)

    pub after-there : (b - t.u) * 32 + t.to < length numbers
    after-there = omega (arith, m.room, z.fine.arrives)

-- a row begins with nothing
module _ {ts : List Transition} {numbers letters : List ℕ} where
  pub making-none : {b : ℕ} → All (InRange 32) ts → length letters ≡ length numbers → b * 32 + 32 ≤ length numbers → Filled ts numbers letters b
      → Making ts numbers letters b 0
  making-none {b} fine sized room f = record {
    fine = fine;
    sized = sized;
    room = room;
    done = f.row;
    part = λ s l. kept-none (λ x c u. under_none u) (rw (f.blank.none (b * 32 + s) (omega arith))) (rw (f.blank.none (b * 32 + s) (omega arith)));
    blank = record { none = λ x h. f.blank.none x (omega arith) };
  }

  -- all transitions are done: the row is done
  pub making-end : {b i : ℕ} → length ts ≤ i → Making ts numbers letters b i → Filled ts numbers letters (b + 1)
  making-end {b} h m = record {
    row = λ a s k l. ⊎_elim
        (λ (q : a ≡ b). rw q (kept_same (λ x c. under-run) (λ x c. run-under h) (m.part s l)))
        (λ (q : a < b). m.done a s q l)
        (eq-or-lt_of_le (omega arith));
    blank = record { none = λ x k. m.blank.none x (omega arith) };
  }

  -- the rows before the first end
  pub filled_none : {i n r : ℕ} → length ts ≡ i → EndsFrom ts i n r → Blank numbers 0 → Filled ts numbers letters r
  filled_none q e z = record {
    row = λ b s h l.
        kept-none (λ x c. run-least (λ m k. e.none m (omega arith)) h) (rw (z.none (b * 32 + s) (omega arith))) (rw (z.none (b * 32 + s) (omega arith)));
    blank = record { none = λ x h. z.none x (omega arith) };
  }

module _ {ts : List Transition} {n : ℕ} where
  pub ends-from : EndsFrom ts 0 n n
  ends-from = record { most = omega arith; none = λ m h. absurd (omega arith) }

  pub ends_more : {i r x : ℕ} {t : Transition} → Seen ts i t → x ≡ min r (t.u + t.d) → EndsFrom ts i n r → EndsFrom ts (i + 1) n x
  ends_more {i} {r} {x} z q e = record {
    most = omega (arith, e.most);
    none = below_more (λ m. x ≤ (at ts m).u + (at ts m).d) i (λ m h. omega (arith, e.none m h)) (rw z.here (omega arith));
  }

-- a new list
pub blank-new : (n : ℕ) → Blank (replicate n 0) 0
blank-new n = record { none = λ x h. same 0 n x }
  where
    same : (z k x : ℕ) → get_or (replicate k z) x z ≡ z
    same z k x = dite (dec_lt x k) (get_or-replicate k x z z) (λ n. get_or-eq_default (replicate k z) z (omega (arith, length-replicate k z)))

-- the rows that are looked at
module _ {ts : List Transition} {dist : List ℕ} where
  pub covers-none : Covers ts dist 0 0
  covers-none = record { most = omega arith; enough = λ k h. absurd (omega arith) }

  pub covers_more : {i n r : ℕ} {t : Transition} → Seen ts i t → Covers ts dist i n → MoreRows dist t n r → Covers ts dist (i + 1) r
  covers_more {i} {n} {r} z c w = record {
    most = ⊎_elim (λ e. omega (arith, c.most)) (λ e. omega (arith, z.fine.late)) w.most;
    enough = below_more (λ k. 1 ≤ get_or dist (at ts k).from 0 → (at ts k).d ≤ r) i (λ k h l. omega (arith, c.enough k h l, w.more)) (rw z.here w.enough);
  }

  -- the test of a transition that leaves a marked state, as the code has read it
  module _ {numbers letters : List ℕ} (fine : All (InRange 32) ts) (y : Ready ts dist numbers letters) {k : ℕ} {t : Transition} (z : Seen ts k t)
      (marked : 1 ≤ get_or dist t.from 0) where
    rows-there : t.d ≤ y.n
    rows-there = rw z.here at (y.covers.enough k z.known (rw z.here marked))

    pub entry-there : (t.d - 1) * 32 + t.to < length numbers
    entry-there = omega (arith, rows-there, y.room, z.fine.soon, z.fine.arrives)

    pub start-law : {a : Entry} → a ≡ cell numbers letters (t.d - 1) t.to → Asked t a ↔ Starts Turns ts dist k
    start-law e =
        let p = y.filled.row (t.d - 1) t.to (omega (arith, rows-there, z.fine.soon)) z.fine.arrives in
        let l = rw z.here at (asked-law fine z.known {a = cell numbers letters (t.d - 1) t.to} (rw z.here p)) in
        rw e (
          λ q. record { arrives = record { known = z.known; to = refl; leaves = rw z.here marked }; after = l.0 q },
          λ s. l.1 s.after,
        )
