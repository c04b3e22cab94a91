-- Laws of the marks and the ways in: what they tell of traces, and how a way is written.
use mathlib.Core.Path.{◌≡◌, refl, sym, ap, ◌∙◌}
use mathlib.Core.List.{List, [], ◌∷◌, ◌++◌, append_assoc}
use Prim.Native.Nat.{ℕ, zero, suc, ◌+◌, ◌-◌, ◌≤◌, ◌<◌}
use native.Mathlib.Omega.{arith}
use borrow.Author.Tests.{lt-ltb, le-ltb}
use lib.ListN.{length, get_or, set, take, drop, length-append}
use lib.Seq.{take-suc, set_at, length-take-le}
use Rattle.table.specs.declared.Row.{Row}
use Rattle.model.specs.Lists.{All, all_nil, all_cons}
use Rattle.model.specs.Table.{Transition, Valid, at}
use Rattle.model.specs.Trace.{Trace}
use Rattle.model.proofs.Lists.{all_append, all_map, all-at}
use Rattle.model.proofs.Paths.{trace-append}
use Rattle.table.specs.declared.Table.{Table}
use Rattle.table.specs.Rows.{rows, row_of, said, machine_of}
use Rattle.table.specs.Fit.{Sound}
use Rattle.table.specs.Tests.{Test, Passes}
use Rattle.table.proofs.RowLaws.{length-rows}
use Rattle.table.proofs.FitLaws.{row-said, valid-sound}
use Rattle.table.proofs.TestLaws.{valid-count}
use Rattle.reach.specs.Reach.{mark, way_in, LeadsIn, Linked, Met, Breadth, Reach, after_limits, way_back, way_to, way_within, WayStands}

-- a valid table passes the tests of a search, so that the other tests decide
pub valid-limits : (t : Table) → Valid (machine_of t) → (more : List Test) → Passes more → Passes (after_limits t.cells t.count t.initial more)
valid-limits t v more p =
    let few = valid-count t v in
    (few, (record { sound = valid-sound t few v; inside = omega (arith, v.starts, v.most) }, p))

-- what the marks tell of traces
module _ (ts : List Transition) (dist : List ℕ) (breadth : Breadth ts dist) where
  -- a trace from a marked state leads to a marked one, whose mark rises by at most one a step
  pub trace-marked : (s e : ℕ) (l : List ℕ) → 1 ≤ mark dist s → Trace ts s l e → (1 ≤ mark dist e) × (mark dist e ≤ mark dist s + length l)
  trace-marked s e [] h p = (rw p at h, omega (arith, ap (mark dist) p))
  trace-marked s e (i ∷ l) h p =
      let from : 1 ≤ mark dist (at ts i).from = rw p.1 h in
      let m : Met dist (at ts i) = breadth i p.0 from in
      let r : (1 ≤ mark dist e) × (mark dist e ≤ mark dist (at ts i).to + length l) = trace-marked (at ts i).to e l m.reached p.2 in
      (r.0, omega (arith, m.near, ap (mark dist) p.1))

pub way-length : (t : ℕ → Transition) (via : List ℕ) (n s : ℕ) → length (way_back t via n s) ≡ n
unfolding way_back
way-length t via zero s = refl
way-length t via (suc n) s = simp length-append (omega (arith, way-length t via n (t (way_in via s)).from))

-- the way back by the ways in
module _ (ts : List Transition) (via : List ℕ) {dist : List ℕ} (linked : Linked ts dist via) where
  pub way-trace : (initial : ℕ) → ((s : ℕ) → mark dist s ≡ 1 → s ≡ initial) → (n s : ℕ) → mark dist s ≡ suc n → Trace ts initial (way_back (at ts) via n s) s
  unfolding way_back
  way-trace initial only zero s e = sym (only s e)
  way-trace initial only (suc n) s e =
      let b : LeadsIn ts dist (way_in via s) s (suc n) = linked.back s n e in
      trace-append ts initial (at ts (way_in via s)).from s (way_back (at ts) via n (at ts (way_in via s)).from) (way_in via s ∷ [])
      (way-trace initial only n (at ts (way_in via s)).from b.leaves) (b.known, refl, b.arrives)

  -- each step of the way leaves a state that is nearer
  way-nearer : (n s : ℕ) → mark dist s ≡ suc n → All (λ i. mark dist (at ts i).from ≤ n) (way_back (at ts) via n s)
  unfolding way_back
  way-nearer zero s e = all_nil
  way-nearer (suc n) s e =
      let b : LeadsIn ts dist (way_in via s) s (suc n) = linked.back s n e in
      all_append (all_map (λ i h. omega arith) (way-nearer n (at ts (way_in via s)).from b.leaves)) (all_cons (omega (arith, b.leaves)) all_nil)

  -- it is the same by another table that has these transitions
  way_same : (t : ℕ → Transition) → ((i : ℕ) → i < length ts → t i ≡ at ts i) → (n s : ℕ) → mark dist s ≡ suc n → way_back t via n s ≡ way_back (at ts) via n s
  unfolding way_back
  way_same t same zero s e = refl
  way_same t same (suc n) s e =
      let b : LeadsIn ts dist (way_in via s) s (suc n) = linked.back s n e in
      rw (same (way_in via s) b.known, way_same t same n (at ts (way_in via s)).from b.leaves)

-- what a caller learns of a reached state
module _ {ts : List Transition} {initial : ℕ} {dist via : List ℕ} (reach : Reach ts initial dist via) (s : ℕ) where
  -- no trace from the initial state to s has fewer steps than the mark says
  pub mark-least : (l : List ℕ) → Trace ts initial l s → mark dist s ≤ suc (length l)
  mark-least l p =
      let one : mark dist initial ≡ 1 = (reach.start initial).1 refl in
      omega (arith, (trace-marked ts dist reach.breadth initial s l (omega arith) p).1)

  module _ (marked : 1 ≤ mark dist s) where
    pub way-path : Trace ts initial (way_to ts dist via s) s
    way-path = way-trace ts via reach.linked initial (λ e. (reach.start e).0) (mark dist s - 1) s (omega arith)

    pub way-few : length (way_to ts dist via s) ≤ 31
    way-few = omega (arith, way-length (at ts) via (mark dist s - 1) s, reach.most s)

    -- no step of the way leaves s
    way-elsewhere : All (λ i. (at ts i).from ≡ s → ⊥) (way_to ts dist via s)
    way-elsewhere = all_map (λ i h e. omega (arith, ap (mark dist) e)) (way-nearer ts via reach.linked (mark dist s - 1) s (omega arith))

    -- so that a transition that leaves s is no step of the way
    pub way-fresh : (i : ℕ) → (at ts i).from ≡ s → (x : ℕ) → x < length (way_to ts dist via s) → get_or (way_to ts dist via s) x 0 ≡ i → ⊥
    way-fresh i q x h e = all-at 0 way-elsewhere x h (ap (λ j. (at ts j).from) e ∙ q)

-- the way in the writing, from its end: the last steps stand, the first n are to come
module _ (t : ℕ → Transition) (via trace₀ : List ℕ) (steps end : ℕ) where
  pub record Written (trace : List ℕ) (n s : ℕ) : Type 0 where
    pub rest : List ℕ
    pub joined : way_back t via steps end ≡ way_back t via n s ++ rest
    pub stands : trace ≡ take n trace₀ ++ (rest ++ drop steps trace₀)

  pub written-more : (trace : List ℕ) (n s : ℕ) → 1 ≤ n → n ≤ length trace₀ → Written trace n s
      → Written (set trace (n - 1) (way_in via s)) (n - 1) (t (way_in via s)).from
  unfolding way_back
  written-more trace zero s h room w = absurd (omega arith)
  written-more trace (suc m) s h room w =
      let z : suc m - 1 ≡ m = omega arith in
      rw z (record {
        rest = way_in via s ∷ w.rest;
        joined = w.joined ∙ append_assoc (way_back t via m (t (way_in via s)).from) (way_in via s ∷ []) w.rest;
        stands = rw (w.stands, take-suc trace₀ m 0 room, append_assoc)
            (set_at (take m trace₀) (get_or trace₀ m 0) (w.rest ++ drop steps trace₀) (way_in via s) m (length-take-le m trace₀ (omega arith)));
      })

  pub written_all : (trace : List ℕ) (s : ℕ) → Written trace 0 s → trace ≡ way_back t via steps end ++ drop steps trace₀
  unfolding way_back
  written_all trace s w = rw w.joined w.stands

-- which way is written
module _ (cells : List Row) (dist via : List ℕ) (s places : ℕ) where
  abbrev whole : List ℕ
  whole = way_back (λ i. said (row_of cells i)) via (mark dist s - 1) s

  pub within-room : mark dist s - 1 ≤ places → way_within cells dist via s places ≡ whole
  unfolding way_within
  within-room h = rw (le-ltb places (mark dist s - 1) h)

  pub within-short : places < mark dist s - 1 → way_within cells dist via s places ≡ []
  unfolding way_within
  within-short h = rw (lt-ltb places (mark dist s - 1) h)

module _ (cells : List Row) (dist via : List ℕ) (s : ℕ) (trace₀ : List ℕ) where
  -- nothing is written
  pub stands-none : way_within cells dist via s (length trace₀) ≡ [] → WayStands cells dist via s trace₀ trace₀ 0
  stands-none e = record { number = rw e; traced = rw e }

  pub stands-whole : (trace : List ℕ) → mark dist s - 1 ≤ length trace₀
      → trace ≡ way_back (λ i. said (row_of cells i)) via (mark dist s - 1) s ++ drop (mark dist s - 1) trace₀
      → WayStands cells dist via s trace₀ trace (mark dist s - 1)
  stands-whole trace h e = record {
    number = rw (within-room cells dist via s (length trace₀) h) (sym (way-length (λ i. said (row_of cells i)) via (mark dist s - 1) s));
    traced = rw (within-room cells dist via s (length trace₀) h) e;
  }

-- with room for it, the way of the numbers in the cells is the way of the transitions
module _ {cells : List Row} {count : ℕ} (sound : Sound cells count) {dist via : List ℕ} (linked : Linked (rows cells count) dist via) where
  pub within-way : (s places : ℕ) → 1 ≤ mark dist s → mark dist s - 1 ≤ places → way_within cells dist via s places ≡ way_to (rows cells count) dist via s
  within-way s places marked room =
      within-room cells dist via s places room
      ∙ way_same (rows cells count) via linked (λ i. said (row_of cells i)) (λ i h. row-said sound i (omega (arith, length-rows cells count)) refl)
      (mark dist s - 1) s (omega arith)

-- the way that is written to a reached state is a trace from the initial state, of at most 31 steps
pub record WayShown (ts : List Transition) (initial : ℕ) (dist via : List ℕ) (s : ℕ) (trace₀ trace : List ℕ) (n : ℕ) : Type 0 where
  pub path : Trace ts initial (way_to ts dist via s) s
  pub number : n ≡ length (way_to ts dist via s)
  pub distance : n ≡ mark dist s - 1
  pub few : n ≤ 31
  pub traced : trace ≡ way_to ts dist via s ++ drop n trace₀

module _ {cells : List Row} {count : ℕ} (sound : Sound cells count) {initial : ℕ} {dist via : List ℕ} (reach : Reach (rows cells count) initial dist via) where
  pub way-shown : {s : ℕ} {trace₀ trace : List ℕ} {n : ℕ} → 1 ≤ mark dist s → 31 ≤ length trace₀ → WayStands cells dist via s trace₀ trace n
      → WayShown (rows cells count) initial dist via s trace₀ trace n
  way-shown {s} {trace₀} {trace} {n} marked room w =
      let e : way_within cells dist via s (length trace₀) ≡ way_to (rows cells count) dist via s =
      within-way sound reach.linked s (length trace₀) marked (omega (arith, reach.most s)) in
      let k : n ≡ length (way_to (rows cells count) dist via s) = w.number ∙ ap length e in
      record {
        path = way-path reach s marked;
        number = k;
        distance = k ∙ way-length (at (rows cells count)) via (mark dist s - 1) s;
        few = omega (arith, way-few reach s marked);
        traced = rw e at w.traced;
      }
