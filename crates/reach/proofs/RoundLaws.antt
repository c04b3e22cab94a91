-- Laws of breadth first: how the rounds make the marks and the ways in.
use mathlib.Core.Path.{◌≡◌, refl, sym, ap, ◌∙◌}
use mathlib.Core.Logic.{◌⊎◌, inl, inr, ⊎_elim, dite}
use mathlib.Core.List.{List, [], ◌∷◌}
use Prim.Native.Nat.{ℕ, zero, suc, ◌+◌, ◌-◌, ◌≤◌, ◌<◌}
use native.Mathlib.Decide.{dec_lt, ℕ_discrete}
use native.Mathlib.Nat.{eq-or-lt_of_le}
use native.Mathlib.Omega.{arith}
use lib.ListN.{length, set, replicate, length-set, length-replicate}
use lib.Seq.{get_or-set_same, get_or-set_other}
use Rattle.model.specs.Table.{Transition, at}
use Rattle.reach.specs.Reach.{mark, way_in, LeadsIn, Linked, Met, Breadth, StartMarks, Reach, way_to}
use Rattle.reach.specs.Rounds.{unmarked, Round, Led, led_on, led_nowhere, SameStart}
use Rattle.reach.proofs.ReachLaws.{trace-marked, way-trace}

-- a mark at a state that had none
unmarked-put : (l : List ℕ) (t x : ℕ) → t < length l → mark l t ≡ 0 → unmarked l ≡ suc (unmarked (set l t (suc x)))
unmarked-put [] t x h e = elim h [ ]
unmarked-put (y ∷ l) zero x h e = let z : y ≡ 0 = e in rw z
unmarked-put (zero ∷ l) (suc t) x h e = ap suc (unmarked-put l t x (omega arith) e)
unmarked-put (suc y ∷ l) (suc t) x h e = unmarked-put l t x (omega arith) e

unmarked-zeros : (n : ℕ) → unmarked (replicate n 0) ≡ n
unmarked-zeros zero = refl
unmarked-zeros (suc n) = ap suc (unmarked-zeros n)

-- among zeros, and past them, stands 0
zero-at : (n s : ℕ) → mark (replicate n 0) s ≡ 0
zero-at zero s = refl
zero-at (suc n) zero = refl
zero-at (suc n) (suc s) = zero-at n s

module _ (l : List ℕ) (t x : ℕ) (room : t < length l) where
  put-here : mark (set l t x) t ≡ x
  put-here = get_or-set_same l t x 0 room

  put-cases : (s : ℕ) → (s ≡ t) ⊎ (mark (set l t x) s ≡ mark l s)
  put-cases s = dite (ℕ_discrete s t) inl (λ n. inr (get_or-set_other l t s x 0 n))

  put-kept : mark l t ≡ 0 → (s : ℕ) → 1 ≤ mark l s → mark (set l t x) s ≡ mark l s
  put-kept bare s h = ⊎_elim (λ (e : s ≡ t). absurd (omega (arith, ap (mark l) e))) (λ k. k) (put-cases s)

  -- a mark that differs from the new one was there before
  put-below : mark l t ≡ 0 → (s k : ℕ) → k < x → mark (set l t x) s ≡ k → mark l s ≡ k
  put-below bare s k h e = ⊎_elim (λ (q : s ≡ t). absurd (omega (arith, ap (mark (set l t x)) q, put-here))) (λ q. sym q ∙ e) (put-cases s)

pub same_refl : (a : List ℕ) → SameStart a a
same_refl a = record { same = λ s. (λ e. e, λ e. e) }

pub same-trans : {a b c : List ℕ} → SameStart a b → SameStart b c → SameStart a c
same-trans p q = record { same = λ s. (λ e. (p.same s).0 ((q.same s).0 e), λ e. (q.same s).1 ((p.same s).1 e)) }

pub start-kept : {a b : List ℕ} {initial : ℕ} → SameStart a b → StartMarks initial a → StartMarks initial b
start-kept p start s = (λ e. (start s).0 ((p.same s).0 e), λ e. (p.same s).1 ((start s).1 e))

-- transition i in round r
module _ {ts : List Transition} {dist via : List ℕ} {r i top : ℕ} (round : Round ts dist via r i top) where
  -- it marks its arrival
  module _ (known : i < length ts) (near : (at ts i).to < 32) (from : mark dist (at ts i).from ≡ r) (bare : mark dist (at ts i).to ≡ 0) where
    abbrev t : ℕ
    t = (at ts i).to

    abbrev new : List ℕ
    new = set dist t (r + 1)

    abbrev ways : List ℕ
    ways = set via t i

    room-dist : t < length dist
    room-dist = omega (arith, round.linked.marks)

    room-via : t < length via
    room-via = omega (arith, round.linked.ways)

    kept : (s : ℕ) → 1 ≤ mark dist s → mark new s ≡ mark dist s
    kept = put-kept dist t (r + 1) room-dist bare

    met-kept : (u : Transition) → 1 ≤ mark dist u.from → Met dist u → Met new u
    met-kept u h m = record {
      reached = omega (arith, m.reached, kept u.to m.reached);
      near = omega (arith, m.near, kept u.to m.reached, kept u.from h);
    }

    met-here : Met new (at ts i)
    met-here = record {
      reached = omega (arith, put-here dist t (r + 1) room-dist);
      near = omega (arith, put-here dist t (r + 1) room-dist, kept (at ts i).from (omega (arith, round.low)), from);
    }

    back-here : (k : ℕ) → mark new t ≡ suc (suc k) → LeadsIn ts new (way_in ways t) t (suc k)
    back-here k q =
        let e : way_in ways t ≡ i = get_or-set_same via t i 0 room-via in
        rw e (record {
          known = known;
          arrives = refl;
          leaves = omega (arith, kept (at ts i).from (omega (arith, round.low)), put-here dist t (r + 1) room-dist, from);
        })

    back-other : (s k : ℕ) → (s ≡ t → ⊥) → mark new s ≡ suc (suc k) → LeadsIn ts new (way_in ways s) s (suc k)
    back-other s k n q =
        let e : way_in ways s ≡ way_in via s = get_or-set_other via t s i 0 n in
        let b : LeadsIn ts dist (way_in via s) s (suc k) = round.linked.back s k (sym (get_or-set_other dist t s (r + 1) 0 n) ∙ q) in
        rw e (record {
          known = b.known;
          arrives = b.arrives;
          leaves = kept (at ts (way_in via s)).from (omega (arith, b.leaves)) ∙ b.leaves;
        })

    -- the first to arrive is the lowest: one below it would have marked t before
    lowest-here : (k j : ℕ) → mark new t ≡ suc (suc k) → LeadsIn ts new j t (suc k) → way_in ways t ≤ j
    lowest-here k j q b =
        let e : way_in ways t ≡ i = get_or-set_same via t i 0 room-via in
        let r' : mark dist (at ts j).from ≡ r = put-below dist t (r + 1) room-dist bare (at ts j).from r (omega arith)
        (omega (arith, b.leaves, put-here dist t (r + 1) room-dist)) in
        rw e (dite (dec_lt j i) (λ l. absurd (omega (arith, (round.part j l r').reached, ap (mark dist) b.arrives))) (λ n. omega arith))

    lowest-other : (s k j : ℕ) → (s ≡ t → ⊥) → mark new s ≡ suc (suc k) → LeadsIn ts new j s (suc k) → way_in ways s ≤ j
    lowest-other s k j n q b =
        let e : way_in ways s ≡ way_in via s = get_or-set_other via t s i 0 n in
        let m : mark dist s ≡ suc (suc k) = sym (get_or-set_other dist t s (r + 1) 0 n) ∙ q in
        rw e (round.linked.lowest s k j m (record {
          known = b.known;
          arrives = b.arrives;
          leaves = put-below dist t (r + 1) room-dist bare (at ts j).from (suc k) (omega (arith, round.most s, round.near)) b.leaves;
        }))

    idle-on : (s : ℕ) → mark new s ≤ 1 → way_in ways s ≡ 0
    idle-on s h =
        dite (ℕ_discrete s t) (λ (e : s ≡ t). absurd (omega (arith, ap (mark new) e, put-here dist t (r + 1) room-dist, round.low)))
        (λ n. get_or-set_other via t s i 0 n ∙ round.linked.idle s (omega (arith, get_or-set_other dist t s (r + 1) 0 n)))

    linked_on : Linked ts new ways
    linked_on = record {
      marks = length-set dist t (r + 1) ∙ round.linked.marks;
      ways = length-set via t i ∙ round.linked.ways;
      back = λ s k q. dite (ℕ_discrete s t) (λ (e : s ≡ t). rw e (back-here k (rw e at q))) (λ n. back-other s k n q);
      lowest = λ s k j q b.
          dite (ℕ_discrete s t) (λ (e : s ≡ t). rw e (lowest-here k j (rw e at q) (rw e at b))) (λ n. lowest-other s k j n q b);
      idle = idle-on;
    }

    round-on : Round ts new ways r (i + 1) (r + 1)
    round-on = record {
      linked = linked_on;
      low = round.low;
      near = omega arith;
      most = λ s. ⊎_elim (λ (e : s ≡ t). rw e (omega (arith, put-here dist t (r + 1) room-dist))) (λ q. omega (arith, q, round.most s, round.near))
          (put-cases dist t (r + 1) room-dist s);
      done = λ j h p q.
          let f : ℕ = (at ts j).from in
          let e : mark dist f ≡ mark new f = put-below dist t (r + 1) room-dist bare f (mark new f) (omega arith) refl in
          met-kept (at ts j) (omega arith) (round.done j h (omega arith) (omega arith));
      part = λ j h q.
          let e : mark dist (at ts j).from ≡ r = put-below dist t (r + 1) room-dist bare (at ts j).from r (omega arith) q in
          ⊎_elim (λ (z : j ≡ i). rw z met-here) (λ (l : j < i). met-kept (at ts j) (omega (arith, round.low)) (round.part j l e))
          (eq-or-lt_of_le (omega arith));
      room =
          let z : r + 1 ≡ suc r = omega arith in
          rw z (omega (arith, unmarked-put dist t r room-dist bare, round.room, round.near, round.most (at ts i).from));
    }

    same-on : SameStart dist new
    same-on = record { same = λ s. (put-below dist t (r + 1) room-dist bare s 1 (omega (arith, round.low)), λ e. kept s (omega arith) ∙ e) }

  -- it does nothing
  round-past : (mark dist (at ts i).from ≡ r → 1 ≤ mark dist (at ts i).to) → Round ts dist via r (i + 1) top
  round-past met = record {
    linked = round.linked;
    low = round.low;
    near = round.near;
    most = round.most;
    done = round.done;
    part = λ j h q.
        ⊎_elim (λ (z : j ≡ i). rw z (met_of (rw z at q))) (λ (l : j < i). round.part j l q) (eq-or-lt_of_le (omega arith));
    room = round.room;
  }
    where
      met_of : mark dist (at ts i).from ≡ r → Met dist (at ts i)
      met_of q = record { reached = met q; near = omega (arith, round.near, round.most (at ts i).to) }

  -- what it does, said of the row that was read
  pub led-round : {u : Transition} → u ≡ at ts i → i < length ts → (at ts i).to < 32 → {dist' via' : List ℕ} {top' : ℕ} → Led u i r top dist via dist' via' top'
      → Round ts dist' via' r (i + 1) top' × SameStart dist dist'
  led-round {u} e h n l = by (rw e at l)
    where
      by : {dist' via' : List ℕ} {top' : ℕ} → Led (at ts i) i r top dist via dist' via' top' → Round ts dist' via' r (i + 1) top' × SameStart dist dist'
      by (led_on from bare) = (round-on h n from bare, same-on h n from bare)
      by (led_nowhere met) = (round-past met, same_refl dist)

module _ {ts : List Transition} {dist via : List ℕ} {r top : ℕ} where
  -- a round is over
  pub round-over : Round ts dist via r (length ts) top → Round ts dist via (r + 1) 0 top
  round-over round = record {
    linked = round.linked;
    low = omega arith;
    near = omega (arith, round.near);
    most = round.most;
    done = λ j h p q. ⊎_elim (λ (z : mark dist (at ts j).from ≡ r). round.part j h z) (λ (l : mark dist (at ts j).from < r). round.done j h p l)
        (eq-or-lt_of_le (omega arith));
    part = λ j h q. absurd (omega arith);
    room = round.room;
  }

-- the first round begins with the initial state alone
module _ (ts : List Transition) (dist via : List ℕ) (initial : ℕ) (fresh : dist ≡ replicate 32 0) (none : via ≡ replicate 32 0) (inside : initial < 32) where
  abbrev first : List ℕ
  first = set dist initial 1

  wide : length dist ≡ 32
  wide = rw fresh (length-replicate {A = ℕ} 32 0)

  bare : (s : ℕ) → mark dist s ≡ 0
  bare s = rw fresh (zero-at 32 s)

  room-first : initial < length dist
  room-first = omega (arith, wide)

  pub first_marks : StartMarks initial first
  first_marks s = (
    λ e. ⊎_elim (λ q. q) (λ k. absurd (omega (arith, bare s))) (put-cases dist initial 1 room-first s),
    λ e. rw e (put-here dist initial 1 room-first),
  )

  first-most : (s : ℕ) → mark first s ≤ 1
  first-most s =
      ⊎_elim (λ (e : s ≡ initial). omega (arith, (first_marks s).1 e)) (λ k. omega (arith, bare s)) (put-cases dist initial 1 room-first s)

  unmarked-all : unmarked dist ≡ 32
  unmarked-all = rw fresh (unmarked-zeros 32)

  pub first_round : Round ts first via 1 0 1
  first_round = record {
    linked = record {
      marks = length-set dist initial 1 ∙ wide;
      ways = rw none (length-replicate {A = ℕ} 32 0);
      back = λ s k q. absurd (omega (arith, first-most s));
      lowest = λ s k j q b. absurd (omega (arith, first-most s));
      idle = λ s h. rw none (zero-at 32 s);
    };
    low = omega arith;
    near = omega arith;
    most = first-most;
    done = λ j h p q. absurd (omega arith);
    part = λ j h q. absurd (omega arith);
    room = omega (arith, unmarked-put dist initial 0 room-first (bare initial), unmarked-all);
  }

-- the rounds are over: every state with a mark was looked at
module _ {ts : List Transition} {initial : ℕ} {dist via : List ℕ} {r top : ℕ} where
  pub rounds-reach : Round ts dist via r 0 top → top < r → StartMarks initial dist → Reach ts initial dist via
  rounds-reach round over start = record {
    linked = round.linked;
    start = start;
    most = λ s. omega (arith, round.most s, round.room);
    breadth = breadth;
    tells = λ e. (
      λ h. record {
        way = way_to ts dist via e;
        path = way-trace ts via round.linked initial (λ s. (start s).0) (mark dist e - 1) e (omega arith);
      },
      λ w. (trace-marked ts dist breadth initial e w.way (omega (arith, (start initial).1 refl)) w.path).0,
    );
  }
    where
      breadth : Breadth ts dist
      breadth i h p = round.done i h p (omega (arith, round.most (at ts i).from))
