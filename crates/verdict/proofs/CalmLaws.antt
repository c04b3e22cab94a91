-- The look back: from the last step to the first, one number more at each.
use mathlib.Core.Path.{◌≡◌, refl, sym, ap, ◌∙◌}
use mathlib.Core.Logic.{dite}
use mathlib.Core.Bool.{Bool, true, false}
use mathlib.Core.List.{List, []}
use Prim.Native.Nat.{ℕ, suc, ◌+◌, ◌*◌, ◌-◌, ◌/◌, ◌%◌, ◌≤◌, ◌<◌}
use native.Mathlib.Omega.{arith}
use native.Mathlib.Decide.{ℕ_discrete}
use lib.ListN.{length, get_or, set, drop, length-set, length-drop, drop_of_length-le}
use lib.Seq.{get_or-set_same, get_or-set_other, drop-cons}
use Rattle.model.specs.Lists.{total}
use Rattle.model.specs.Table.{Transition, InRange, at, none}
use Rattle.model.proofs.Lists.{all-at, all_drop}
use Rattle.table.specs.declared.Row.{Row}
use Rattle.table.specs.Rows.{row_of, said}
use Rattle.verdict.specs.declared.line.Line.{Line}
use Rattle.verdict.specs.Line.{along}
use Rattle.verdict.proofs.LineLaws.{fine, length-along, step-along}
use Rattle.verdict.specs.declared.calm.Soon.{Soon}
use Rattle.verdict.specs.Times.{number_of, Numbered}
use Rattle.verdict.specs.Calm.{Over, standing, Calm, Seen, LookedBack}
use Rattle.verdict.proofs.PairLaws.{sums-small}

-- the look back stands before step p
pub record Looking (number : ℕ → ℕ) (n : ℕ) (lows : List ℕ) (calm : List Bool) (s : Soon) (first p : ℕ) : Type 0 where
  pub within : p ≤ n
  pub over : (j : ℕ) → p ≤ j → j < n → Over s (number j)
  pub seen : Seen number n lows calm p
  pub near : first ≤ n
  pub before : (k : ℕ) → p ≤ k → k < first → Calm number n k

-- no step was looked at
pub looking-none : (number : ℕ → ℕ) {n : ℕ} (lows : List ℕ) (calm : List Bool) (s : Soon) → n ≤ 512 → length lows ≡ 64 → length calm ≡ 512
    → Looking number n lows calm s n n
looking-none number {n} lows calm s few a b = record {
  within = omega arith;
  over = λ j x y. absurd (omega arith);
  seen = record {
    few = few;
    lows_size = a;
    calm_size = b;
    low = λ i j x y z. absurd (omega arith);
    still = λ k x y w. absurd (omega arith);
  };
  near = omega arith;
  before = λ k x y. absurd (omega arith);
}

-- the code looks at step p, which was p - 1 before, and whose number is e
module _ {number : ℕ → ℕ} {n : ℕ} {lows : List ℕ} {calm : List Bool} {s : Soon} {first q : ℕ} (l : Looking number n lows calm s first q) (h : 0 < q)
    {e : ℕ} (is : e ≡ number (q - 1)) (b : Bool) (tells : b ≡ true → (x : ℕ) → Over s x → (x % 256 ≡ e % 256 → ⊥) → e - e % 256 ≤ x)
    (t : Soon) (more : Over t e × ((x : ℕ) → Over s x → Over t x)) (f : ℕ) (leads : (b ≡ true → f ≡ first) × (b ≡ false → f ≡ q - 1)) where
  abbrev p : ℕ
  p = q - 1

  over-more : (j : ℕ) → p ≤ j → j < n → Over t (number j)
  over-more j a c = dite (ℕ_discrete j p) (λ i. rw (i, ← is) more.0) (λ d. more.1 _ (l.over j (omega arith) c))

  calm-here : b ≡ true → Calm number n p
  calm-here w = record { none = λ m g i. (rw is at tells) w _ (l.over m (omega arith) i) }

  still-more : (k : ℕ) → p ≤ k → k < n → get_or (set calm p b) k false ≡ true → Calm number n k
  still-more k a c = dite (ℕ_discrete k p)
      (λ i w. rw i (calm-here (rw (i, get_or-set_same calm p b false (omega (arith, l.seen.calm_size, l.seen.few, l.within))) at w)))
      (λ d w. l.seen.still k (omega arith) c (rw (get_or-set_other calm p k b false d) at w))

  before_more : (k : ℕ) → p ≤ k → k < f → Calm number n k
  before_more = by b refl
    where
      by : (x : Bool) → b ≡ x → (k : ℕ) → p ≤ k → k < f → Calm number n k
      by true w k a c = dite (ℕ_discrete k p) (λ i. rw i (calm-here w)) (λ d. l.before k (omega arith) (omega (arith, leads.0 w)))
      by false w k a c = absurd (omega (arith, leads.1 w))

  near-more : f ≤ n
  near-more = by b refl
    where
      by : (x : Bool) → b ≡ x → f ≤ n
      by true w = omega (arith, leads.0 w, l.near)
      by false w = omega (arith, leads.1 w, l.within)

  -- in the middle of a block
  pub looking-more : (p % 8 ≡ 0 → ⊥) → Looking number n lows (set calm p b) t f p
  looking-more d = record {
    within = omega (arith, l.within);
    over = over-more;
    seen = record {
      few = l.seen.few;
      lows_size = l.seen.lows_size;
      calm_size = length-set calm p b ∙ l.seen.calm_size;
      low = λ i j a c f. l.seen.low i j (omega (arith, d)) c f;
      still = still-more;
    };
    near = near-more;
    before = before_more;
  }

  -- at its first step
  pub looking-block : p % 8 ≡ 0 → Looking number n (set lows (p / 8) t.first) (set calm p b) t f p
  looking-block z = record {
    within = omega (arith, l.within);
    over = over-more;
    seen = record {
      few = l.seen.few;
      lows_size = length-set lows (p / 8) t.first ∙ l.seen.lows_size;
      calm_size = length-set calm p b ∙ l.seen.calm_size;
      low = λ i j a c f. dite (ℕ_discrete i (p / 8))
          (λ e. rw (e, get_or-set_same lows (p / 8) t.first 0 (omega (arith, l.seen.lows_size, l.seen.few, l.within)))
          (over-more j (omega arith) f).first)
          (λ d. rw (get_or-set_other lows (p / 8) i t.first 0 d) (l.seen.low i j (omega arith) c f));
      still = still-more;
    };
    near = near-more;
    before = before_more;
  }

-- the sum over the steps from p on, by its first
sum-from : (f : Transition → ℕ) (l : List Transition) (p : ℕ) → p < length l → total f (drop p l) ≡ f (at l p) + total f (drop (suc p) l)
sum-from f l p h = rw (drop-cons l p none h)

-- step p arrives at `arrival`, counted back, and the numbers of the later steps are filled in
pub record Back (o : Line) (early : List ℕ) (arrival p : ℕ) : Type 0 where
  pub within : p ≤ length o.trace.now
  pub time : arrival + total (λ t. t.u) (drop p (along o)) ≡ 2096640
  pub numbers : Numbered (along o) early p

module _ {o : Line} {early : List ℕ} where
  pub back_none : length early ≡ 512 → Back o early 2096640 (length o.trace.now)
  back_none size =
      let e : drop (length o.trace.now) (along o) ≡ [] = drop_of_length-le (along o) {i = length o.trace.now} (omega (arith, length-along o)) in
      record {
        within = omega arith;
        time = rw e (omega arith);
        numbers = record { size = size; is = λ j a b. absurd (omega (arith, length-along o)) };
      }

  -- the code looks at step p, whose row is s
  module _ {arrival q : ℕ} (b : Back o early arrival q) (h : 0 < q) (s : Row) (read : s ≡ row_of o.rows.now (get_or o.trace.now (q - 1) 0)) where
    abbrev tr : List Transition
    tr = along o

    inside : q - 1 < length tr
    inside = omega (arith, length-along o, b.within)

    es : said s ≡ at tr (q - 1)
    es = step-along o (q - 1) (omega (arith, b.within)) s read

    here : InRange 32 (at tr (q - 1))
    here = all-at none (fine o) (q - 1) inside

    later : arrival + total (λ t. t.u) (drop (suc (q - 1)) tr) ≡ 2096640
    later = let z : suc (q - 1) ≡ q = omega arith in rw z b.time

    -- no sum is more than 512 lower bounds can be
    pub back-small : (s.u ≤ arrival) × (arrival ≤ 2096640) × (s.d ≤ 240) × (s.output ≤ 255)
    back-small = omega (
      arith,
      later,
      sum-from (λ t. t.u) tr (q - 1) inside,
      sums-small (all_drop (q - 1) (fine o)) (omega (arith, length-drop (q - 1) tr, length-along o, o.few)),
      ap (λ t. t.u) es,
      ap (λ t. t.d) es,
      ap (λ t. t.output) es,
      here.late,
      here.answers,
    )

    pub number-here : (e : ℕ) → e ≡ (arrival + s.d) * 256 + s.output → e ≡ number_of tr (q - 1)
    number-here e is = omega (arith, is, later, ap (λ t. t.d) es, ap (λ t. t.output) es)

    pub back_more : (e : ℕ) → e ≡ (arrival + s.d) * 256 + s.output → Back o (set early (q - 1) e) (arrival - s.u) (q - 1)
    back_more e is = record {
      within = omega (arith, b.within);
      time = omega (arith, back-small, later, sum-from (λ t. t.u) tr (q - 1) inside, ap (λ t. t.u) es);
      numbers = record {
        size = length-set early (q - 1) e ∙ b.numbers.size;
        is = λ j x y. dite (ℕ_discrete j (q - 1))
            (λ i. rw (i, get_or-set_same early (q - 1) e 0 (omega (arith, b.numbers.size, inside, length-along o, o.few))) (number-here e is))
            (λ d. rw (get_or-set_other early (q - 1) j e 0 d) (b.numbers.is j (omega arith) y));
      };
    }

-- the numbers stand in the list
calm-standing : {tr : List Transition} {early : List ℕ} {k : ℕ} → Numbered tr early 0 → k < length tr → Calm (number_of tr) (length tr) k
    → Calm (standing early) (length tr) k
calm-standing {k = k} s h c =
    record { none = λ m a b. rw (s.is k (omega arith) h, s.is m (omega arith) b) (c.none m a b) }

-- all steps were looked at
pub looked-back : {o : Line} {early lows : List ℕ} {calm : List Bool} {s : Soon} {first arrival : ℕ} → Back o early arrival 0
    → Looking (number_of (along o)) (length o.trace.now) lows calm s first 0 → LookedBack (along o) early lows calm first
looked-back {o} {early} {lows} {calm} {first = first} b k =
    let n : length o.trace.now ≡ length (along o) = sym (length-along o) in
    let seen : Seen (number_of (along o)) (length (along o)) lows calm 0 = rw n at k.seen in
    let before : (i : ℕ) → 0 ≤ i → i < first → Calm (number_of (along o)) (length (along o)) i = rw n at k.before in
    record {
      numbers = b.numbers;
      seen = record {
        few = seen.few;
        lows_size = seen.lows_size;
        calm_size = seen.calm_size;
        low = λ i j a x y. rw (b.numbers.is j (omega arith) y) (seen.low i j a x y);
        still = λ i a x w. calm-standing b.numbers x (seen.still i a x w);
      };
      within = omega (arith, n, k.near);
      before = λ i h. calm-standing b.numbers (omega (arith, n, k.near)) (before i (omega arith) h);
    }
