-- Laws of the least sums, and that a table whose transitions are calm is in order.
use mathlib.Core.Path.{◌≡◌, refl, sym, ap, ◌∙◌}
use mathlib.Core.Bool.{Bool, true, false}
use mathlib.Core.Logic.{⊎_elim, dite}
use mathlib.Core.List.{List}
use Prim.Native.Nat.{ℕ, ◌+◌, ◌%◌, min, ◌≤◌, ◌<◌}
use native.Mathlib.Decide.{ℕ_discrete, dec_lt}
use native.Mathlib.Nat.{eq-or-lt_of_le}
use native.Mathlib.Omega.{arith}
use borrow.Author.Count.{below_more}
use lib.ListN.{length, get_or, set, replicate, length-set, get_or-replicate}
use lib.Seq.{get_or-set_same, get_or-set_other}
use Rattle.std.proofs.lemmas.List.{get_or_default}
use Rattle.table.specs.declared.Row.{Row}
use Rattle.model.specs.Answers.{Tells}
use Rattle.model.specs.Table.{Transition, Machine, Valid, at}
use Rattle.model.specs.Verdict.{TableOvertakes}
use Rattle.model.proofs.Neighbours.{next-law, next-in-ticks}
use Rattle.table.specs.Rows.{rows, transitions, row_at, blank}
use Rattle.table.proofs.RowLaws.{length-rows, at_rows}
use Rattle.neighbours.specs.Neighbours.{Leaves, Low, NoneOver, Calm}

module _ (ts : List Transition) where
  pub low-none : Low ts 0 (replicate 32 65536)
  low-none = record {
    size = refl;
    low = λ j h. absurd (omega arith);
    real = λ s h g. absurd (omega (arith, get_or-replicate {A = ℕ} 32 s 65536 0 h));
    short = λ k h. absurd (omega arith);
  }

  module _ (i : ℕ) (l : List ℕ) (w : Low ts i l) {s own x : ℕ} (state : s ≡ (at ts i).from % 32) (sum : own ≡ (at ts i).u + (at ts i).d) (least : x ≡ min (get_or l s 0) own)
      (bound : (at ts i).d < 65536) where
    here : get_or (set l s x) s 0 ≡ x
    here = get_or-set_same l s x 0 (omega (arith, w.size))

    -- what is kept is not more than before
    less : (p : ℕ) → get_or (set l s x) p 0 ≤ get_or l p 0
    less p = dite (ℕ_discrete p s) (λ (q : p ≡ s). rw q (omega (arith, here))) (λ n. omega (arith, get_or-set_other l s p x 0 n))

    leaves-more : (p y : ℕ) → Leaves ts i p y → Leaves ts (i + 1) p y
    leaves-more p y a = record { j = a.j; known = omega (arith, a.known); from = a.from; sum = a.sum }

    pub low-more : Low ts (i + 1) (set l s x)
    low-more = record {
      size = length-set l s x ∙ w.size;
      low = λ j h. ⊎_elim (λ (q : j ≡ i). rw (q, ← state) (omega (arith, here)))
          (λ (g : j < i). omega (arith, w.low j g, less ((at ts j).from % 32))) (eq-or-lt_of_le (omega arith));
      real = λ p h g. dite (ℕ_discrete p s)
          (λ (q : p ≡ s). rw (q, here) (dite (dec_lt ((at ts i).u + (at ts i).d) (get_or l s 0))
          (λ (b : (at ts i).u + (at ts i).d < get_or l s 0). record { j = i; known = omega arith; from = sym state; sum = omega arith })
          (λ n. let e : x ≡ get_or l s 0 = omega arith in
          rw e (leaves-more s (get_or l s 0) (w.real s (omega arith) (omega (arith, here, ap (λ (y : ℕ). get_or (set l s x) y 0) q)))))))
          (λ n. let o : get_or (set l s x) p 0 ≡ get_or l p 0 = get_or-set_other l s p x 0 n in rw o (leaves-more p (get_or l p 0) (w.real p h (omega arith))));
      short = below_more _ i w.short bound;
    }

-- the least sums and the test of the delays make the answer
module _ (c : List Row) (l : List ℕ) (few : length c ≤ 256) (w : Low (transitions c) (length c) l) where
  pub calm-told : (b : Bool) → Tells b (NoneOver c l) → Tells b (Calm c (length c))
  calm-told true a = record {
    few = few;
    after = λ k j h g e.
        let q = at_rows c (length c) k h in
        omega (arith, a k blank h, w.low j g, ap (λ (s : ℕ). get_or l s 0) e, ap (λ (t : Transition). t.d) q, ap (λ (t : Transition). get_or l (t.to % 32) 0) q);
  }
  calm-told false o = λ a. o (λ k d h.
      let s : ℕ = (row_at c k).to % 32 in
      let q = at_rows c (length c) k h in
      rw (get_or_default c k d blank h) (dite (dec_lt (get_or l s 0) 65536)
      (λ (b : get_or l s 0 < 65536).
      let y = w.real s (omega arith) b in
      omega (arith, a.after k y.j h y.known (ap (λ (t : Transition). t.to % 32) q ∙ sym y.from), y.sum, ap (λ (t : Transition). t.d) q))
      (λ n. omega (arith, w.short k h, ap (λ (t : Transition). t.d) q))))

-- no step of a calm table can overtake another, and no trace turns
module _ {c : List Row} {n : ℕ} (a : Calm c n) (states initial : ℕ) where
  abbrev m : Machine
  m = record { states = states; initial = initial; transitions = rows c n }

  pub calm-keeps : Valid m → TableOvertakes m → ⊥
  calm-keeps v t =
      let o = (next-law m v).0 t in
      let f : length (rows c n) ≡ n = length-rows c n in
      omega (
        arith,
        (next-in-ticks m v o.k o.next o.path).0 o.overtakes,
        a.after o.k o.next (omega (arith, o.path.0)) (omega (arith, o.path.2.0)) (ap (λ (s : ℕ). s % 32) (sym o.path.2.1)),
      )
