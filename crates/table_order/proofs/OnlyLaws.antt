-- Two answers on one machine agree in all but the trace that is shown, and in everything if they show one trace.
use Rattle.std.specs.Prelude.{Ok, Err}
use mathlib.Core.Path.{◌≡◌, refl, sym, ap, subst, ◌∙◌}
use mathlib.Core.List.{List}
use Prim.Native.Nat.{ℕ, ◌-◌, ◌≤◌, ◌<◌}
use native.Mathlib.Omega.{arith}
use lib.ListN.{length}
use Rattle.model.specs.Answers.{Fields}
use Rattle.model.specs.Table.{Machine}
use Rattle.table.specs.declared.Table.{Table}
use Rattle.table.specs.Rows.{machine_of}
use Rattle.table.specs.Showing.{shown_in, Agree, ByTrace}
use Rattle.table.proofs.RefusalLaws.{refusal-some, refused-only}
use Rattle.table.proofs.TestLaws.{Numbered}
use Rattle.table.proofs.ShowingLaws.{Pinned, values, lowest-same, lowest-only, lowest_by, values-is, values_agree, values-only, values-plain-only}
use Rattle.table_order.specs.declared.OnOrder.TheVariants.{InOrder, Overtaken}
use Rattle.table_order.specs.OnOrder.{Ordered, order_fields, order_tests, KeepsOrder, OrderShows, overtaken_shown, OrderOutcome}
use Rattle.table_order.specs.Agree.{SameShown}

-- equal fields: equal answers
pub answer-only : (a b : Ordered) → order_fields a ≡ order_fields b → a ≡ b
answer-only (Ok InOrder) (Ok InOrder) e = refl
answer-only (Ok InOrder) (Ok (Overtaken k m)) e = absurd (omega (arith, ap (λ f. f.status) e))
answer-only (Ok InOrder) (Err s) e = absurd (omega (arith, refusal-some s, ap (λ f. f.status) e))
answer-only (Ok (Overtaken k m)) (Ok InOrder) e = absurd (omega (arith, ap (λ f. f.status) e))
answer-only (Ok (Overtaken k m)) (Ok (Overtaken x n)) e =
    let p : k ≡ x = ap (λ f. f.first) e in
    let q : m ≡ n = ap (λ f. f.second) e in
    cc
answer-only (Ok (Overtaken k m)) (Err s) e = absurd (omega (arith, refusal-some s, ap (λ f. f.status) e))
answer-only (Err r) (Ok InOrder) e = absurd (omega (arith, refusal-some r, ap (λ f. f.status) e))
answer-only (Err r) (Ok (Overtaken k m)) e = absurd (omega (arith, refusal-some r, ap (λ f. f.status) e))
answer-only (Err r) (Err s) e = ap Err (refused-only r s e)

module _ (m : Machine) where
  apart : KeepsOrder m → (f : Fields) (l s : List ℕ) → OrderShows m f l s → ⊥
  apart p f _ _ (overtaken_shown {shown = l} {k = k} {last = last} e a) =
      let b = a.lowest in
      p (record { trace = l; end = b.end; path = b.path; k = k; later = last; overtakes = b.pair })

  number : (f : Fields) (l s : List ℕ) → OrderShows m f l s → 256 ≤ f.status
  number f _ _ (overtaken_shown e a) = omega (arith, values e)

  steps-shown : (f : Fields) (l s : List ℕ) → OrderShows m f l s → f.steps ≡ length l
  steps-shown f _ _ (overtaken_shown e a) = (values e).3 ∙ sym a.lowest.ends

  kind : (f g : Fields) (l s l' s' : List ℕ) → OrderShows m f l s → OrderShows m g l' s' → f.status ≡ g.status
  kind f g _ _ _ _ (overtaken_shown e a) (overtaken_shown e' b) = (values e).0 ∙ sym (values e').0

  same : (f g : Fields) (l s l' s' : List ℕ) → OrderShows m f l s → OrderShows m g l' s' → SameShown f l g l'
  same f g _ _ _ _ (overtaken_shown {k = k} e a) (overtaken_shown {k = k'} e' b) =
      let z : f.first - 1 ≡ k = omega (arith, values e) in
      let z' : g.first - 1 ≡ k' = omega (arith, values e') in
      rw (z, z') (lowest-same a.lowest b.lowest)

  -- the same trace, once with each answer's own name
  only : (f g : Fields) (l s l' s' : List ℕ) → OrderShows m f l s → OrderShows m g l' s' → l ≡ l' → (f ≡ g) × (s ≡ s')
  only f g _ _ _ _ (overtaken_shown e a) (overtaken_shown e' b) h =
      let o = lowest-only a.lowest b.lowest h in
      (e ∙ rw (o.0, o.1) (sym e'), rw (o.0, o.1, h) refl)

  pub order-pinned : Pinned (KeepsOrder m) (OrderShows m) SameShown
  order-pinned = record {
    number = number;
    steps = steps-shown;
    apart = apart;
    kind = kind;
    same = same;
    only = λ f g l s s' x y. only f g l s l s' x y refl;
  }

  -- K is the first place of its transition in the shown trace, and M the trace's length
  pub order-by : {f : Fields} (l s : List ℕ) → OrderShows m f l s → ByTrace l f.first f.second
  order-by _ _ (overtaken_shown e a) = rw ((values e).1, (values e).2) (lowest_by a.lowest a.lowest.pair.ordered)

  module _ (trace₀ stamps₀ : List ℕ) where
    abbrev Out : Ordered → List ℕ → List ℕ → Type 0
    Out r trace stamps = OrderOutcome m trace₀ stamps₀ (order_fields r) trace stamps

    numbered : Numbered (order_tests m trace₀ stamps₀)
    numbered = omega arith

    -- whatever traces they show, two outcomes agree in kind, a refusal's number and place, the transition at K
    pub outcome-agree : (r s : Ordered) (trace stamps trace' stamps' : List ℕ) → Out r trace stamps → Out s trace' stamps'
        → Agree SameShown (order_fields r) trace (order_fields s) trace'
    outcome-agree r s trace stamps trace' stamps' x y = values_agree order-pinned (order_tests m trace₀ stamps₀) numbered trace₀ stamps₀ x y

    -- two outcomes that show one trace are equal: answer, trace places and stamp places
    pub outcome-only : (r s : Ordered) (trace stamps trace' stamps' : List ℕ) → Out r trace stamps → Out s trace' stamps'
        → shown_in (order_fields r) trace ≡ shown_in (order_fields s) trace' → (r ≡ s) × (trace ≡ trace') × (stamps ≡ stamps')
    outcome-only r s trace stamps trace' stamps' x y h =
        let o = values-only order-pinned (order_tests m trace₀ stamps₀) numbered trace₀ stamps₀ x y h in
        (answer-only r s o.0, o.1, o.2)

    -- two outcomes that show nothing are equal
    pub outcome-plain-only : (r s : Ordered) (trace stamps trace' stamps' : List ℕ) → (order_fields r).status < 256 → Out r trace stamps → Out s trace' stamps'
        → (r ≡ s) × (trace ≡ trace') × (stamps ≡ stamps')
    outcome-plain-only r s trace stamps trace' stamps' h x y =
        let o = values-plain-only order-pinned (order_tests m trace₀ stamps₀) numbered trace₀ stamps₀ x y h in
        (answer-only r s o.0, o.1, o.2)

    -- K is the first place of its transition in the shown trace, and M the trace's length
    pub outcome-by-trace : (r : Ordered) (trace stamps : List ℕ) → 256 ≤ (order_fields r).status → Out r trace stamps
        → ByTrace (shown_in (order_fields r) trace) (order_fields r).first (order_fields r).second
    outcome-by-trace r trace stamps q x =
        values-is order-pinned (order_tests m trace₀ stamps₀) numbered trace₀ stamps₀ (λ l. ByTrace l (order_fields r).first (order_fields r).second)
        order-by q x

-- two table values of one machine get the same outcomes
pub same-outcomes : (t u : Table) (trace₀ stamps₀ : List ℕ) → machine_of t ≡ machine_of u → (r : Ordered) (trace stamps : List ℕ)
    → OrderOutcome (machine_of t) trace₀ stamps₀ (order_fields r) trace stamps → OrderOutcome (machine_of u) trace₀ stamps₀ (order_fields r) trace stamps
same-outcomes t u trace₀ stamps₀ e r trace stamps = subst (λ m. OrderOutcome m trace₀ stamps₀ (order_fields r) trace stamps) e
