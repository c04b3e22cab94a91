-- Two answers on one machine agree in all but the trace that is shown, and in everything if they show one trace.
use Rattle.std.specs.Prelude.{Ok, Err}
use mathlib.Core.Path.{◌≡◌, refl, sym, ap, subst, ◌∙◌}
use mathlib.Core.List.{List, [], ◌∷◌}
use Prim.Native.Nat.{ℕ, ◌-◌, ◌≤◌, ◌<◌}
use native.Mathlib.Omega.{arith}
use lib.ListN.{length, take, length-append}
use lib.Seq.{take_at}
use Rattle.model.specs.Answers.{Fields}
use Rattle.model.specs.Table.{Machine}
use Rattle.model.specs.Verdict.{Strict}
use Rattle.model.proofs.Lists.{least-only}
use Rattle.model.proofs.Verdict.{not-strict-and-splits, not-strict-and-turns, not-splits-and-turns}
use Rattle.table.specs.declared.Table.{Table}
use Rattle.table.specs.Rows.{machine_of}
use Rattle.table.specs.Showing.{shown_in, Agree, ByTrace}
use Rattle.table.proofs.RefusalLaws.{refusal-some, refused-only}
use Rattle.table.proofs.TestLaws.{Numbered}
use Rattle.table.proofs.ShowingLaws.{Pinned, values, lowest-same, lowest-only, lowest_by, values-is, values_agree, values-only, values-plain-only}
use Rattle.table_verdict.specs.declared.OnTable.TheVariants.{Strict as StrictTable, Split, Turning}
use Rattle.table_verdict.specs.OnTable.{Judged, table_fields, table_tests, TableShows, split_shown, turning_shown, TableOutcome}
use Rattle.table_verdict.specs.Agree.{SameShown}

-- equal fields: equal answers
pub answer-only : (a b : Judged) → table_fields a ≡ table_fields b → a ≡ b
answer-only (Ok StrictTable) (Ok StrictTable) e = refl
answer-only (Ok StrictTable) (Ok (Split i j n)) e = absurd (omega (arith, ap (λ f. f.status) e))
answer-only (Ok StrictTable) (Ok (Turning k m)) e = absurd (omega (arith, ap (λ f. f.status) e))
answer-only (Ok StrictTable) (Err s) e = absurd (omega (arith, refusal-some s, ap (λ f. f.status) e))
answer-only (Ok (Split i j n)) (Ok StrictTable) e = absurd (omega (arith, ap (λ f. f.status) e))
answer-only (Ok (Split i j n)) (Ok (Split x y l)) e =
    let p : i ≡ x = ap (λ f. f.first) e in
    let q : j ≡ y = ap (λ f. f.second) e in
    let r : n ≡ l = ap (λ f. f.steps) e in
    cc
answer-only (Ok (Split i j n)) (Ok (Turning k m)) e = absurd (omega (arith, ap (λ f. f.status) e))
answer-only (Ok (Split i j n)) (Err s) e = absurd (omega (arith, refusal-some s, ap (λ f. f.status) e))
answer-only (Ok (Turning k m)) (Ok StrictTable) e = absurd (omega (arith, ap (λ f. f.status) e))
answer-only (Ok (Turning k m)) (Ok (Split i j n)) e = absurd (omega (arith, ap (λ f. f.status) e))
answer-only (Ok (Turning k m)) (Ok (Turning x y)) e =
    let p : k ≡ x = ap (λ f. f.first) e in
    let q : m ≡ y = ap (λ f. f.second) e in
    cc
answer-only (Ok (Turning k m)) (Err s) e = absurd (omega (arith, refusal-some s, ap (λ f. f.status) e))
answer-only (Err r) (Ok StrictTable) e = absurd (omega (arith, refusal-some r, ap (λ f. f.status) e))
answer-only (Err r) (Ok (Split i j n)) e = absurd (omega (arith, refusal-some r, ap (λ f. f.status) e))
answer-only (Err r) (Ok (Turning k m)) e = absurd (omega (arith, refusal-some r, ap (λ f. f.status) e))
answer-only (Err r) (Err s) e = ap Err (refused-only r s e)

module _ (m : Machine) where
  apart : Strict m → (f : Fields) (l s : List ℕ) → TableShows m f l s → ⊥
  apart p f _ _ (split_shown e a) = not-strict-and-splits m p a.splits
  apart p f _ _ (turning_shown e a) = not-strict-and-turns m p a.only

  number : (f : Fields) (l s : List ℕ) → TableShows m f l s → 256 ≤ f.status
  number f _ _ (split_shown e a) = omega (arith, values e)
  number f _ _ (turning_shown e a) = omega (arith, values e)

  steps-shown : (f : Fields) (l s : List ℕ) → TableShows m f l s → f.steps ≡ length l
  steps-shown f _ _ (split_shown {i = i} {way = way} e a) = (values e).3 ∙ sym (length-append way (i ∷ []))
  steps-shown f _ _ (turning_shown e a) = (values e).3 ∙ sym a.lowest.ends

  kind : (f g : Fields) (l s l' s' : List ℕ) → TableShows m f l s → TableShows m g l' s' → f.status ≡ g.status
  kind f g _ _ _ _ (split_shown e a) (split_shown e' b) = (values e).0 ∙ sym (values e').0
  kind f g _ _ _ _ (split_shown e a) (turning_shown e' b) = absurd (not-splits-and-turns m a.splits b.only)
  kind f g _ _ _ _ (turning_shown e a) (split_shown e' b) = absurd (not-splits-and-turns m b.splits a.only)
  kind f g _ _ _ _ (turning_shown e a) (turning_shown e' b) = (values e).0 ∙ sym (values e').0

  same : (f g : Fields) (l s l' s' : List ℕ) → TableShows m f l s → TableShows m g l' s' → SameShown f l g l'
  same f g _ _ _ _ (split_shown e a) (split_shown e' b) =
      let o = least-only a.pair b.pair in record {
        split = λ h. ((values e).1 ∙ o.0 ∙ sym (values e').1, (values e).2 ∙ o.1 ∙ sym (values e').2);
        turning = λ h. absurd (omega (arith, values e));
      }
  same f g _ _ _ _ (split_shown e a) (turning_shown e' b) = absurd (not-splits-and-turns m a.splits b.only)
  same f g _ _ _ _ (turning_shown e a) (split_shown e' b) = absurd (not-splits-and-turns m b.splits a.only)
  same f g _ _ _ _ (turning_shown {k = k} e a) (turning_shown {k = k'} e' b) = record {
    split = λ h. absurd (omega (arith, values e));
    turning = λ h.
        let z : f.first - 1 ≡ k = omega (arith, values e) in
        let z' : g.first - 1 ≡ k' = omega (arith, values e') in
        rw (z, z') (lowest-same a.lowest b.lowest);
  }

  -- the same trace, once with each answer's own name
  only : (f g : Fields) (l s l' s' : List ℕ) → TableShows m f l s → TableShows m g l' s' → l ≡ l' → (f ≡ g) × (s ≡ s')
  only f g _ _ _ _ (split_shown {i = i} {j = j} {way = way} e a) (split_shown {i = x} {j = y} {way = way'} e' b) h =
      let o : (x ≡ i) × (y ≡ j) = least-only b.pair a.pair in
      let n : length way ≡ length way' = omega (arith, simp length-append at (ap length h)) in
      let w : way' ≡ way =
      sym (take_at way' (x ∷ []) (length way) (sym n)) ∙ ap (take (length way)) (sym h) ∙ take_at way (i ∷ []) (length way) refl in
      (e ∙ sym (rw (o.0, o.1, w) at e'), rw (o.0, o.1, w) refl)
  only f g _ _ _ _ (split_shown e a) (turning_shown e' b) h = absurd (not-splits-and-turns m a.splits b.only)
  only f g _ _ _ _ (turning_shown e a) (split_shown e' b) h = absurd (not-splits-and-turns m b.splits a.only)
  only f g _ _ _ _ (turning_shown {shown = l} {k = k} {last = last} e a) (turning_shown {shown = l'} {k = k'} {last = last'} e' b) h =
      let o = lowest-only a.lowest b.lowest h in
      (e ∙ rw (o.0, o.1) (sym e'), rw (o.0, o.1, h) refl)

  pub table-pinned : Pinned (Strict m) (TableShows m) SameShown
  table-pinned = record {
    number = number;
    steps = steps-shown;
    apart = apart;
    kind = kind;
    same = same;
    only = λ f g l s s' x y. only f g l s l s' x y refl;
  }

  -- K is the first place of its transition in the shown trace, and M the trace's length
  pub table-by : {f : Fields} → f.status ≡ 257 → (l s : List ℕ) → TableShows m f l s → ByTrace l f.first f.second
  table-by h _ _ (split_shown e a) = absurd (omega (arith, values e))
  table-by h _ _ (turning_shown e a) = rw ((values e).1, (values e).2) (lowest_by a.lowest a.lowest.pair.early.ordered)

  module _ (trace₀ stamps₀ : List ℕ) where
    abbrev Out : Judged → List ℕ → List ℕ → Type 0
    Out r trace stamps = TableOutcome m trace₀ stamps₀ (table_fields r) trace stamps

    numbered : Numbered (table_tests m trace₀ stamps₀)
    numbered = omega arith

    -- whatever traces they show, two outcomes agree in kind, a refusal's number and place, I and J, the transition at K
    pub outcome-agree : (r s : Judged) (trace stamps trace' stamps' : List ℕ) → Out r trace stamps → Out s trace' stamps'
        → Agree SameShown (table_fields r) trace (table_fields s) trace'
    outcome-agree r s trace stamps trace' stamps' x y = values_agree table-pinned (table_tests m trace₀ stamps₀) numbered trace₀ stamps₀ x y

    -- two outcomes that show one trace are equal: answer, trace places and stamp places
    pub outcome-only : (r s : Judged) (trace stamps trace' stamps' : List ℕ) → Out r trace stamps → Out s trace' stamps'
        → shown_in (table_fields r) trace ≡ shown_in (table_fields s) trace' → (r ≡ s) × (trace ≡ trace') × (stamps ≡ stamps')
    outcome-only r s trace stamps trace' stamps' x y h =
        let o = values-only table-pinned (table_tests m trace₀ stamps₀) numbered trace₀ stamps₀ x y h in
        (answer-only r s o.0, o.1, o.2)

    -- two outcomes that show nothing are equal
    pub outcome-plain-only : (r s : Judged) (trace stamps trace' stamps' : List ℕ) → (table_fields r).status < 256 → Out r trace stamps → Out s trace' stamps'
        → (r ≡ s) × (trace ≡ trace') × (stamps ≡ stamps')
    outcome-plain-only r s trace stamps trace' stamps' h x y =
        let o = values-plain-only table-pinned (table_tests m trace₀ stamps₀) numbered trace₀ stamps₀ x y h in
        (answer-only r s o.0, o.1, o.2)

    -- K is the first place of its transition in the shown trace, and M the trace's length
    pub outcome-by-trace : (r : Judged) (trace stamps : List ℕ) → (table_fields r).status ≡ 257 → Out r trace stamps
        → ByTrace (shown_in (table_fields r) trace) (table_fields r).first (table_fields r).second
    outcome-by-trace r trace stamps q x =
        values-is table-pinned (table_tests m trace₀ stamps₀) numbered trace₀ stamps₀ (λ l. ByTrace l (table_fields r).first (table_fields r).second)
        (table-by q) (omega arith) x

-- two table values of one machine get the same outcomes
pub same-outcomes : (t u : Table) (trace₀ stamps₀ : List ℕ) → machine_of t ≡ machine_of u → (r : Judged) (trace stamps : List ℕ)
    → TableOutcome (machine_of t) trace₀ stamps₀ (table_fields r) trace stamps → TableOutcome (machine_of u) trace₀ stamps₀ (table_fields r) trace stamps
same-outcomes t u trace₀ stamps₀ e r trace stamps = subst (λ m. TableOutcome m trace₀ stamps₀ (table_fields r) trace stamps) e
