-- What the search leaves, and what one look tells, of a table whose transitions are lent.
use mathlib.Core.Path.{◌≡◌, sym, ap, subst, ◌∙◌}
use mathlib.Core.List.{List}
use Prim.Native.Nat.{ℕ, ◌*◌, ◌≤◌}
use native.Mathlib.Omega.{arith}
use lib.ListN.{length}
use Rattle.model.specs.Answers.{Fields}
use Rattle.model.specs.Table.{Machine, Valid, at}
use Rattle.model.specs.Trace.{steps}
use Rattle.model.specs.Verdict.{Strict}
use Rattle.model.proofs.Paths.{length-steps}
use Rattle.model.proofs.StampLaws.{shown-stamps, split-stamps}
use Rattle.table.specs.declared.Row.{Row}
use Rattle.table.specs.declared.Table.{Table}
use Rattle.table.specs.Rows.{rows, machine_of}
use Rattle.table.specs.Showing.{Showing, says_none, says_shown}
use Rattle.table.proofs.ShowingLaws.{values}
use Rattle.table_verdict.specs.OnTable.{TableShows, split_shown, turning_shown, TableOutcome}
use Rattle.table_verdict.specs.Plain.{Plain}
use Rattle.table_verdict.proofs.DecideLaws.{plain-strict}
use Rattle.table_verdict.proofs.OnlyLaws.{table-pinned}
use Rattle.places.specs.ShownBytes.{Uses}
use Rattle.places.proofs.ShownLaws.{made-showing}
use Rattle.verdict_bytes.specs.Tables.{Used}

-- a shown trace is not longer than the room
few-steps : {m : Machine} {f : Fields} {l s : List ℕ} → TableShows m f l s → f.steps ≤ 270
few-steps (split_shown e a) = omega (arith, values e, a.few)
few-steps (turning_shown e a) = omega (arith, values e, a.lowest.ends, a.lowest.few)

-- and its stamps take the places that are used
used-stamps : {m : Machine} {f : Fields} {n k : ℕ} → Used f n k → {l s : List ℕ} → TableShows m f l s → (length s ≡ k) × (k ≤ 540)
used-stamps {m} {f} {n} {k} used (split_shown {i = i} {j = j} {way = way} e a) =
    let ts = m.transitions in
    let d : k ≡ n = used.one_word (omega (arith, values e)) in
    let word = split-stamps (steps ts way) (at ts i) (at ts j) in
    (omega (arith, word, length-steps ts way, used.steps, values e), omega (arith, used.steps, values e, a.few))
used-stamps {m} {f} {n} {k} used (turning_shown {shown = shown} {k = i} {last = last} e a) =
    let d : k ≡ 2 * n = used.two_words (values e).0 in
    let words = shown-stamps (steps m.transitions shown) i last in (
      omega (arith, words, length-steps m.transitions shown, used.steps, values e, a.lowest.ends),
      omega (arith, used.steps, values e, a.lowest.ends, a.lowest.few),
    )

-- the call on values with 270 and 540 places t₀ and s₀
module _ (m : Machine) (valid : Valid m) (t₀ s₀ : List ℕ) (long : (length t₀ ≡ 270) × (length s₀ ≡ 540)) where
  pub steps-few : {f : Fields} {u v : List ℕ} → TableOutcome m t₀ s₀ f u v → f.steps ≤ 270
  steps-few {f} o = by (made-showing m valid 270 540 t₀ s₀ long o)
    where
      by : {Kept : Type 0} {Left : List ℕ → List ℕ → Type 0} → Showing (Strict m) (TableShows m) Kept Left f → f.steps ≤ 270
      by (says_none e q k) = omega (arith, values e)
      by (says_shown x p) = few-steps x

-- the places that an answer uses are all that it shows
pub table-uses : (m : Machine) {f : Fields} {n k : ℕ} → Used f n k → Uses (TableShows m) 270 540 f n k
table-uses m {f} {n} {k} used = record {
  none = λ e. let c : n ≡ 0 = used.steps ∙ (values e).3 in (c, used.one_word (omega (arith, values e)) ∙ c);
  all = λ l s x.
      let w = used-stamps used x in
      let c : length l ≡ n = sym (used.steps ∙ (table-pinned m).steps f l s x) in
      (c, w.0, omega (arith, used.steps, few-steps x), w.1);
}

-- one look told that the table is strict
pub plain-judged : (t : Table) → Valid (machine_of t) → (c : List Row) (n : ℕ) → rows c n ≡ (machine_of t).transitions → Plain c n → Strict (machine_of t)
plain-judged t v c n e plain =
    let m : _ ≡ machine_of t = ap (λ ts. record { states = t.states; initial = t.initial; transitions = ts }) e in
    subst Strict m (plain-strict plain t.states t.initial (subst Valid (sym m) v))
