-- Where all letters are alike nothing turns.
use mathlib.Core.Path.{◌≡◌, refl, sym, ap, ◌∙◌}
use mathlib.Core.Logic.{by_cases, ◌↔◌}
use mathlib.Core.List.{List}
use Prim.Native.Nat.{ℕ, ◌<◌}
use native.Mathlib.Decide.{ℕ_discrete}
use native.Mathlib.Omega.{arith}
use lib.ListN.{length}
use Rattle.model.specs.Table.{Transition, at}
use Rattle.criterion.specs.declared.Goal.TheVariants.{Turns}
use Rattle.std.specs.Prelude.{None}
use Rattle.walks.specs.Walks.{Starts, Least}
use Rattle.walks.proofs.EndLaws.{end_known}
use Rattle.std.proofs.lemmas.List.{get_or_default}
use Rattle.model.specs.Order.{Differ}
use Rattle.std.specs.Prelude.{Any}
use Rattle.table.specs.declared.Row.{Row}
use Rattle.table.specs.Rows.{blank, row_at, row_of, said, transitions}
use Rattle.table.proofs.RowLaws.{length-rows, at_rows, row_near}
use Rattle.starts.specs.Letters.{AnyUnlike}

pub none-unlike : (ts : List Transition) → (AnyUnlike ts → ⊥) → {dist : List ℕ} → Least (Starts Turns ts dist) None
none-unlike ts none k s =
    let like : (m : ℕ) → m < length ts → (at ts 0).output ≡ (at ts m).output = λ m h.
    by_cases (ℕ_discrete (at ts 0).output (at ts m).output) (λ e. e) (λ d. absurd (none (record { x = m; known = h; holds = d }))) in
    let t = s.after.to in
    t.meets.differ (sym (like k s.arrives.known) ∙ like s.after.m (end_known Turns t))

-- a row's letter is its transition's
letter-at : (l : List Row) (i : ℕ) {r : Row} → i < length l → r ≡ row_at l i → r.output ≡ (at (transitions l) i).output
letter-at l i h e = ap (λ (x : Row). x.output) e ∙ sym (ap (λ (t : Transition). t.output) (at_rows l (length l) i h))

-- what a chain over the rows tells
pub any-law : (l : List Row) (r : Row) → r ≡ row_of l 0 → Any (λ x. Differ (said r) (said x)) l ↔ AnyUnlike (transitions l)
any-law l r e = (
  λ p.
      let h : p.0 < length l = p.2 in
      let x = letter-at l p.0 {r = p.1} h (sym p.3 ∙ get_or_default l p.0 p.1 blank h) in
      let z = letter-at l 0 {r = r} (omega arith) (e ∙ row_near l 0) in
      record { x = p.0; known = omega (arith, length-rows l (length l)); holds = λ q. p.4 (z ∙ q ∙ sym x) },
  λ p.
      let h : p.x < length l = omega (arith, p.known, length-rows l (length l)) in
      let x = letter-at l p.x {r = row_at l p.x} h refl in
      let z = letter-at l 0 {r = r} (omega arith) (e ∙ row_near l 0) in
      (p.x, row_at l p.x, h, get_or_default l p.x (row_at l p.x) blank h, λ q. p.holds (sym z ∙ q ∙ x)),
)
