-- The way to the state that a transition leaves, as it is written.
use mathlib.Core.Path.{◌≡◌, refl, sym, ap, ◌∙◌}
use mathlib.Core.List.{List, ◌++◌}
use Prim.Native.Nat.{ℕ, ◌+◌, ◌≤◌, ◌<◌}
use native.Mathlib.Omega.{arith}
use lib.ListN.{length, take, drop, length-append, length-drop}
use lib.Seq.{drop-drop, drop-append-add, take_at}
use Rattle.model.specs.Table.{Transition, at}
use Rattle.model.specs.Trace.{Trace}
use Rattle.table.specs.declared.Row.{Row}
use Rattle.table.specs.Rows.{rows, row_of, said}
use Rattle.table.specs.Fit.{Sound}
use Rattle.table.proofs.FitLaws.{row-said}
use Rattle.table.proofs.RowLaws.{length-rows}
use Rattle.reach.specs.Reach.{Reach, WayStands, mark}
use Rattle.reach.proofs.ReachLaws.{WayShown, way-shown}
use Rattle.witness.specs.Witness.{way_for}

-- a transition i that leaves a marked state, and room for a trace that goes there
module _ {c : List Row} {n : ℕ} (sound : Sound c n) {initial : ℕ} {dist via : List ℕ} (reach : Reach (rows c n) initial dist via) {trace : List ℕ}
    (places : 270 ≤ length trace) {i : ℕ} (first : i < length (rows c n)) (marked : 1 ≤ mark dist (at (rows c n) i).from) {one : List ℕ} {k : ℕ}
    (wrote : WayStands c dist via (row_of c i).from trace one k) where
  abbrev ts : List Transition
  ts = rows c n

  abbrev way : List ℕ
  way = way_for ts dist via i

  shown : WayShown ts initial dist via (at ts i).from trace one k
  shown =
      let here : said (row_of c i) ≡ at ts i = row-said sound i (omega (arith, first, length-rows c n)) refl in
      let e : (row_of c i).from ≡ (at ts i).from = ap (λ (t : Transition). t.from) here in
      way-shown sound reach marked (omega arith) (rw e at wrote)

  pub way-number : k ≡ length way
  way-number = shown.number

  pub way-short : k ≤ 31
  way-short = shown.few

  pub way-traced : Trace ts initial way (at ts i).from
  way-traced = shown.path

  pub way-stands : one ≡ way ++ drop (length way) trace
  way-stands = rw way-number at shown.traced

  pub one-long : length one ≡ length trace
  one-long = ap length way-stands ∙ simp (length-append, length-drop) (omega (arith, way-number, way-short))

  pub way-front : take k one ≡ way
  way-front = ap (take k) way-stands ∙ take_at way (drop (length way) trace) k (sym way-number)

  -- what stood behind it
  pub behind-way : (q more : ℕ) → q ≡ length way + more → drop q one ≡ drop q trace
  behind-way q more e =
      ap (drop q) way-stands ∙ rw e (drop-append-add way (drop (length way) trace) more ∙ drop-drop more (length way) trace)
