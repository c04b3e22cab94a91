-- What was shown decides the machine.
use Rattle.std.specs.Prelude.{Ok}
use mathlib.Core.Path.{◌≡◌, refl, sym, ap, subst}
use mathlib.Core.List.{List, [], ◌∷◌}
use Prim.Native.Nat.{ℕ, suc, ◌+◌, ◌≤◌}
use native.Mathlib.Numerals.{add-one}
use lib.ListN.{length}
use Rattle.model.specs.Answers.{fields}
use Rattle.model.specs.Table.{Transition, Machine, Valid}
use Rattle.model.proofs.Paths.{trace-ranged}
use Rattle.model.proofs.Pair.{overtakes-law}
use Rattle.model.proofs.Words.{early-shows}
use Rattle.model.proofs.Turn.{overtaken-from-law, overtakes-walk-law}
use Rattle.table.specs.declared.Row.{Row}
use Rattle.table.specs.declared.Table.{Table}
use Rattle.table.specs.Rows.{rows, table_in, machine_of}
use Rattle.table.specs.Fit.{Sound}
use Rattle.table.specs.Showing.{says_none, says_shown}
use Rattle.table.specs.Tests.{Test, unless, refuses, answers}
use Rattle.table.proofs.TestLaws.{passes-fails, valid-passes}
use Rattle.criterion.specs.declared.Goal.TheVariants.{Overtakes}
use Rattle.reach.specs.Reach.{Reach}
use Rattle.reach.proofs.ReachLaws.{valid-limits}
use Rattle.witness.specs.Witness.{machine_with}
use Rattle.witness.proofs.WitnessLaws.{words-nothing, words-stand, shows-lowest}
use Rattle.table_order.specs.declared.OnOrder.TheVariants.{Overtaken}
use Rattle.table_order.specs.OnOrder.{Ordered, order_fields, overtaken_shown, OrderOutcome}
use Rattle.table_order.specs.Decided.{Decided, Shown, shown_none, shown_word, cell_tests, CellsOutcome}

-- K and M counted from 1, M being the last step
overtaken-fields : (k : ℕ) {all last : ℕ} → all ≡ suc last → order_fields (Ok (Overtaken (k + 1) all)) ≡ fields 258 (suc k) (suc last) (suc last)
overtaken-fields k e = rw (add-one k, e)

module _ {c : List Row} {n : ℕ} (sound : Sound c n) {initial : ℕ} {dist via : List ℕ} (reach : Reach (rows c n) initial dist via) (states : ℕ)
    (v : Valid (machine_with states initial (rows c n))) (trace₀ stamps₀ : List ℕ) (places : 270 ≤ length trace₀) (stamp-places : 270 ≤ length stamps₀) where
  abbrev ts : List Transition
  ts = rows c n

  abbrev m : Machine
  m = machine_with states initial ts

  order-decided : {r : Ordered} {trace stamps : List ℕ} → Shown c n dist via trace₀ stamps₀ r trace stamps → Decided m trace₀ stamps₀ r trace stamps
  order-decided (shown_none w) =
      let o = words-nothing Overtakes sound reach states places w in
      says_none refl (λ t. let y = (overtakes-walk-law m v).0 t in o.2 y.0 y.1) (o.0, o.1)
  order-decided (shown_word {n = k} w) =
      let x = words-stand Overtakes sound reach states places stamp-places w in
      let s = x.pair in
      let p = s.shows in
      let good = trace-ranged ts v.ranged initial p.end s.shown p.path in
      says_shown (overtaken_shown {shown = s.shown} {k = k} {last = s.last} (overtaken-fields k s.whole) (record {
        lowest = shows-lowest Overtakes m (overtaken-from-law m v) (overtakes-law good k s.last) p;
        shows = early-shows good k s.last p.meets;
      })) (s.traced, x.stamped)

-- what the search through the cells of a valid table answered, with room
module _ (t : Table) (v : Valid (machine_of t)) (trace₀ stamps₀ : List ℕ) (room : (270 ≤ length trace₀) × (270 ≤ length stamps₀)) where
  abbrev rest : List Test
  rest = unless 8 ((270 ≤ length trace₀) × (270 ≤ length stamps₀)) ∷ []

  cells-decided : {r : Ordered} {trace stamps : List ℕ} → CellsOutcome t.cells t.count t.initial trace₀ stamps₀ r trace stamps
      → Decided (machine_of t) trace₀ stamps₀ r trace stamps
  cells-decided (refuses {n = n} {p = p} e x k) =
      absurd (passes-fails (cell_tests t.cells t.count t.initial trace₀ stamps₀) n p (valid-limits t v rest (room, tt)) x)
  cells-decided (answers p b) = order-decided p.1.0.sound b.reach t.states v trace₀ stamps₀ room.0 room.1 b.shown

  pub cells-order : {r : Ordered} {trace stamps : List ℕ} → CellsOutcome t.cells t.count t.initial trace₀ stamps₀ r trace stamps
      → OrderOutcome (machine_of t) trace₀ stamps₀ (order_fields r) trace stamps
  cells-order o = answers (valid-passes (machine_of t) v rest (room, tt)) (cells-decided o)

-- the same of other rows for the same transitions, such as those that a table lends
pub rows-order : (t : Table) (v : Valid (machine_of t)) (c : List Row) (n : ℕ) → rows c n ≡ (machine_of t).transitions → (trace₀ stamps₀ : List ℕ)
    → (270 ≤ length trace₀) × (270 ≤ length stamps₀) → {r : Ordered} {trace stamps : List ℕ} → CellsOutcome c n t.initial trace₀ stamps₀ r trace stamps
    → OrderOutcome (machine_of t) trace₀ stamps₀ (order_fields r) trace stamps
rows-order t v c n e trace₀ stamps₀ room {r} {trace} {stamps} o =
    let m : machine_of (table_in t.states t.initial n c) ≡ machine_of t = ap (machine_with t.states t.initial) e in
    subst (λ k. OrderOutcome k trace₀ stamps₀ (order_fields r) trace stamps) m
    (cells-order (table_in t.states t.initial n c) (subst Valid (sym m) v) trace₀ stamps₀ room o)
