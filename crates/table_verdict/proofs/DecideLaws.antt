-- What was shown decides the machine.
use Rattle.std.specs.Prelude.{Some, None, Ok, Bool, true, false}
use mathlib.Core.Path.{◌≡◌, refl, sym, ap, subst}
use mathlib.Core.List.{List, [], ◌∷◌}
use Prim.Native.Nat.{ℕ, suc, ◌+◌, ◌≤◌, ◌<◌}
use native.Mathlib.Numerals.{add-one}
use native.Mathlib.Omega.{arith}
use lib.ListN.{length}
use Rattle.model.specs.Answers.{fields, Tells}
use Rattle.model.specs.Lists.{LeastPair}
use Rattle.model.specs.Table.{Transition, Machine, Valid, at}
use Rattle.model.specs.Verdict.{Splits, SplitPair, Strict}
use Rattle.model.proofs.Paths.{trace-ranged}
use Rattle.model.proofs.Pair.{turns-law}
use Rattle.model.proofs.Words.{words-show}
use Rattle.model.proofs.Split.{pair-shown, shown-splits, split-law}
use Rattle.model.proofs.Turn.{turns-from-law, table-walk-law, turns-overtakes}
use Rattle.table.specs.declared.Row.{Row}
use Rattle.table.specs.declared.Table.{Table}
use Rattle.table.specs.Rows.{rows, table_in, machine_of}
use Rattle.table.specs.Fit.{Sound}
use Rattle.table.specs.Tests.{Test, unless, refuses, answers}
use Rattle.table.specs.Showing.{says_none, says_shown}
use Rattle.table.proofs.RowLaws.{length-rows}
use Rattle.table.proofs.TestLaws.{passes-fails, valid-passes}
use Rattle.reach.specs.Reach.{Reach}
use Rattle.split_pair.specs.Split.{Apart, SplitOutcome}
use Rattle.reach.proofs.ReachLaws.{valid-limits, way-path, way-few}
use Rattle.split_pair.proofs.SplitLaws.{split-found}
use Rattle.split_pair.proofs.ApartLaws.{apart-unsplit}
use Rattle.neighbours.specs.Neighbours.{Calm}
use Rattle.neighbours.proofs.NeighbourLaws.{calm-keeps}
use Rattle.criterion.specs.declared.Goal.TheVariants.{Turns}
use Rattle.witness.specs.Witness.{way_for, machine_with}
use Rattle.witness.proofs.WitnessLaws.{words-nothing, words-stand, shows-lowest}
use Rattle.table_verdict.specs.declared.OnTable.{OnTable}
use Rattle.table_verdict.specs.declared.OnTable.TheVariants.{Turning}
use Rattle.table_verdict.specs.OnTable.{Judged, table_fields, split_shown, turning_shown, TableOutcome}
use Rattle.table_verdict.specs.Plain.{Plain}
use Rattle.table_verdict.specs.Shown.{ShowRoom, SplitStands}
use Rattle.table_verdict.specs.Decided.{Decided, TurnJudged, turns_not, turns_from, marks_split, marks_turn, cell_tests, CellsOutcome}

-- K and M counted from 1, M being the last step
turning-fields : (k : ℕ) {all last : ℕ} → all ≡ suc last → table_fields (Ok (Turning (k + 1) all)) ≡ fields 257 (suc k) (suc last) (suc last)
turning-fields k e = rw (add-one k, e)

module _ {c : List Row} {n : ℕ} (sound : Sound c n) {initial : ℕ} {dist via : List ℕ} (reach : Reach (rows c n) initial dist via) where
  abbrev ts : List Transition
  ts = rows c n

  pub pair-room : {i j : ℕ} {trace stamps : List ℕ} → SplitOutcome c n dist (Some (i, j)) → 270 ≤ length trace → 540 ≤ length stamps
      → ShowRoom ts dist via i trace stamps × (j < n)
  pair-room o a b =
      let p = o.1.pair in (
        record {
          traces = record { initial = initial; reach = reach; marked = p.marked; first = omega (arith, p.ordered, p.inside); places = a };
          stamps_places = b;
        },
        omega (arith, p.inside, length-rows c n),
      )

  module _ (states : ℕ) (v : Valid (machine_with states initial ts)) (trace₀ stamps₀ : List ℕ) where
    abbrev m : Machine
    m = machine_with states initial ts

    pub split-decided : {i j : ℕ} {v : OnTable} {trace stamps : List ℕ} → LeastPair (SplitPair m) i j → SplitStands ts dist via i j trace₀ stamps₀ v trace stamps
        → Decided m trace₀ stamps₀ (Ok v) trace stamps
    split-decided {i} {j} l s =
        let marked = (reach.tells (at ts i).from).1 l.pair.reached in
        let way : List ℕ = way_for ts dist via i in
        let path = way-path reach (at ts i).from marked in
        let shown = pair-shown m v l.pair way path in
        says_shown (split_shown {i = i} {j = j} {way = way} (ap (λ v. table_fields (Ok v)) s.answer) (record {
          splits = shown-splits m l.pair.ordered shown;
          pair = l;
          path = path;
          few = omega (arith, way-few reach (at ts i).from marked);
          act_first = shown.act_first;
          act_second = shown.act_second;
        })) (s.traced, s.stamped)

    module _ (unsplit : (i j : ℕ) → SplitPair m i j → ⊥) where
      none-splits : Splits m → ⊥
      none-splits x = let p = (split-law m v).0 x in unsplit p.0 p.1 p.2

      pub turn-decided : {r : Judged} {trace stamps : List ℕ} → 270 ≤ length trace₀ → 540 ≤ length stamps₀
          → TurnJudged c n dist via trace₀ stamps₀ r trace stamps → Decided m trace₀ stamps₀ r trace stamps
      turn-decided places stamp-places (turns_not w) =
          let o = words-nothing Turns sound reach states places w in
          says_none refl (record { unsplit = none-splits; steady = λ t. let y = (table-walk-law m v).0 t in o.2 y.0 y.1 }) (o.0, o.1)
      turn-decided places stamp-places (turns_from {n = k} w) =
          let x = words-stand Turns sound reach states places stamp-places w in
          let s = x.pair in
          let p = s.shows in
          let good = trace-ranged ts v.ranged initial p.end s.shown p.path in
          says_shown (turning_shown {shown = s.shown} {k = k} {last = s.last} (turning-fields k s.whole) (record {
            only = record { unsplit = none-splits; turns = (table-walk-law m v).1 (_, p.from) };
            lowest = shows-lowest Turns m (turns-from-law m v) (turns-law good k s.last) p;
            shows = words-show good k s.last p.meets;
          })) (s.traced, x.stamped)

-- what the search through the cells of a valid table answered, with room
module _ (t : Table) (v : Valid (machine_of t)) (trace₀ stamps₀ : List ℕ) (room : (270 ≤ length trace₀) × (540 ≤ length stamps₀)) where
  abbrev rest : List Test
  rest = unless 8 ((270 ≤ length trace₀) × (540 ≤ length stamps₀)) ∷ []

  cells-decided : {r : Judged} {trace stamps : List ℕ} → CellsOutcome t.cells t.count t.initial trace₀ stamps₀ r trace stamps
      → Decided (machine_of t) trace₀ stamps₀ r trace stamps
  cells-decided (refuses {n = n} {p = p} e x k) =
      absurd (passes-fails (cell_tests t.cells t.count t.initial trace₀ stamps₀) n p (valid-limits t v rest (room, tt)) x)
  cells-decided (answers p (marks_split reach o s)) =
      split-decided p.1.0.sound reach t.states v trace₀ stamps₀ (split-found _ _ _ (Some _) o p.0 t.states t.initial reach.tells) s
  cells-decided (answers p (marks_turn reach o j)) =
      turn-decided p.1.0.sound reach t.states v trace₀ stamps₀
      (split-found _ _ _ None o p.0 t.states t.initial reach.tells) room.0 room.1 j

  pub cells-judge : {r : Judged} {trace stamps : List ℕ} → CellsOutcome t.cells t.count t.initial trace₀ stamps₀ r trace stamps
      → TableOutcome (machine_of t) trace₀ stamps₀ (table_fields r) trace stamps
  cells-judge o = answers (valid-passes (machine_of t) v rest (room, tt)) (cells-decided o)

-- the same of other rows for the same transitions, such as those that a table lends
pub rows-judge : (t : Table) (v : Valid (machine_of t)) (c : List Row) (n : ℕ) → rows c n ≡ (machine_of t).transitions → (trace₀ stamps₀ : List ℕ)
    → (270 ≤ length trace₀) × (540 ≤ length stamps₀) → {r : Judged} {trace stamps : List ℕ} → CellsOutcome c n t.initial trace₀ stamps₀ r trace stamps
    → TableOutcome (machine_of t) trace₀ stamps₀ (table_fields r) trace stamps
rows-judge t v c n e trace₀ stamps₀ room {r} {trace} {stamps} o =
    let m : machine_of (table_in t.states t.initial n c) ≡ machine_of t = ap (machine_with t.states t.initial) e in
    subst (λ k. TableOutcome k trace₀ stamps₀ (table_fields r) trace stamps) m
    (cells-judge (table_in t.states t.initial n c) (subst Valid (sym m) v) trace₀ stamps₀ room o)

-- the last look tells, where all before it told well
pub plain-told : {c : List Row} {n : ℕ} (b : Bool) → Calm c n → Tells b (Apart c n) → Tells b (Plain c n)
plain-told true calm a = record { calm = calm; apart = a }
plain-told false calm a = λ p. a p.apart

-- one look told that a valid table is strict, wherever it begins
pub plain-strict : {c : List Row} {n : ℕ} → Plain c n → (states initial : ℕ) → Valid (machine_with states initial (rows c n)) → Strict (machine_with states initial (rows c n))
plain-strict {c} {n} p states initial v =
    let m = machine_with states initial (rows c n) in
    record {
      unsplit = λ x. let q = (split-law m v).0 x in apart-unsplit p.apart states initial q.0 q.1 q.2;
      steady = λ x. calm-keeps p.calm states initial v (turns-overtakes m v x);
    }
