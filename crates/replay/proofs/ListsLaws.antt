-- Replay over lists however they stand in memory: each way out of its tests, and what it answers for a machine of which the slice holds the transitions.
use mathlib.Core.Path.{◌≡◌, refl, sym, ap, ◌∙◌}
use mathlib.Core.Logic.{inl, inr}
use mathlib.Core.List.{List, ◌++◌}
use Prim.Native.Nat.{ℕ, ◌≤◌}
use native.Mathlib.Omega.{arith}
use lib.ListN.{length, take, drop}
use Rattle.std.specs.Prelude.{Err}
use Rattle.model.specs.Answers.{Fields, fields}
use Rattle.model.specs.Table.{Transition, Machine, Valid}
use Rattle.model.specs.Trace.{Handed, steps}
use Rattle.model.specs.Word.{Word, Activates}
use Rattle.model.specs.Order.{due}
use Rattle.model.specs.Stamps.{gaps_from, word_from}
use Rattle.model.proofs.Paths.{length-steps}
use Rattle.table.specs.declared.Row.{Row}
use Rattle.table.specs.declared.Refusal.{Refusal}
use Rattle.table.specs.declared.Refusal.TheVariants.{NoTrace, Uneven, NoRoom}
use Rattle.table.specs.Refusal.{Checked, refused_fields, checked_fields}
use Rattle.table.specs.declared.Table.{Table}
use Rattle.table.specs.Rows.{transitions, named, cells_of, machine_of}
use Rattle.table.proofs.CellLaws.{length-cells, rows-cells}
use Rattle.table.proofs.SliceLaws.{rows-lent}
use Rattle.table.specs.Tests.{Test, Passes, Fails, Answered, refuses, answers, CheckOutcome}
use Rattle.table.proofs.NamedLaws.{named-trace}
use Rattle.table.proofs.RowLaws.{length-rows}
use Rattle.table.proofs.TestLaws.{fails-back, valid-passes, valid-fails, refused-fails}
use Rattle.trace.specs.Named.{TraceIn}
use Rattle.trace.proofs.TraceLaws.{handed-ranged}
use Rattle.replay.specs.Play.{own_tests, gap_tests, Plays, lists_tests, ListsOutcome, ReplayOutcome}
use Rattle.replay.specs.Laid.{Laid, counted, LaidOut, word_tests, WordRun, ListsRun}
use Rattle.replay.proofs.WordLaws.{parts-of, fits-activates}
use Rattle.replay.proofs.GapLaws.{gaps-law}
use Rattle.replay.proofs.LaidLaws.{plain-laid, laid, laid-converts, laid-orders, laid-dues}
use Rattle.replay.proofs.ReplayLaws.{first, passed-valid}

module _ (c : List Row) (T S : Type 0) (trace : List ℕ) (start : ℕ) (stamps o₀ d₀ : List ℕ) where
  abbrev Out : Fields → List ℕ → List ℕ → Type 0
  Out f o d = ListsRun c T S trace start stamps o₀ d₀ f o d

  pub no-trace : (T × TraceIn c (length c) trace → ⊥) → Out (refused_fields NoTrace) o₀ d₀
  no-trace x = refuses refl (inl (x, refl, refl)) (refl, refl)

  module _ (traced : T × TraceIn c (length c) trace) where
    pub uneven : (S × (length stamps ≡ length trace) → ⊥) → Out (refused_fields Uneven) o₀ d₀
    uneven x = refuses refl (inr (traced, inl (x, refl, refl))) (refl, refl)

    module _ (even : S × (length stamps ≡ length trace)) where
      pub cramped : ((length trace ≤ length o₀) × (length trace ≤ length d₀) → ⊥) → Out (refused_fields NoRoom) o₀ d₀
      cramped x = refuses refl (inr (traced, inr (even, inl (x, refl, refl)))) (refl, refl)

      module _ (roomy : (length trace ≤ length o₀) × (length trace ≤ length d₀)) where
        abbrev tests : List Test
        tests = word_tests c trace start stamps (length o₀) (length d₀)

        -- the lengths that a word is tested for fit
        sized : Passes (take 3 tests)
        sized = (traced.1.1.most, (even.1, (roomy, tt)))

        -- so what a word is answered is the answer
        pub word-lists : {f : Fields} {o d : List ℕ} → WordRun c trace start stamps o₀ d₀ f o d → Out f o d
        word-lists {f} {o} {d} run = told run.says
          where
            told : Answered tests (λ f. (f ≡ fields 0 0 0 0) × LaidOut c trace start stamps o₀ d₀ o d) ((o ≡ o₀) × (d ≡ d₀)) f → Out f o d
            told (refuses {n = n} {p = p} z b k) =
                let outside = (fails-back (take 3 tests) (gap_tests 0 (named c trace) (gaps_from start stamps)) n p sized).0 b in
                refuses z (inr (traced, inr (even, inr (roomy, outside)))) k
            told (answers q x) = answers (traced, (even, (roomy, q.1.1.1))) x

-- a valid machine of which the slice holds the transitions
module _ (m : Machine) (valid : Valid m) (c : List Row) (held : transitions c ≡ m.transitions) (trace : List ℕ) where
  few : length c ≤ 256
  few = omega (arith, valid.few, ap length held, length-rows c (length c))

  pub held-trace : Handed m.transitions trace → TraceIn c (length c) trace
  held-trace h = (few, rw held h)

  module _ (h : Handed m.transitions trace) where
    abbrev tr : List Transition
    tr = steps m.transitions trace

    same : named c trace ≡ tr
    same = named-trace c (length c) h.start h.end trace (rw held h.path) ∙ rw held refl

    module _ (start : ℕ) (stamps : List ℕ) (e : length stamps ≡ length trace) (g : Passes (gap_tests 0 tr (gaps_from start stamps))) {o₀ d₀ o d : List ℕ}
        (x : LaidOut c trace start stamps o₀ d₀ o d) where
      abbrev w : Word
      w = word_from tr start stamps

      long : length tr ≡ length trace
      long = length-steps m.transitions trace

      active : Activates tr w
      active = fits-activates tr start stamps (e ∙ sym long) ((gaps-law (gaps_from start stamps) tr).0 g)

      whole : Laid (due tr w) (length trace) o₀ d₀ o d
      whole =
          let k : Laid (counted tr w) (length trace) o₀ d₀ o d = rw same at x in
          rw long
          at (plain-laid tr w (handed-ranged m trace valid h) (rw long h.most) (parts-of tr start stamps) active (rw (← long) at k))

      -- what was laid out is the conversion of the word
      pub laid-plays : Plays tr w (λ l. o ≡ l ++ drop (length trace) o₀) (λ l. d ≡ l ++ drop (length trace) d₀)
      laid-plays = record {
        activates = active;
        responses = laid tr w whole;
        converts = laid-converts tr w whole long;
        orders = laid-orders tr w whole;
        dues = laid-dues tr w whole;
      }

  -- so the answer on the rows is the answer for the machine
  module _ (T S : Type 0) (start : ℕ) (stamps o₀ d₀ : List ℕ) where
    pub run-outcome : {f : Fields} {o d : List ℕ} → ListsRun c T S trace start stamps o₀ d₀ f o d → ListsOutcome m T S trace start stamps o₀ d₀ f o d
    run-outcome (refuses z (inl (n, x, y)) k) = refuses z (inl ((λ h. n (h.0, held-trace h.1)), x, y)) k
    run-outcome (refuses z (inr (t, b)) k) =
        let h : Handed m.transitions trace = rw held at t.1.1 in
        refuses z (inr ((t.0, h), rw (same h) at b)) k
    run-outcome (answers q x) =
        let h : Handed m.transitions trace = rw held at q.0.1.1 in
        let g = rw (same h) at q.1.1.1 in
        answers ((q.0.0, h), (q.1.0, (q.1.1.0, g))) (x.0, laid-plays h start stamps q.1.0.1 g x.1)

-- with a table that is refused
pub numbers-refused : (m : Machine) (trace : List ℕ) (start : ℕ) (stamps o₀ d₀ : List ℕ) {a : Checked} {r : Refusal} → a ≡ Err r
    → CheckOutcome m (checked_fields a) → ReplayOutcome m trace start stamps o₀ d₀ (refused_fields r) o₀ d₀
numbers-refused m trace start stamps o₀ d₀ e x =
    let rest : List Test = own_tests m trace stamps o₀ d₀ ++ gap_tests 0 (steps m.transitions trace) (gaps_from start stamps) in
    refuses refl (refused-fails m rest e x) (refl, refl)

-- numbers as the machine has them are whole
module _ (m : Machine) (valid : Valid m) (trace : List ℕ) (start : ℕ) (stamps o₀ d₀ : List ℕ) where
  abbrev ours : List Test
  ours = lists_tests m (Unit {0}) (Unit {0}) trace start stamps o₀ d₀

  abbrev rest : List Test
  rest = own_tests m trace stamps o₀ d₀ ++ gap_tests 0 (steps m.transitions trace) (gaps_from start stamps)

  plain-fails : (n p : ℕ) → Fails ours n p → Fails rest n p
  plain-fails n p (inl f) = inl (λ h. f.0 (tt, h), f.1, f.2)
  plain-fails n p (inr (t, inl f)) = inr (t.1, inl (λ e. f.0 (tt, e), f.1, f.2))
  plain-fails n p (inr (t, inr (e, f))) = inr (t.1, inr (e.1, f))

  pub numbers-answer : {f : Fields} {o d : List ℕ} → ListsOutcome m (Unit {0}) (Unit {0}) trace start stamps o₀ d₀ f o d
      → ReplayOutcome m trace start stamps o₀ d₀ f o d
  numbers-answer (refuses {n = n} {p = p} z b k) = refuses z ((valid-fails m valid rest n p).1 (plain-fails n p b)) k
  numbers-answer (answers q x) = answers (valid-passes m valid rest (q.0.1, (q.1.0.1, q.1.1))) x

  -- and a word by itself, after the tests that look at no gap
  module _ (c : List Row) (held : transitions c ≡ m.transitions) (p : Passes (first m trace start stamps o₀ d₀)) where
    pub rows-replay : {f : Fields} {o d : List ℕ} → WordRun c trace start stamps o₀ d₀ f o d → ReplayOutcome m trace start stamps o₀ d₀ f o d
    rows-replay run =
        let own = p.1.1.1 in
        numbers-answer (run-outcome m valid c held trace (Unit {0}) (Unit {0}) start stamps o₀ d₀
        (word-lists c (Unit {0}) (Unit {0}) trace start stamps o₀ d₀ (tt, held-trace m valid c held trace own.0) (tt, own.1.0) own.1.1.0 run))

-- what a word by itself is answered hangs on the transitions that its numbers name
word-same : {c k : List Row} {trace : List ℕ} {start : ℕ} {stamps o₀ d₀ : List ℕ} {f : Fields} {o d : List ℕ} → named c trace ≡ named k trace
    → WordRun c trace start stamps o₀ d₀ f o d → WordRun k trace start stamps o₀ d₀ f o d
word-same e run = record { says = rw e at run.says }

-- on the cells of a table value, which may hold more than its transitions
module _ (t : Table) (trace : List ℕ) (start : ℕ) (stamps o₀ d₀ : List ℕ) (p : Passes (first (machine_of t) trace start stamps o₀ d₀)) where
  abbrev own : List Transition
  own = (machine_of t).transitions

  abbrev made : List Row
  made = take (length own) (cells_of own)

  held : transitions made ≡ own
  held = rows-lent (cells_of own) (length own) (omega (arith, p.0, length-cells own p.0)) ∙ rows-cells own

  handed : Handed own trace
  handed = p.1.1.1.0

  pub word-replay : {f : Fields} {o d : List ℕ} → WordRun t.cells trace start stamps o₀ d₀ f o d → ReplayOutcome (machine_of t) trace start stamps o₀ d₀ f o d
  word-replay run =
      let here = named-trace t.cells t.count handed.start handed.end trace handed.path in
      let there = named-trace made (length made) handed.start handed.end trace (rw held handed.path) ∙ rw held refl in
      rows-replay (machine_of t) (passed-valid (machine_of t) trace start stamps o₀ d₀ p) trace start stamps o₀ d₀ made held p (word-same (here ∙ sym there) run)
