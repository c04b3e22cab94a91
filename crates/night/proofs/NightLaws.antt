-- The words of a night, and that each is a replay.
use mir.Syntax.{w64}
use mir.Val.{Fits}
use mathlib.Core.Path.{◌≡◌, refl, ◌∙◌}
use mathlib.Core.Logic.{inl, inr}
use mathlib.Core.List.{List, [], ◌∷◌, ◌++◌}
use Prim.Native.Nat.{ℕ, ◌+◌, ◌*◌, ◌-◌, ◌%◌, ◌^◌, ◌≤◌, ◌<◌}
use native.Mathlib.Omega.{arith}
use lib.ListN.{length, get_or, take, drop, set, length-append, length-take, length-drop, length-set}
use Rattle.model.specs.Answers.{Fields}
use Rattle.model.specs.Table.{Machine, Valid}
use Rattle.table.specs.declared.Refusal.{Refusal}
use Rattle.table.specs.declared.Refusal.TheVariants.{NoTrace, Uneven, NoRoom}
use Rattle.std.specs.Prelude.{Ok, Err}
use Rattle.table.specs.declared.Row.{Row}
use Rattle.table.specs.Refusal.{Checked, checked_fields}
use Rattle.table.specs.Rows.{transitions}
use Rattle.table.specs.Tests.{Test, Passes, Fails, refuses, answers, CheckOutcome}
use Rattle.table.proofs.TestLaws.{refused-fails, passes-valid, valid-passes, valid-fails}
use Rattle.trace.specs.Named.{TraceIn}
use Rattle.replay.specs.Laid.{WordRun}
use Rattle.replay.specs.Play as replay
use Rattle.replay.proofs.ReplayLaws.{first, word-place}
use Rattle.replay.proofs.ListsLaws.{held-trace, rows-replay}
use Rattle.night.specs.Night.{words_fields, part, Room, own_tests, words_tests, WordPlays, AllPlay, WordsOutcome, WordsRun, run_tests, ListsWords}
use Rattle.night.proofs.PartLaws.{next_fits, next-end, length_part, set-put, none-words, one_word}

-- the words before w are played, and the next word's places begin at `at`
pub record Playing (c : List Row) (trace starts stamps o₀ d₀ m₀ o d m : List ℕ) (at w : ℕ) : Type 0 where
  pub upto : w ≤ length starts
  pub here : at ≡ w * length trace
  pub order_long : length o ≡ length o₀
  pub due_long : length d ≡ length d₀
  pub marks_long : length m ≡ length m₀
  pub run : WordsRun c trace starts stamps w o₀ d₀ m₀ o d m

pub playing-none : (c : List Row) (trace starts stamps o₀ d₀ m₀ : List ℕ) → Playing c trace starts stamps o₀ d₀ m₀ o₀ d₀ m₀ 0 0
playing-none c trace starts stamps o₀ d₀ m₀ = record {
  upto = omega arith;
  here = omega arith;
  order_long = refl;
  due_long = refl;
  marks_long = refl;
  run = none-words _ _ _ _ _ _ _;
}

module _ {c : List Row} {trace starts stamps o₀ d₀ m₀ o d m : List ℕ} {at w : ℕ} (k : Playing c trace starts stamps o₀ d₀ m₀ o d m at w) where
  pub playing-all : length starts ≤ w → WordsRun c trace starts stamps (length starts) o₀ d₀ m₀ o d m
  playing-all h = let e : w ≡ length starts = omega arith in rw e at k.run

  module _ (pre : (length stamps ≡ length starts * length trace) × Room (length starts) (length trace) o₀ d₀ m₀) (h : w < length starts) where
    -- the places of the word at hand
    pub lent_fits : (at + length trace ≤ length stamps) × (at + length trace ≤ length o) × (at + length trace ≤ length d)
    lent_fits = let room = pre.1 in omega (arith, next_fits w (length starts) (length trace) h)

    -- its place among the marks, and the next word
    pub mark-fits : length starts * 4 < 2 ^ 63
        → Fits w64 (w * 2) × (w < length m) × Fits w64 (w + 1) × (length starts - (w + 1) < length starts - w)
    mark-fits f = let room = pre.1 in (record { fits = omega arith }, omega arith, record { fits = omega arith }, omega arith)

    -- they are lent from `at` to `at + n`
    abbrev lent : List ℕ → List ℕ
    lent l = take (at + length trace - at) (drop at l)

    abbrev back : List ℕ → List ℕ → List ℕ
    back l new = take at l ++ (new ++ drop (at + length trace - at) (drop at l))

    back_long : (l new : List ℕ) → at + length trace ≤ length l → length new ≡ length (lent l) → length (back l new) ≡ length l
    back_long l new f e =
        let e' : length new ≡ length trace = e ∙ simp (length-take, length-drop) (omega arith) in
        simp (length-append, length-take, length-drop) (omega arith)

    run_more : {o' d' : List ℕ} {f : Fields} (mark : ℕ) → length o' ≡ length (lent o) → length d' ≡ length (lent d)
        → WordRun c trace (get_or starts w 0) (lent stamps) (lent o) (lent d) f o' d' → mark ≡ f.first % 2 ^ 16
        → WordsRun c trace starts stamps (w + 1) o₀ d₀ m₀ (back o o') (back d d') (set m w mark)
    run_more {o'} {d'} {f} mark so sd x em =
        let same : mark ≡ f.first = omega (arith, word-place x) in
        let n : ℕ = length trace in
        let ea : at ≡ w * n = k.here in
        let z : w * n + n - w * n ≡ n = omega arith in
        let fits = lent_fits in
        let fo : w * n + n ≤ length o = omega arith in
        let fd : w * n + n ≤ length d = omega arith in
        let room = pre.1 in
        let fm : w * 1 + 1 ≤ length m = omega arith in
        rw (ea, z, set-put m mark w fm)
        (one_word n n 1
        (λ w o₀ d₀ o d k. WordPlays (λ f. WordRun c trace (get_or starts w 0) (part n w stamps) o₀ d₀ f o d) (λ step. k ≡ step ∷ [])) o₀ d₀ m₀
        w o d m o' d' (mark ∷ []) k.run fo fd fm (rw (ea, z) at so ∙ length_part n w o fo) (rw (ea, z) at sd ∙ length_part n w d fd) refl
        (record { said = f; outcome = rw (ea, z) at x; marked = rw same refl }))

    -- one word more
    pub playing-more : {o' d' : List ℕ} {f : Fields} (mark : ℕ) → length o' ≡ length (lent o) → length d' ≡ length (lent d)
        → WordRun c trace (get_or starts w 0) (lent stamps) (lent o) (lent d) f o' d' → mark ≡ f.first % 2 ^ 16
        → Playing c trace starts stamps o₀ d₀ m₀ (back o o') (back d d') (set m w mark) (at + length trace) (w + 1)
    playing-more {o'} {d'} mark so sd x em = record {
      upto = omega arith;
      here = omega (arith, next-end w (length trace));
      order_long = back_long o o' lent_fits.1 so ∙ k.order_long;
      due_long = back_long d d' lent_fits.2 sd ∙ k.due_long;
      marks_long = simp length-set k.marks_long;
      run = run_more mark so sd x em;
    }

-- over lists however they stand in memory: each way out of the tests, and the words played
module _ (c : List Row) (T A S : Type 0) (trace starts stamps o₀ d₀ m₀ : List ℕ) where
  abbrev Out : Fields → List ℕ → List ℕ → List ℕ → Type 0
  Out f o d m = ListsWords c T A S trace starts stamps o₀ d₀ m₀ f o d m

  pub no-trace : (T × TraceIn c (length c) trace → ⊥) → Out (words_fields (Err NoTrace)) o₀ d₀ m₀
  no-trace x = refuses refl (inl (x, refl, refl)) (refl, refl, refl)

  module _ (traced : T × TraceIn c (length c) trace) where
    abbrev Even : Type 0
    Even = A × S × (length starts ≤ 256) × (length stamps ≡ length starts * length trace)

    pub uneven : (Even → ⊥) → Out (words_fields (Err Uneven)) o₀ d₀ m₀
    uneven x = refuses refl (inr (traced, inl (x, refl, refl))) (refl, refl, refl)

    module _ (even : Even) where
      pub cramped : (Room (length starts) (length trace) o₀ d₀ m₀ → ⊥) → Out (words_fields (Err NoRoom)) o₀ d₀ m₀
      cramped x = refuses refl (inr (traced, inr (even, inl (x, refl, refl)))) (refl, refl, refl)

      pub words-played : Room (length starts) (length trace) o₀ d₀ m₀ → {o d m : List ℕ}
          → WordsRun c trace starts stamps (length starts) o₀ d₀ m₀ o d m → Out (words_fields (Ok (length starts))) o d m
      words-played r x = answers (traced, (even, (r, tt))) (refl, x)

-- the call after its tests
module _ (m : Machine) (trace starts stamps o₀ d₀ m₀ : List ℕ) where
  abbrev tests : List Test
  tests = words_tests m trace starts stamps o₀ d₀ m₀

  abbrev n : ℕ
  n = length trace

  module _ (p : Passes tests) where
    pub passed-room : (length stamps ≡ length starts * n) × Room (length starts) n o₀ d₀ m₀
    passed-room = (p.1.1.1.1.0.1, p.1.1.1.1.1.0)

    -- a word's own places pass the tests of a replay that look at no gap
    pub word_first : (w : ℕ) → w < length starts → Passes (first m trace (get_or starts w 0) (part n w stamps) (part n w o₀) (part n w d₀))
    word_first w h =
        let fits : w * n + n ≤ length starts * n = next_fits w (length starts) n h in
        let even : length stamps ≡ length starts * n = passed-room.0 in
        let room : Room (length starts) n o₀ d₀ m₀ = passed-room.1 in
        let es : length (part n w stamps) ≡ n = length_part n w stamps (omega arith) in
        let eo : length (part n w o₀) ≡ n = length_part n w o₀ (omega (arith, room.order_room)) in
        let ed : length (part n w d₀) ≡ n = length_part n w d₀ (omega (arith, room.due_room)) in
        valid-passes m (passes-valid m (own_tests m trace starts stamps o₀ d₀ m₀) p)
        (replay.own_tests m trace (part n w stamps) (part n w o₀) (part n w d₀))
        (p.1.1.1.0, (es, ((omega arith, omega arith), tt)))

-- with a table that is refused
pub numbers-refused : (m : Machine) (trace starts stamps o₀ d₀ m₀ : List ℕ) {a : Checked} {r : Refusal} → a ≡ Err r
    → CheckOutcome m (checked_fields a) → WordsOutcome m trace starts stamps o₀ d₀ m₀ (words_fields (Err r)) o₀ d₀ m₀
numbers-refused m trace starts stamps o₀ d₀ m₀ e x =
    refuses refl (refused-fails m (own_tests m trace starts stamps o₀ d₀ m₀) e x) (refl, refl, refl)

-- numbers as the machine has them are whole, and each word is a replay
module _ (m : Machine) (valid : Valid m) (c : List Row) (held : transitions c ≡ m.transitions) (trace starts stamps o₀ d₀ m₀ : List ℕ) where
  abbrev own : List Test
  own = own_tests m trace starts stamps o₀ d₀ m₀

  plain-fails : (i p : ℕ) → Fails (run_tests c (Unit {0}) (Unit {0}) (Unit {0}) trace starts stamps o₀ d₀ m₀) i p → Fails own i p
  plain-fails i p (inl (n, x, y)) = inl ((λ h. n (tt, held-trace m valid c held trace h)), x, y)
  plain-fails i p (inr (t, inl (n, x, y))) = inr (rw held at t.1.1, inl ((λ e. n (tt, tt, e.0, e.1)), x, y))
  plain-fails i p (inr (t, inr (e, f))) = inr (rw held at t.1.1, inr ((e.2, e.3), f))

  module _ (p : Passes (words_tests m trace starts stamps o₀ d₀ m₀)) {o d marks : List ℕ} (k : WordsRun c trace starts stamps (length starts) o₀ d₀ m₀ o d marks) where
    single : (w : ℕ) → w < length starts
        → WordPlays (λ f. replay.ReplayOutcome m trace (get_or starts w 0) (part (length trace) w stamps)
        (part (length trace) w o₀) (part (length trace) w d₀) f (part (length trace) w o) (part (length trace) w d)) (λ step. part 1 w marks ≡ step ∷ [])
    single w h =
        let n : ℕ = length trace in
        let q = word_first m trace starts stamps o₀ d₀ m₀ p w h in
        let x = k.word w h in
        record {
          said = x.said;
          outcome = rows-replay m valid trace (get_or starts w 0) (part n w stamps) (part n w o₀) (part n w d₀) c held q x.outcome;
          marked = x.marked;
        }

    all-played : AllPlay m trace starts stamps o₀ d₀ m₀ o d marks
    all-played = record { word = single; order_rest = k.order_rest; due_rest = k.due_rest; marks_rest = k.marks_rest }

  pub numbers-words : {f : Fields} {o d marks : List ℕ} → ListsWords c (Unit {0}) (Unit {0}) (Unit {0}) trace starts stamps o₀ d₀ m₀ f o d marks
      → WordsOutcome m trace starts stamps o₀ d₀ m₀ f o d marks
  numbers-words (refuses {n = i} {p = p} z b k) = refuses z ((valid-fails m valid own i p).1 (plain-fails i p b)) k
  numbers-words (answers q x) =
      let p = valid-passes m valid own (rw held at q.0.1.1, ((q.1.0.2, q.1.0.3), q.1.1)) in
      answers p (x.0, all-played p x.1)
