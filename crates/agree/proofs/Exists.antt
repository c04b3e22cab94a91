-- Every move of a run is an accepted call: so any word of a trace can be played by calls, and all that waits be issued by them.
use mathlib.Core.Path.{◌≡◌, refl, sym, ap, ◌∙◌, subst}
use mathlib.Core.Logic.{dite}
use mathlib.Core.List.{List, [], ◌∷◌, ◌++◌, map, map-append}
use Prim.Native.Nat.{ℕ, suc, ◌+◌, ◌*◌, ◌-◌, ◌≤◌, ◌<◌, ◌^◌, min}
use native.Mathlib.Omega.{arith}
use native.Mathlib.Decide.{dec_lt}
use lib.ListN.{length, get_or, take, drop, length-append, length-map}
use lib.Seq.{take_at, get_or-append_seam, drop-append-add}
use Rattle.model.specs.Answers.{fields}
use Rattle.model.specs.Lists.{In, All, Both}
use Rattle.model.specs.Table.{Transition, Machine, Valid, at, none}
use Rattle.model.specs.Trace.{Trace, Reached, steps}
use Rattle.model.specs.Word.{Word, Symbol, Fits, Takes, Activates}
use Rattle.model.specs.Verdict.{Splits}
use Rattle.model.proofs.Lists.{all-at}
use Rattle.model.proofs.Split.{split-law, overlap-law}
use Rattle.table.specs.Tests.{unless, Passes, answers}
use Rattle.table.proofs.TestLaws.{valid-passes}
use Rattle.records.specs.declared.Pending.{Pending}
use Rattle.player.specs.declared.Config.{Config}
use Rattle.player.specs.declared.Move.{Move}
use Rattle.player.specs.declared.Move.TheVariants.{Time, Input, Output}
use Rattle.player.specs.Moves.{waiting_in, Whole, FirstDue, InputDone, OutputDone, start_tests, move_tests, play_tests, PlayOutcome, StartOutcome, fresh}
use Rattle.playing.specs.Runs.{Wait, Play, begin, passed, taken, given, inputs, Open}
use Rattle.playing.proofs.Past.{past}
use Rattle.playing.proofs.Most.{at-most-240, left-most-240}
use Rattle.playing.proofs.Replayed.{fine}
use Rattle.playing.proofs.Ends.{finish, word}
use Rattle.agree.specs.Chain.{Call, Chain, begun, called, trace_of, symbols_of, Ended}
use Rattle.agree.specs.Holds.{coded, Holds}
use Rattle.agree.proofs.Moves.{no-wait}
use Rattle.agree.proofs.Chains.{Ran, ran, start-ran, time-ran, input-ran, output-ran}
use Rattle.agree.proofs.Theorems.{all-code, chain-whole}

-- in a table that is not split one transition is open at most
open-only : (m : Machine) → Valid m → (Splits m → ⊥) → (s a t i j : ℕ) → Reached m.transitions m.initial s
    → Open 256 m.transitions s a t i → Open 256 m.transitions s a t j → i < j → ⊥
open-only m v one s a t i j way x y h = one ((split-law m v).1 (
  i,
  j,
  record {
    reached = subst (Reached m.transitions m.initial) (sym x.leaves) way;
    ordered = h;
    inside = y.known;
    together = y.leaves ∙ sym x.leaves;
    alike = y.asks ∙ sym x.asks;
    overlap = (overlap-law (at m.transitions i) (at m.transitions j)).1 (256, t, omega arith, x.fits, y.fits);
  },
))

given-same : {a xs : List Wait} {b x : Wait} {c ys : List Wait} (p : Play) → a ≡ xs → b ≡ x → c ≡ ys → given a b c p ≡ given xs x ys p
given-same p e f g = rw (e, f, g)

-- calls after h₀ whose run has come to p
pub record ByCalls (m : Machine) (h₀ : List Call) (p : Play) : Type 0 where
  pub config : Config
  pub list : List Pending
  pub more : List Call
  pub chain : Chain m config list (more ++ h₀)
  pub ran : Ran m config list (more ++ h₀) p

module _ (m : Machine) (h₀ : List Call) where
  abbrev ts : List Transition
  ts = m.transitions

  module _ (p : Play) (y : ByCalls m h₀ p) where
    abbrev c : Config
    c = y.config

    abbrev l : List Pending
    l = y.list

    abbrev hold : Holds c l p
    hold = y.ran.holds

    all_of : {P : Pending → Type 0} → ((x : Wait) → In x p.waiting → P (coded x)) → All P (waiting_in c l)
    all_of {P} f = subst (All P) (sym hold.records) (all-code {P = P} p.waiting f)

    tested : (mv : Move) → Passes (move_tests m c l mv) → Passes (play_tests m c l mv)
    tested mv t = valid-passes m y.ran.valid (unless 15 (Whole m c l) ∷ unless 8 (240 ≤ length l) ∷ move_tests m c l mv) (
      chain-whole y.chain,
      (y.ran.room, t),
    )

    pub wait : (t : ℕ) → t < 2 ^ 32 → ((x : Wait) → In x p.waiting → t ≤ x.left) → ByCalls m h₀ (passed t p)
    wait t small soon =
        let c' : Config = record { state = c.state; inputs = c.inputs; waiting = c.waiting; timer = min (c.timer + t) 1048576 } in
        let l' : List Pending = map (λ x. record { step = x.step; letter = x.letter; left = x.left - t }) (waiting_in c l) ++ drop c.waiting l in
        let o : PlayOutcome m c l (Time t) (fields 0 0 0 0) c' l' = answers (tested (Time t) (
          all_of {P = λ x. t ≤ x.left} soon,
          tt,
        )) (record { says = refl; config = refl; list = refl }) in
        record {
          config = c';
          list = l';
          more = record { move = Time t; first = 0; second = 0 } ∷ y.more;
          chain = called (Time t) 0 0 y.chain small o;
          ran = time-ran y.ran t 0 0 o;
        }

    module _ (letter i : ℕ) (o : Open 256 ts p.state letter p.timer i) (quiet : (x : Wait) → In x p.waiting
        → 0 < x.left) (few : length p.trace < 512) where
      abbrev a : Transition
      a = at ts i

      opened : Open 256 ts c.state letter c.timer i
      opened =
          let high : a.v ≤ 4095 = (all-at none y.ran.valid.ranged i o.known).high in
          let same : c.timer ≡ p.timer = omega (arith, hold.timer, o.fits.within) in
          record { known = o.known; leaves = o.leaves ∙ sym hold.state; asks = o.asks; fits = subst (Fits 256 a) (sym same) o.fits }

      here : Reached ts m.initial c.state
      here = record { way = p.trace; path = subst (Trace ts m.initial p.trace) (sym hold.state) (past m 256 fine y.ran.run).path }

      lowest : (j : ℕ) → Open 256 ts c.state letter c.timer j → i ≤ j
      lowest j x = dite (dec_lt j i) (λ h. absurd (open-only m y.ran.valid y.ran.unsplit c.state letter c.timer j i here x opened h))
          (λ n. omega arith)

      room : c.waiting < 240
      room =
          let n : Wait = record { step = length p.owed; letter = a.output; left = a.d * 256 } in
          omega (arith, at-most-240 m y.ran.valid (inputs letter i y.ran.run o quiet), length-append p.waiting (n ∷ []), hold.count)

      pub input : ByCalls m h₀ (taken 256 i a p)
      input =
          let tests = tested (Input letter) (
            (i, opened),
            (
              all_of {P = λ x. 0 < x.left} quiet,
              (
                y.ran.unsplit,
                (
                  omega (arith, hold.inputs),
                  (
                    room,
                    tt,
                  ),
                ),
              ),
            ),
          ) in
          let c' : Config = record { state = a.to; inputs = suc c.inputs; waiting = suc c.waiting; timer = 0 } in
          let l' : List Pending = waiting_in c l ++ (record { step = suc c.inputs; letter = a.output; left = a.d * 256 } ∷ drop (suc c.waiting) l) in
          let d : InputDone m c l letter (fields 0 i 0 0) c' l' = record { i = i; opened = opened; lowest = lowest; says = refl; config = refl; list = refl }
          in
          record {
            config = c';
            list = l';
            more = record { move = Input letter; first = i; second = 0 } ∷ y.more;
            chain = called (Input letter) i 0 y.chain (omega (arith, o.asks, (all-at none y.ran.valid.ranged i o.known).asks)) (answers tests d);
            ran = input-ran y.ran letter i 0 tests d;
          }

    module _ (xs : List Wait) (x : Wait) (ys : List Wait) (stands : p.waiting ≡ xs ++ (x ∷ ys)) (due : x.left ≡ 0) (rest : (z : Wait) → In z xs
        → 0 < z.left) where
      abbrev first : FirstDue (waiting_in c l)
      first = record {
        before = map coded xs;
        it = coded x;
        after = map coded ys;
        stands = hold.records ∙ ap (map coded) stands ∙ map-append coded xs (x ∷ ys);
        due = due;
        later = all-code {P = λ z. 0 < z.left} xs rest;
      }

      abbrev n : ℕ
      n = length (map coded xs)

      long : n ≡ length xs
      long = length-map xs coded

      same-before : take n p.waiting ≡ xs
      same-before = ap (take n) stands ∙ take_at xs (x ∷ ys) n (sym long)

      same-it : get_or p.waiting n no-wait ≡ x
      same-it = ap (λ (w : List Wait). get_or w n no-wait) stands ∙ ap (λ (k : ℕ). get_or (xs ++ (x ∷ ys)) k no-wait) long ∙ get_or-append_seam xs x ys no-wait

      same_after : drop (suc n) p.waiting ≡ ys
      same_after =
          let k : suc n ≡ length xs + 1 = omega (arith, long) in
          ap (drop (suc n)) stands ∙ ap (λ (j : ℕ). drop j (xs ++ (x ∷ ys))) k ∙ drop-append-add xs (x ∷ ys) 1

      pub output : ByCalls m h₀ (given xs x ys p)
      output =
          let c' : Config = record { state = c.state; inputs = c.inputs; waiting = c.waiting - 1; timer = c.timer } in
          let l' : List Pending = (map coded xs ++ map coded ys) ++ drop (c.waiting - 1) l in
          let d : OutputDone c l (fields 0 (suc x.step) x.letter 0) c' l' = record { first = first; says = refl; config = refl; list = refl } in
          record {
            config = c';
            list = l';
            more = record { move = Output; first = suc x.step; second = x.letter } ∷ y.more;
            chain = called Output (suc x.step) x.letter y.chain tt (answers (tested Output (first, tt)) d);
            ran = subst (Ran m _ _ _) (given-same p same-before same-it same_after) (output-ran y.ran (suc x.step) x.letter d);
          }

    pub soon : (x : Wait) → In x p.waiting → x.left < 2 ^ 32
    soon x i = omega (arith, left-most-240 m y.ran.valid y.ran.run x i)

  -- with none waiting the calls have ended
  ended : (p : Play) (y : ByCalls m h₀ p) → p.waiting ≡ [] → (trace : List ℕ) (symbols : List Symbol) → p.trace ≡ trace → p.symbols ≡ symbols
      → Ended m h₀ trace symbols
  ended p y e trace symbols f g = record {
    config = y.config;
    list = y.list;
    more = y.more;
    chain = y.chain;
    none_waits = y.ran.holds.count ∙ ap length e;
    took = sym y.ran.told.trace ∙ f;
    heard = sym y.ran.told.symbols ∙ g;
  }

  finished : (p : Play) → ByCalls m h₀ p → (trace : List ℕ) (symbols : List Symbol) → p.trace ≡ trace → p.symbols ≡ symbols → Ended m h₀ trace symbols
  finished p y trace symbols f g =
      let z = finish m (ByCalls m h₀) wait input output soon (length p.waiting) p (omega arith) y in
      ended z.play z.good z.none trace symbols (z.trace ∙ f) (z.symbols ∙ g)

-- any chain can be brought to an end with none waiting, by calls that take no input
pub all-issued : {m : Machine} {c : Config} {l : List Pending} {h : List Call} → Chain m c l h → Ended m h (trace_of h) (symbols_of h)
all-issued {m} {c} {l} {h} chain =
    let r = ran chain in
    finished m h r.0 (record { config = c; list = l; more = []; chain = chain; ran = r.1 }) (trace_of h) (symbols_of h) r.1.told.trace
    r.1.told.symbols

-- every word in 1/256 tick that activates a trace of at most 512 steps from the initial state of a valid table that is not split can be played by
-- calls, on any list of at least 240 records, to an end with none waiting
pub any_word : (m : Machine) → Valid m → (Splits m → ⊥) → (l₀ : List Pending) → 240 ≤ length l₀ → (tr : List ℕ) (e : ℕ)
    → Trace m.transitions m.initial tr e
    → (w : Word) → w.q ≡ 256 → Activates (steps m.transitions tr) w → length tr ≤ 512 → Ended m [] tr w.symbols
any_word m v one l₀ room tr e path w q act few =
    let c : Config = fresh m.initial in
    let o : StartOutcome m (length l₀) (fields 0 0 0 0) c = answers (valid-passes m v (start_tests m (length l₀)) (room, (one, tt))) (refl, refl) in
    let y : ByCalls m [] (begin m) = record { config = c; list = l₀; more = []; chain = begun l₀ o; ran = start-ran m c l₀ o } in
    let act' : Both (Takes 256) (steps m.transitions tr) w.symbols = subst (λ (k : ℕ). Both (Takes k) (steps m.transitions tr) w.symbols) q act in
    let z = word m (ByCalls m []) (wait m []) (input m []) (output m []) (soon m []) (λ i h. (all-at none v.ranged i h).high) tr w.symbols
    (begin m) e y refl path act' (omega arith) in
    finished m [] z.play z.good tr w.symbols z.trace z.symbols
