-- A chain of accepted calls is a run: what the configuration holds, and what the calls tell of it.
use mathlib.Core.Path.{◌≡◌, refl, sym, ap, ◌∙◌, subst}
use mathlib.Core.List.{List, [], ◌∷◌, ◌++◌}
use Prim.Native.Nat.{ℕ, ◌+◌, ◌≤◌, ◌<◌}
use native.Mathlib.Omega.{arith}
use lib.ListN.{length}
use Rattle.model.specs.Answers.{Fields, fields}
use Rattle.model.specs.Table.{Machine, Valid, at}
use Rattle.model.specs.Verdict.{Splits}
use Rattle.model.specs.Word.{Symbol}
use Rattle.model.specs.Order.{Response}
use Rattle.model.proofs.Paths.{length-steps}
use Rattle.table.specs.Tests.{Passes}
use Rattle.table.proofs.TestLaws.{answered-done, passes-valid}
use Rattle.records.specs.declared.Pending.{Pending}
use Rattle.player.specs.declared.Config.{Config}
use Rattle.player.specs.declared.Move.{Move}
use Rattle.player.specs.declared.Move.TheVariants.{Time, Input, Output}
use Rattle.player.specs.Moves.{start_tests, play_tests, InputDone, OutputDone, MoveDone, PlayOutcome, StartOutcome}
use Rattle.playing.specs.Runs.{Play, begin, passed, taken, Run, starts}
use Rattle.playing.proofs.Past.{past}
use Rattle.agree.specs.Chain.{Call, Chain, begun, called}
use Rattle.agree.specs.Holds.{Holds, Told}
use Rattle.agree.proofs.Moves.{
  time-runs,
  time-room,
  time-holds,
  input-runs,
  input-room,
  input-holds,
  issued,
  output-runs,
  output-room,
  output-holds,
  output-step,
  output-letter,
}

-- an accepted move: its tests hold, and it is done
pub accepted : {m : Machine} {c c' : Config} {l l' : List Pending} (mv : Move) {i j : ℕ} → PlayOutcome m c l mv (fields 0 i j 0) c' l'
    → Passes (play_tests m c l mv) × MoveDone m c l mv (fields 0 i j 0) c' l'
accepted (Time t) o = answered-done (omega arith) (λ a b. omega arith) o
accepted (Input letter) o = answered-done (omega arith) (λ a b. omega arith) o
accepted Output o = answered-done (omega arith) (λ a b. omega arith) o

-- the run that a chain is
pub record Ran (m : Machine) (c : Config) (l : List Pending) (h : List Call) (p : Play) : Type 0 where
  pub valid : Valid m
  pub unsplit : Splits m → ⊥
  pub run : Run m 256 p
  pub holds : Holds c l p
  pub told : Told h p
  pub room : 240 ≤ length l
  pub most : c.inputs ≤ 512

pub start-ran : (m : Machine) (c : Config) (l : List Pending) → StartOutcome m (length l) (fields 0 0 0 0) c → Ran m c l [] (begin m)
start-ran m c l o =
    let d = answered-done (omega arith) (λ a b. omega arith) o in
    let tests = d.0 in
    record {
      valid = passes-valid m (start_tests m (length l)) tests;
      unsplit = tests.1.1.1.1.0;
      run = starts;
      holds = subst (λ (z : Config). Holds z l (begin m)) (sym d.1.1)
          (record { state = refl; timer = refl; inputs = refl; count = refl; lent = omega arith; records = refl });
      told = record { trace = refl; symbols = refl; issued = refl; clock = refl; since = refl };
      room = tests.1.1.1.0;
      most = rw d.1.1 (omega arith);
    }

snoc-same : {A : Type 0} {a b : List A} {x y : A} → a ≡ b → x ≡ y → a ++ (x ∷ []) ≡ b ++ (y ∷ [])
snoc-same e f = rw (e, f)

symbol-same : {a b g k : ℕ} → a ≡ b → g ≡ k → ◌≡◌ {A = Symbol} (record { letter = a; gap = g }) (record { letter = b; gap = k })
symbol-same e f = rw (e, f)

response-same : {a b g k t u : ℕ} → a ≡ b → g ≡ k → t ≡ u
    → ◌≡◌ {A = Response} (record { step = a; output = g; time = t }) (record { step = b; output = k; time = u })
response-same e f g = rw (e, f, g)

-- as many responses are owed as inputs were taken
pub even : {m : Machine} {p : Play} → Run m 256 p → length p.owed ≡ length p.trace
even {m} {p} r = (past m 256 (omega arith) r).count ∙ length-steps m.transitions p.trace

module _ {m : Machine} {c c' : Config} {l l' : List Pending} {h : List Call} {p : Play} (x : Ran m c l h p) where
  pub time-ran : (t i j : ℕ) → PlayOutcome m c l (Time t) (fields 0 i j 0) c' l'
      → Ran m c' l' (record { move = Time t; first = i; second = j } ∷ h) (passed t p)
  time-ran t i j o =
      let a = accepted {m = m} (Time t) o in
      let soon = a.0.1.1.1.1.1.0 in
      let d = a.1 in
      record {
        valid = x.valid;
        unsplit = x.unsplit;
        run = time-runs x.holds x.run t soon d;
        holds = time-holds x.holds x.run t soon d;
        told = record {
          trace = x.told.trace;
          symbols = x.told.symbols;
          issued = x.told.issued;
          clock = ap (λ (n : ℕ). n + t) x.told.clock;
          since = ap (λ (n : ℕ). n + t) x.told.since;
        };
        room = omega (arith, x.room, time-room x.holds x.run t soon d);
        most = omega (arith, x.most, ap (λ (z : Config). z.inputs) d.config);
      }

  pub input-ran : (letter i j : ℕ) → Passes (play_tests m c l (Input letter)) → (d : InputDone m c l letter (fields 0 i j 0) c' l')
      → Ran m c' l' (record { move = Input letter; first = i; second = j } ∷ h) (taken 256 d.i (at m.transitions d.i) p)
  input-ran letter i j a d =
      let tests = a.1.1.1.1.1 in
      let says : i ≡ d.i = ap (λ (f : Fields). f.first) d.says in
      let room : c.waiting < length l = omega (arith, tests.1.1.1.1.0, x.room) in
      record {
        valid = x.valid;
        unsplit = x.unsplit;
        run = input-runs x.holds x.run x.valid (even x.run) letter d.i d.opened tests.1.0;
        holds = input-holds x.holds x.run x.valid (even x.run) letter d.i d.opened tests.1.0 d.config d.list;
        told = record {
          trace = snoc-same x.told.trace (sym says);
          symbols = snoc-same x.told.symbols (symbol-same d.opened.asks x.told.since);
          issued = x.told.issued;
          clock = x.told.clock;
          since = refl;
        };
        room = omega (
          arith,
          x.room,
          ap length d.list,
          input-room x.holds x.run x.valid (even x.run) letter d.i d.opened
              tests.1.0 room,
        );
        most = omega (arith, tests.1.1.1.0, ap (λ (z : Config). z.inputs) d.config);
      }

  pub output-ran : (i j : ℕ) (d : OutputDone c l (fields 0 i j 0) c' l')
      → Ran m c' l' (record { move = Output; first = i; second = j } ∷ h) (issued x.holds x.run d)
  output-ran i j d =
      let step : i ≡ d.first.it.step = ap (λ (f : Fields). f.first) d.says in
      let letter : j ≡ d.first.it.letter = ap (λ (f : Fields). f.second) d.says in
      record {
        valid = x.valid;
        unsplit = x.unsplit;
        run = output-runs x.holds x.run d;
        holds = output-holds x.holds x.run d;
        told = record {
          trace = x.told.trace;
          symbols = x.told.symbols;
          issued = snoc-same x.told.issued (response-same (output-step x.holds x.run d ∙ sym step) (output-letter x.holds x.run d
              ∙ sym letter) x.told.clock);
          clock = x.told.clock;
          since = x.told.since;
        };
        room = omega (arith, x.room, output-room x.holds x.run d);
        most = omega (arith, x.most, ap (λ (z : Config). z.inputs) d.config);
      }

pub ran : {m : Machine} {c : Config} {l : List Pending} {h : List Call} → Chain m c l h → (p : Play) × Ran m c l h p
ran {m} {c} {l} (begun _ o) = (begin m, start-ran m c l o)
ran {m} (called (Time t) i j x s o) = let y = ran x in (passed t y.0, time-ran y.1 t i j o)
ran {m} (called (Input letter) i j x s o) =
    let y = ran x in
    let a = accepted {m = m} (Input letter) o in
    (taken 256 a.1.i (at m.transitions a.1.i) y.0, input-ran y.1 letter i j a.0 a.1)
ran {m} (called Output i j x s o) =
    let y = ran x in
    let d = (accepted {m = m} Output o).1 in
    (issued y.1.holds y.1.run d, output-ran y.1 i j d)
