-- Every chain on values is a chain on bytes, with the same calls: so what is played by calls on values is played by calls on bytes.
use mathlib.Core.Path.{◌≡◌, refl, sym, ap, ◌∙◌, subst}
use mathlib.Core.List.{List, [], ◌∷◌, ◌++◌}
use Prim.Native.Nat.{ℕ, ◌/◌, ◌≤◌, ◌<◌}
use native.Mathlib.Omega.{arith}
use lib.ListN.{length, drop}
use lib.Seq.{take_at}
use Rattle.model.specs.Answers.{Fields, fields}
use Rattle.model.specs.Lists.{All}
use Rattle.model.specs.Table.{Machine, Valid}
use Rattle.model.specs.Trace.{Trace, steps}
use Rattle.model.specs.Word.{Word, Symbol, Activates}
use Rattle.model.specs.Verdict.{Splits}
use Rattle.wire.specs.Bytes.{Bytes}
use Rattle.table.specs.Tests.{Passes, answers, after_table}
use Rattle.table.proofs.TestLaws.{answered-done}
use Rattle.table_file.specs.File.{machine, read_file}
use Rattle.table_file.proofs.FileLaws.{sound}
use Rattle.records.specs.declared.Pending.{Pending}
use Rattle.player.specs.declared.Config.{Config}
use Rattle.player.specs.declared.Move.{Move}
use Rattle.player.specs.declared.Move.TheVariants.{Time, Input, Output}
use Rattle.player.specs.Moves.{waiting_in, FirstDue, move_tests, MoveDone, PlayOutcome, start_tests, StartOutcome, fresh}
use Rattle.agree.specs.Chain.{Call, Chain, begun, called, Small, trace_of, symbols_of, Ended}
use Rattle.agree.proofs.Chains.{accepted}
use Rattle.agree.proofs.Theorems.{chain-whole}
use Rattle.agree.proofs.Exists.{any_word, all-issued}
use Rattle.places.proofs.ReadingLaws.{at-machine}
use Rattle.player_bytes.specs.Records.{config_in, config_bytes, lent_in, records_in, records_bytes}
use Rattle.player_bytes.specs.Plays.{StartOnMachine, StartBytesOutcome, play_tests_in, PlayedIn, PlayOnMachine}
use Rattle.player_bytes.proofs.HeldLaws.{length_to}
use Rattle.player_bytes.proofs.KeptLaws.{Over, done-over}
use Rattle.player_bytes.proofs.ValueLaws.{Lent, config-says, records-say, start-values}
use Rattle.agree_bytes.specs.ChainBytes.{ChainBytes, begun_bytes, called_bytes, EndedBytes}
use Rattle.agree_bytes.proofs.Decoded.{on_values, decoded-of}

-- a move's tests look at no more than the waiting records
tests-again : (m : Machine) (c : Config) (k l : List Pending) → waiting_in c k ≡ waiting_in c l → (mv : Move) → Passes (move_tests m c l mv)
    → Passes (move_tests m c k mv)
tests-again m c k l e (Time t) p = (subst (All (λ x. t ≤ x.left)) (sym e) p.0, tt)
tests-again m c k l e (Input a) p = (p.0, (subst (All (λ x. 0 < x.left)) (sym e) p.1.0, p.1.1))
tests-again m c k l e Output p = (subst FirstDue (sym e) p.0, tt)

-- calls on bytes, from these buffers, that have come to the same configuration and the same waiting records
pub record Coded (file config₀ waiting₀ : List ℕ) (c : Config) (l : List Pending) (h : List Call) : Type 0 where
  pub config : List ℕ
  pub waiting : List ℕ
  pub chain : ChainBytes file config₀ waiting₀ config waiting h
  pub says : config_in config ≡ c
  pub same : waiting_in c (records_in waiting) ≡ waiting_in c l

module _ (file : List ℕ) (are : Bytes file) (m : Machine) (read : read_file file ≡ machine m) (config₀ waiting₀ : List ℕ) (room : Lent config₀ waiting₀) where
  valid : Valid m
  valid = (sound file m are read).0

  module _ (c : Config) (l : List Pending) (o : StartOutcome m (length l) (fields 0 0 0 0) c) where
    abbrev opening : List ℕ
    opening = config_bytes (fresh m.initial) ++ drop 10 config₀

    started : Passes (after_table m (start_tests m (length l))) × (c ≡ fresh m.initial)
    started = let a = answered-done (omega arith) (λ h k. omega arith) o in (a.0, a.1.1)

    start : StartBytesOutcome file config₀ waiting₀ (fields 0 0 0 0) opening waiting₀
    start =
        let x : StartOnMachine m config₀ (length waiting₀ / 8) (fields 0 0 0 0) opening =
        answers ((room.ten, room.room), (started.0.1.1.1.1.0, tt)) (refl, refl) in
        ((at-machine (read_file file) m read _ _).1 x, refl)

    coded-start : Coded file config₀ waiting₀ c l []
    coded-start =
        let b = answered-done (omega arith) (λ h k. omega arith) (start-values file are config₀ waiting₀ room.bytes opening waiting₀ m read start) in
        record {
          config = opening;
          waiting = waiting₀;
          chain = begun_bytes are room.bytes start;
          says = b.1.1 ∙ sym started.1;
          same = rw started.1;
        }

  -- a move, on buffers that have come to the same
  module _ (c : Config) (l : List Pending) (h : List Call) (y : Coded file config₀ waiting₀ c l h) (mv : Move) (i j : ℕ) (c' : Config) (l' : List Pending)
      (o : PlayOutcome m c l mv (fields 0 i j 0) c' l') where
    abbrev f : Fields
    f = fields 0 i j 0

    abbrev k : List Pending
    k = records_in y.waiting

    lent : Lent y.config y.waiting
    lent = (on_values y.chain).lent

    over : Over m c l mv f c' l'
    over =
        let a = accepted {m = m} mv o in
        let t = a.0.1.1.1 in
        done-over valid t.0 f c' l' mv t.1.0 t.1.1 a.1

    abbrev next : List Pending
    next = over.new ++ drop c'.waiting k

    tests : Passes (play_tests_in m y.config y.waiting mv)
    tests = (
      lent.ten,
      (
        chain-whole (decoded-of y.chain m read),
        (
          lent.room,
          subst (λ (z : Config). Passes (move_tests m z k mv)) (sym y.says)
              (tests-again m c k l y.same mv (accepted {m = m} mv o).0.1.1.1.1.1),
        ),
      ),
    )

    abbrev config : List ℕ
    config = config_bytes c' ++ drop 10 y.config

    abbrev waiting : List ℕ
    waiting = records_bytes next ++ drop 1920 y.waiting

    did : PlayedIn m y.config y.waiting mv f config waiting
    did = record {
      next = c';
      list = next;
      done = subst (λ (z : Config). MoveDone m z k mv f c' next) (sym y.says) (over.again k y.same);
      config_is = refl;
      waiting_is = refl;
    }

    coded-move : Small mv → Coded file config₀ waiting₀ c' l' (record { move = mv; first = i; second = j } ∷ h)
    unfolding did
    coded-move s =
        let x : PlayOnMachine m y.config y.waiting mv f config waiting = answers tests did in
        record {
          config = config;
          waiting = waiting;
          chain = called_bytes mv i j y.chain s ((at-machine (read_file file) m read _ _).1 x);
          says = config-says m valid y.config y.waiting lent.bytes mv f config waiting tests did;
          same = ap (waiting_in c') (records-say m valid y.config y.waiting lent.bytes mv f config waiting tests did)
              ∙ take_at over.new (drop c'.waiting k) c'.waiting over.count
              ∙ sym (ap (waiting_in c') over.is ∙ take_at over.new (drop c'.waiting l) c'.waiting over.count);
        }

  pub coded : {c : Config} {l : List Pending} {h : List Call} → Chain m c l h → Coded file config₀ waiting₀ c l h
  coded {c = c} {l = l} (begun _ o) = coded-start c l o
  coded {c = c'} {l = l'} (called {c = c} {l = l} {h = h} mv i j x s o) = coded-move c l h (coded x) mv i j c' l' o s

  ended : {h : List Call} {trace : List ℕ} {symbols : List Symbol} → Ended m h trace symbols → EndedBytes file config₀ waiting₀ h trace symbols
  ended e =
      let y = coded e.chain in
      record {
        config = y.config;
        waiting = y.waiting;
        more = e.more;
        chain = y.chain;
        none_waits = ap (λ (c : Config). c.waiting) y.says ∙ e.none_waits;
        took = e.took;
        heard = e.heard;
      }

  -- every word in 1/256 tick that activates a trace of at most 512 steps from the initial state of a table that is not split can be played by calls on
  -- bytes, on any buffers with room, to an end with none waiting
  pub any-word-bytes : (Splits m → ⊥) → (tr : List ℕ) (e : ℕ) → Trace m.transitions m.initial tr e → (w : Word) → w.q ≡ 256
      → Activates (steps m.transitions tr) w → length tr ≤ 512 → EndedBytes file config₀ waiting₀ [] tr w.symbols
  any-word-bytes one tr e path w q act few =
      let n : 240 ≤ length (records_in waiting₀) = omega (arith, length_to (lent_in waiting₀) waiting₀, room.room) in
      ended (any_word m valid one (records_in waiting₀) n tr e path w q act few)

-- any chain on bytes can be brought to an end with none waiting, by calls that take no input
pub all-issued-bytes : {file config₀ waiting₀ config waiting : List ℕ} {h : List Call} → ChainBytes file config₀ waiting₀ config waiting h
    → EndedBytes file config₀ waiting₀ h (trace_of h) (symbols_of h)
all-issued-bytes {file} {config₀} {waiting₀} x =
    let y = on_values x in
    ended file y.bytes y.read y.reads config₀ waiting₀ y.first (all-issued y.chain)
