-- Theorem 1 with both sides in bytes: what the player's calls issue is what replay on bytes writes.
use mathlib.Core.Path.{◌≡◌, refl, sym, ap, ◌∙◌, subst}
use mathlib.Core.List.{List, [], ◌∷◌, ◌++◌, map, append-nil}
use Prim.Native.Nat.{ℕ, ◌+◌, ◌*◌, ◌/◌, ◌^◌, ◌≤◌, ◌<◌}
use native.Mathlib.Omega.{arith}
use lib.ListN.{length, drop}
use Rattle.model.specs.Answers.{Fields, fields}
use Rattle.model.specs.Lists.{total}
use Rattle.model.specs.Table.{Transition, Machine, Valid}
use Rattle.model.specs.Trace.{Handed, steps}
use Rattle.model.specs.Word.{Word, Symbol, Activates}
use Rattle.model.specs.Order.{Conversion}
use Rattle.model.specs.Stamps.{gaps_from, word_from, stamps_after, stamps_of}
use Rattle.model.proofs.Lists.{all-total, total-const}
use Rattle.model.proofs.Pair.{gaps-high}
use Rattle.model.proofs.Paths.{length-steps, trace-known, trace-ranged}
use Rattle.wire.specs.Bytes.{bytes, wholes}
use Rattle.wire.proofs.Bytes.{Held, length-bytes, les-bytes}
use Rattle.table.specs.Tests.{Passes, answers}
use Rattle.table.proofs.TestLaws.{passes_append}
use Rattle.table_file.specs.File.{machine, read_file}
use Rattle.table_file.proofs.FileLaws.{sound}
use Rattle.replay.specs.Play.{own_tests, gap_tests}
use Rattle.replay.proofs.OutcomeLaws.{plays-tested}
use Rattle.agree.specs.Chain.{Call, Chain, trace_of, word_of, issued_of}
use Rattle.agree.proofs.Theorems.{takes-trace, activates, converts, back, plays}
use Rattle.places.specs.Places.{path_in}
use Rattle.places.proofs.ReadingLaws.{at-machine}
use Rattle.places.proofs.ShownLaws.{known-fits}
use Rattle.on_bytes.specs.Replays.{sizes_tests, word_in, ReplayOnMachine, ReplayBytesOutcome}
use Rattle.on_bytes.proofs.OnlyLaws.{replay-machine-only}
use Rattle.player_bytes.specs.Records.{config_in, records_in}
use Rattle.agree_bytes.specs.ChainBytes.{ChainBytes}
use Rattle.agree_bytes.proofs.Decoded.{on_values, decoded-of}

-- numbers in bytes are read as they were
numbers-back : (w : ℕ) (l : List ℕ) → length l * w / w ≡ length l → Held w l → wholes w (bytes w l) ≡ l
numbers-back w l e f = rw (length-bytes w l, e) (rw (append-nil (bytes w l)) at (les-bytes w l [] f))

-- stamps fit four bytes
stamps-held : (s : ℕ) (l : List Symbol) → s + total (λ x. x.gap) l < 2 ^ 32 → Held 4 (stamps_after s l)
stamps-held s [] h = tt
stamps-held s (x ∷ l) h = (omega arith, stamps-held (s + x.gap) l (omega arith))

module _ {file config₀ waiting₀ config waiting : List ℕ} {h : List Call} (chain : ChainBytes file config₀ waiting₀ config waiting h)
    (m : Machine) (read : read_file file ≡ machine m) (none_waits : (config_in config).waiting ≡ 0) (some : 1 ≤ length (trace_of h)) where
  as_values : Chain m (config_in config) (records_in waiting) h
  as_values = decoded-of chain m read

  abbrev ts : List Transition
  ts = m.transitions

  abbrev l : List ℕ
  l = trace_of h

  abbrev stamps : List ℕ
  stamps = stamps_of (word_of h)

  -- the trace and the stamps in bytes
  abbrev trace-bytes : List ℕ
  trace-bytes = bytes 2 l

  abbrev stamps_bytes : List ℕ
  stamps_bytes = bytes 4 stamps

  valid : Valid m
  valid = (sound file m (on_values chain).bytes read).0

  tested : Passes (own_tests m l stamps l l) × Passes (gap_tests 0 (steps ts l) (gaps_from 0 stamps))
  tested =
      let all = plays-tested m l 0 stamps l l _ _ (plays as_values none_waits some l l (omega arith, omega arith)) in
      (passes_append (own_tests m l stamps l l) (gap_tests 0 (steps ts l) (gaps_from 0 stamps))).0 all.1.1.1

  trace-back : wholes 2 trace-bytes ≡ l
  trace-back = numbers-back 2 l (omega arith) (known-fits (length ts) valid.few (trace-known ts m.initial (config_in config).state l
      (takes-trace as_values none_waits)))

  few : length (steps ts l) ≤ 512
  few = omega (arith, length-steps ts l, tested.0.0.most)

  word-activates : Activates (steps ts l) (word_of h)
  word-activates = activates as_values none_waits

  stamps-back : wholes 4 stamps_bytes ≡ stamps
  stamps-back =
      let good = trace-ranged ts valid.ranged m.initial (config_in config).state l (takes-trace as_values none_waits) in
      let v : total (λ t. t.v) (steps ts l) ≤ 4095 * 512 =
      omega (arith, all-total (λ t. t.v) (λ t. 4095) (λ t g. g.high) good, total-const 4095 (steps ts l), few) in
      numbers-back 4 stamps (omega arith) (stamps-held 0 (word_of h).symbols (omega (arith, gaps-high word-activates)))

  module _ (o₀ d₀ : List ℕ) (roomy : (length l ≤ length o₀ / 2) × (length l ≤ length d₀ / 4)) where
    abbrev issued-order : List ℕ
    issued-order = bytes 2 (map (λ x. x.step) (issued_of h)) ++ drop (2 * length l) o₀

    abbrev issued-due : List ℕ
    issued-due = bytes 4 (map (λ x. x.time) (issued_of h)) ++ drop (4 * length l) d₀

    half : length trace-bytes / 2 ≡ length l
    half = omega (arith, length-bytes 2 l)

    sizes : Passes (sizes_tests m trace-bytes stamps_bytes o₀ d₀)
    sizes = (
      (omega (arith, length-bytes 2 l), subst (Handed ts) (sym trace-back) tested.0.0),
      (
        (omega (arith, length-bytes 4 stamps), omega (arith, length-bytes 4 stamps, half, tested.0.1.0)),
        (
          (omega (arith, half, roomy.0), omega (arith, half, roomy.1)),
          tt,
        ),
      ),
    )

    same-path : path_in m trace-bytes ≡ steps ts l
    same-path = ap (steps ts) trace-back

    same_word : word_in m trace-bytes 0 stamps_bytes ≡ word_of h
    same_word = ap (λ (x : List Transition). word_from x 0 (wholes 4 stamps_bytes)) same-path ∙ ap (word_from (steps ts l) 0) stamps-back
        ∙ back as_values none_waits

    gaps : Passes (gap_tests 0 (path_in m trace-bytes) (gaps_from 0 (wholes 4 stamps_bytes)))
    gaps = subst (λ (x : List Transition). Passes (gap_tests 0 x (gaps_from 0 (wholes 4 stamps_bytes)))) (sym same-path)
        (subst (λ (y : List ℕ). Passes (gap_tests 0 (steps ts l) (gaps_from 0 y))) (sym stamps-back) tested.1)

    moved : (P : List Transition → Word → Type 0) → P (steps ts l) (word_of h) → P (path_in m trace-bytes) (word_in m trace-bytes 0 stamps_bytes)
    moved P x = subst (λ (y : List Transition). P y (word_in m trace-bytes 0 stamps_bytes)) (sym same-path) (subst (P (steps ts l)) (sym same_word) x)

    on-machine : ReplayOnMachine m trace-bytes 0 stamps_bytes o₀ d₀ (fields 0 0 0 0) issued-order issued-due
    on-machine = answers
        ((passes_append (sizes_tests m trace-bytes stamps_bytes o₀ d₀) (gap_tests 0 (path_in m trace-bytes) (gaps_from 0 (wholes 4 stamps_bytes)))).1 (sizes, gaps)) (
          refl,
          record {
            activates = moved Activates word-activates;
            responses = issued_of h;
            converts = moved (λ x w. Conversion x w (issued_of h)) (converts as_values none_waits);
            orders = rw half;
            dues = rw half;
          },
        )

    -- whatever replay's contract on bytes allows on this trace and these stamps, with room, is that it plays them, and writes what was issued
    pub replayed-bytes : (f : Fields) (o d : List ℕ) → ReplayBytesOutcome file trace-bytes 0 stamps_bytes o₀ d₀ f o d
        → (f ≡ fields 0 0 0 0) × (o ≡ issued-order) × (d ≡ issued-due)
    replayed-bytes f o d x =
        let y : ReplayOnMachine m trace-bytes 0 stamps_bytes o₀ d₀ f o d = (at-machine (read_file file) m read _ _).0 x in
        replay-machine-only m trace-bytes 0 stamps_bytes o₀ d₀ f (fields 0 0 0 0) o d issued-order issued-due y on-machine
