-- What replay answers over lists in bytes, as the contract on bytes says it: the whole places, and what is left over as it was.
use mathlib.Core.Path.{◌≡◌, ◌∙◌}
use mathlib.Core.List.{List, map}
use Prim.Native.Nat.{ℕ, ◌%◌, ◌/◌}
use lib.ListN.{length, length-map}
use Rattle.model.specs.Answers.{Fields}
use Rattle.model.specs.Table.{Machine}
use Rattle.model.proofs.Paths.{length-steps}
use Rattle.wire.specs.Bytes.{Bytes, wholes}
use Rattle.parts.specs.Parts.{left_over}
use Rattle.parts.proofs.WholeLaws.{same_bytes, over-bytes}
use Rattle.table.specs.Tests.{Test, Passes, Fails, refuses, answers}
use Rattle.replay.specs.Play.{lists_tests, ListsOutcome}
use Rattle.replay.proofs.LaidLaws.{conversion-length}
use Rattle.places.proofs.PlaceLaws.{length-wholes}
use Rattle.on_bytes.specs.Replays.{bytes_tests, ReplayOnMachine}

module _ (m : Machine) (trace : List ℕ) (start : ℕ) (stamps o₀ d₀ : List ℕ) where
  abbrev pub Even : ℕ → List ℕ → Type 0
  Even w b = length b % w ≡ 0

  abbrev lists : List Test
  lists = lists_tests m (Even 2 trace) (Even 4 stamps) (wholes 2 trace) start (wholes 4 stamps) (wholes 2 o₀) (wholes 4 d₀)

  bytes-fails : (n p : ℕ) → Fails lists n p → Fails (bytes_tests m trace start stamps o₀ d₀) n p
  bytes-fails n p b = rw (length-wholes 4 stamps, length-wholes 2 trace, length-wholes 2 o₀, length-wholes 4 d₀) at b

  bytes_pass : Passes lists → Passes (bytes_tests m trace start stamps o₀ d₀)
  bytes_pass b = rw (length-wholes 4 stamps, length-wholes 2 trace, length-wholes 2 o₀, length-wholes 4 d₀) at b

  module _ (bo₀ : Bytes o₀) (bd₀ : Bytes d₀) {o d : List ℕ} (bo : Bytes o) (bd : Bytes d)
      (ro : left_over 2 o ≡ left_over 2 o₀) (rd : left_over 4 d ≡ left_over 4 d₀) where
    pub bytes-answer : {f : Fields}
        → ListsOutcome m (Even 2 trace) (Even 4 stamps) (wholes 2 trace) start (wholes 4 stamps) (wholes 2 o₀) (wholes 4 d₀) f (wholes 2 o) (wholes 4 d)
        → ReplayOnMachine m trace start stamps o₀ d₀ f o d
    bytes-answer (refuses {n = n} {p = p} z b k) = refuses z (bytes-fails n p b) (same_bytes 2 bo bo₀ k.0 ro, same_bytes 4 bd bd₀ k.1 rd)
    bytes-answer (answers q x) =
        let k = x.1 in
        let room = (bytes_pass q).1.1.0 in
        let all : length k.responses ≡ length trace / 2 =
        conversion-length k.converts ∙ length-steps m.transitions (wholes 2 trace) ∙ length-wholes 2 trace in
        answers (bytes_pass q) (
          x.0,
          record {
            activates = k.activates;
            responses = k.responses;
            converts = k.converts;
            orders = over-bytes 2 o o₀ bo bo₀ (length trace / 2) (map (λ r. r.step) k.responses)
                (length-map k.responses (λ r. r.step) ∙ all) room.0 (rw (length-wholes 2 trace) at k.orders) ro;
            dues = over-bytes 4 d d₀ bd bd₀ (length trace / 2) (map (λ r. r.time) k.responses)
                (length-map k.responses (λ r. r.time) ∙ all) room.1 (rw (length-wholes 2 trace) at k.dues) rd;
          },
        )
