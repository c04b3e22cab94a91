-- Two outcomes that the contract of a night on bytes allows are equal, and what is said of a word.
use mathlib.Core.Path.{◌≡◌, sym, ap, ◌∙◌}
use mathlib.Core.List.{List, [], ◌∷◌}
use Prim.Native.Nat.{ℕ, ◌*◌, ◌/◌, ◌<◌}
use native.Mathlib.Omega.{arith}
use lib.ListN.{length}
use Rattle.model.specs.Answers.{Fields}
use Rattle.model.specs.Table.{Machine}
use Rattle.model.specs.Stamps.{gaps_from}
use Rattle.model.proofs.Paths.{length-steps}
use Rattle.wire.specs.Bytes.{le, bytes, wholes}
use Rattle.table.specs.Tests.{Passes}
use Rattle.table_file.specs.File.{read_file}
use Rattle.table.proofs.TestLaws.{answered-only}
use Rattle.places.specs.Places.{path_in, trace_test}
use Rattle.places.proofs.PlaceLaws.{length-wholes}
use Rattle.places.proofs.ReadingLaws.{on-file}
use Rattle.on_bytes.specs.Replays.{ReplayOnMachine, sizes_tests}
use Rattle.on_bytes.proofs.OnlyLaws.{replay-machine-only}
use Rattle.night.specs.Night.{Words, words_fields, part, WordPlays}
use Rattle.night.proofs.PartLaws.{next_fits, length_part}
use Rattle.night.proofs.OutcomeLaws.{words-said, each-only, PlayedOrMissed, played-or-missed}
use Rattle.night_bytes.specs.NightBytes.{size_tests, WordsBytesOutcome}

module _ (trace starts stamps o₀ d₀ m₀ : List ℕ) where
  abbrev n : ℕ
  n = length trace / 2

  abbrev words : ℕ
  words = length starts / 4

  abbrev Single : Machine → (w : ℕ) (o₀ d₀ o d mark : List ℕ) → Type 0
  Single m w o₀ d₀ o d mark =
      WordPlays (λ f. ReplayOnMachine m trace (le 4 starts (w * 4)) (part (n * 4) w stamps) o₀ d₀ f o d) (λ step. mark ≡ bytes 2 (step ∷ []))

  one : (m : Machine) (w : ℕ) → w < words → (x y z x' y' z' : List ℕ) → Single m w (part (n * 2) w o₀) (part (n * 4) w d₀) x y z
      → Single m w (part (n * 2) w o₀) (part (n * 4) w d₀) x' y' z' → (x ≡ x') × (y ≡ y') × (z ≡ z')
  one m w h x y z x' y' z' p q =
      let e = replay-machine-only m trace (le 4 starts (w * 4)) (part (n * 4) w stamps) (part (n * 2) w o₀) (part (n * 4) w d₀) p.said q.said
      x y x' y' p.outcome q.outcome in
      (e.1, e.2, p.marked ∙ ap (λ (f : Fields). bytes 2 (f.first ∷ [])) e.0 ∙ sym q.marked)

  -- by number and values, then as answers
  pub words-fields-only : (file : List ℕ) (f g : Fields) (o d k o' d' k' : List ℕ) → WordsBytesOutcome file trace starts stamps o₀ d₀ m₀ f o d k
      → WordsBytesOutcome file trace starts stamps o₀ d₀ m₀ g o' d' k' → (f ≡ g) × (o ≡ o') × (d ≡ d') × (k ≡ k')
  words-fields-only file f g o d k o' d' k' =
      on-file (read_file file) _ _ _ _
      (λ n p x y. (x.0 ∙ sym y.0, x.1 ∙ sym y.1, x.2 ∙ sym y.2, x.3 ∙ sym y.3))
      (λ m. answered-only {R = (f ≡ g) × (o ≡ o') × (d ≡ d') × (k ≡ k')} (λ e x y. (e, x.0 ∙ sym y.0, x.1 ∙ sym y.1, x.2 ∙ sym y.2))
      (λ x y.
      let e = each-only (n * 2) (n * 4) 2 words o₀ d₀ m₀ o d k o' d' k' (one m) x.1 y.1 in
      (x.0 ∙ sym y.0, e.0, e.1, e.2)))

  pub words-bytes-only : (file : List ℕ) (r s : Words) (o d k o' d' k' : List ℕ) → WordsBytesOutcome file trace starts stamps o₀ d₀ m₀ (words_fields r) o d k
      → WordsBytesOutcome file trace starts stamps o₀ d₀ m₀ (words_fields s) o' d' k' → (r ≡ s) × (o ≡ o') × (d ≡ d') × (k ≡ k')
  words-bytes-only file r s o d k o' d' k' x y =
      let e = words-fields-only file (words_fields r) (words_fields s) o d k o' d' k' x y in
      (words-said r s e.0, e.1, e.2, e.3)

  -- a word is played, or refused with 9 or 12 by a step of the trace
  pub word-bytes-said : (m : Machine) → Passes (trace_test m trace ∷ size_tests n starts stamps o₀ d₀ m₀) → (w : ℕ) (o d : List ℕ) {Marked : ℕ → Type 0} → w < words
      → (x : WordPlays (λ f. ReplayOnMachine m trace (le 4 starts (w * 4)) (part (n * 4) w stamps) (part (n * 2) w o₀) (part (n * 4) w d₀) f o d) Marked)
      → PlayedOrMissed n x.said
  word-bytes-said m p w o d h x =
      let fits = next_fits w words n h in
      let room = p.1.1.0 in
      let even = p.1.0.3 in
      let es : length (part (n * 4) w stamps) ≡ n * 4 = length_part (n * 4) w stamps (omega arith) in
      let eo : length (part (n * 2) w o₀) ≡ n * 2 = length_part (n * 2) w o₀ (omega (arith, room.order_room, length-wholes 2 o₀)) in
      let ed : length (part (n * 4) w d₀) ≡ n * 4 = length_part (n * 4) w d₀ (omega (arith, room.due_room, length-wholes 4 d₀)) in
      let s : length (path_in m trace) ≡ n = length-steps m.transitions (wholes 2 trace) ∙ length-wholes 2 trace in
      rw (← s)
      (played-or-missed (sizes_tests m trace (part (n * 4) w stamps) (part (n * 2) w o₀) (part (n * 4) w d₀)) (path_in m trace)
      (gaps_from (le 4 starts (w * 4)) (wholes 4 (part (n * 4) w stamps))) (p.0, ((omega arith, omega arith), ((omega arith, omega arith), tt)))
      (λ d. d.0) x.outcome)
