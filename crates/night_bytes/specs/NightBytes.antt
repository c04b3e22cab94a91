-- What a night of words answers on bytes, and what it leaves in the lent memory.
use Rattle.std.specs.Prelude.{◌≡◌, List, [], ◌∷◌, ℕ, ◌*◌, ◌%◌, ◌/◌, ◌≤◌, length}
use Rattle.model.specs.Answers.{Fields, fields}
use Rattle.model.specs.Table.{Machine}
use Rattle.wire.specs.Bytes.{le, bytes, wholes}
use Rattle.table.specs.Tests.{Test, unless, Answered}
use Rattle.table_file.specs.File.{read_file}
use Rattle.places.specs.OnFile.{on_file}
use Rattle.places.specs.Places.{trace_test}
use Rattle.on_bytes.specs.Replays.{ReplayOnMachine}
use Rattle.night.specs.Night.{part, Room, EachWord, WordPlays}

-- the tests after the file's and the trace's, for words of n steps: 7 if a byte of start stamps or stamps is left over, for more than 256 words, or if
-- stamps are not words times steps; 8 for room, in whole places
abbrev pub size_tests : ℕ → List ℕ → List ℕ → List ℕ → List ℕ → List ℕ → List Test
size_tests n starts stamps order₀ due₀ marks₀ =
    unless 7 ((length starts % 4 ≡ 0) × (length stamps % 4 ≡ 0) × (length starts / 4 ≤ 256) × (length stamps / 4 ≡ length starts / 4 * n)) ∷
    unless 8 (Room (length starts / 4) n (wholes 2 order₀) (wholes 4 due₀) (wholes 2 marks₀)) ∷ []

-- each word as a replay on its own bytes, from its own start stamp; a mark takes a place of two bytes
abbrev pub AllOnMachine : Machine → List ℕ → List ℕ → List ℕ → List ℕ → List ℕ → List ℕ → List ℕ → List ℕ → List ℕ → Type 0
AllOnMachine m trace starts stamps order₀ due₀ marks₀ order due marks =
    EachWord (length trace / 2 * 2) (length trace / 2 * 4) 2
    (λ w o₀ d₀ o d mark.
    WordPlays (λ f. ReplayOnMachine m trace (le 4 starts (w * 4)) (part (length trace / 2 * 4) w stamps) o₀ d₀ f o d) (λ step. mark ≡ bytes 2 (step ∷ [])))
    (length starts / 4) order₀ due₀ marks₀ order due marks

-- with a machine that was read; a refusal writes nothing
abbrev pub WordsOnMachine : Machine → List ℕ → List ℕ → List ℕ → List ℕ → List ℕ → List ℕ → Fields → List ℕ → List ℕ → List ℕ → Type 0
WordsOnMachine m trace starts stamps order₀ due₀ marks₀ f order due marks =
    Answered (trace_test m trace ∷ size_tests (length trace / 2) starts stamps order₀ due₀ marks₀)
    (λ f. (f ≡ fields 0 (length starts / 4) 0 0) × AllOnMachine m trace starts stamps order₀ due₀ marks₀ order due marks)
    ((order ≡ order₀) × (due ≡ due₀) × (marks ≡ marks₀)) f

abbrev pub WordsBytesOutcome : List ℕ → List ℕ → List ℕ → List ℕ → List ℕ → List ℕ → List ℕ → Fields → List ℕ → List ℕ → List ℕ → Type 0
WordsBytesOutcome file trace starts stamps order₀ due₀ marks₀ f order due marks =
    on_file (read_file file)
    (λ n p. (f ≡ fields n p 0 0) × (order ≡ order₀) × (due ≡ due₀) × (marks ≡ marks₀))
    (λ m. WordsOnMachine m trace starts stamps order₀ due₀ marks₀ f order due marks)
