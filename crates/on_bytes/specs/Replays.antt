-- What replay on bytes answers, and what it leaves in the lent memory.
use Rattle.std.specs.Prelude.{◌≡◌, List, [], ◌∷◌, ◌++◌, ℕ, ◌*◌, ◌%◌, ◌/◌, ◌≤◌, length, drop}
use Rattle.model.specs.Answers.{Fields, fields}
use Rattle.model.specs.Table.{Machine}
use Rattle.model.specs.Word.{Word}
use Rattle.model.specs.Stamps.{gaps_from, word_from}
use Rattle.wire.specs.Bytes.{bytes, wholes}
use Rattle.table.specs.Tests.{Test, unless}
use Rattle.table_file.specs.File.{read_file}
use Rattle.replay.specs.Play.{gap_tests, PlayOutcome}
use Rattle.places.specs.OnFile.{on_file}
use Rattle.places.specs.Places.{path_in, trace_test}

-- the tests after the file's that look at no gap
abbrev pub sizes_tests : Machine → List ℕ → List ℕ → List ℕ → List ℕ → List Test
sizes_tests m trace stamps order₀ due₀ =
    trace_test m trace ∷
    unless 7 ((length stamps % 4 ≡ 0) × (length stamps / 4 ≡ length trace / 2)) ∷
    unless 8 ((length trace / 2 ≤ length order₀ / 2) × (length trace / 2 ≤ length due₀ / 4)) ∷ []

-- the tests after the file's
abbrev pub bytes_tests : Machine → List ℕ → ℕ → List ℕ → List ℕ → List ℕ → List Test
bytes_tests m trace start stamps order₀ due₀ =
    sizes_tests m trace stamps order₀ due₀ ++ gap_tests 0 (path_in m trace) (gaps_from start (wholes 4 stamps))

-- the word that stamps in bytes make on a trace
abbrev pub word_in : Machine → List ℕ → ℕ → List ℕ → Word
word_in m trace start stamps = word_from (path_in m trace) start (wholes 4 stamps)

-- with a machine that was read: the steps and the due times in bytes, each then what stood there; a refusal writes nothing
abbrev pub ReplayOnMachine : Machine → List ℕ → ℕ → List ℕ → List ℕ → List ℕ → Fields → List ℕ → List ℕ → Type 0
ReplayOnMachine m trace start stamps order₀ due₀ f order due =
    PlayOutcome (bytes_tests m trace start stamps order₀ due₀) (path_in m trace) (word_in m trace start stamps)
    (λ l. order ≡ bytes 2 l ++ drop (2 * (length trace / 2)) order₀)
    (λ l. due ≡ bytes 4 l ++ drop (4 * (length trace / 2)) due₀)
    ((order ≡ order₀) × (due ≡ due₀)) f

abbrev pub ReplayBytesOutcome : List ℕ → List ℕ → ℕ → List ℕ → List ℕ → List ℕ → Fields → List ℕ → List ℕ → Type 0
ReplayBytesOutcome file trace start stamps order₀ due₀ f order due =
    on_file (read_file file)
    (λ n p. (f ≡ fields n p 0 0) × (order ≡ order₀) × (due ≡ due₀))
    (λ m. ReplayOnMachine m trace start stamps order₀ due₀ f order due)
