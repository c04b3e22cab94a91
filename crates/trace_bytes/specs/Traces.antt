-- What the verdict on a trace in bytes answers, and what it leaves in the lent memory.
use Rattle.std.specs.Prelude.{◌≡◌, ℕ, ◌*◌, ◌/◌, ◌≤◌, List, [], ◌∷◌, length}
use Rattle.model.specs.Answers.{Fields, fields}
use Rattle.model.specs.Lists.{over}
use Rattle.model.specs.Table.{Machine}
use Rattle.wire.specs.Bytes.{bytes}
use Rattle.table.specs.Tests.{Test, unless, Answered}
use Rattle.table_file.specs.File.{read_file}
use Rattle.verdict.specs.OnTrace.{TraceSays}
use Rattle.places.specs.OnFile.{on_file}
use Rattle.places.specs.Places.{path_in, trace_test}

-- the tests after the file's: steady or not, two stamps per step are asked for
abbrev pub bytes_tests : Machine → List ℕ → List ℕ → List Test
bytes_tests m trace stamps₀ = trace_test m trace ∷ unless 8 (2 * (length trace / 2) ≤ length stamps₀ / 4) ∷ []

-- with a machine that was read: what the verdict on values says, the stamps of both words in bytes; a refusal writes nothing
abbrev pub TraceOnMachine : Machine → List ℕ → List ℕ → Fields → List ℕ → Type 0
TraceOnMachine m trace stamps₀ f stamps =
    Answered (bytes_tests m trace stamps₀)
    (TraceSays (path_in m trace) (stamps ≡ stamps₀) (λ s. stamps ≡ over (bytes 4 s) stamps₀)) (stamps ≡ stamps₀) f

abbrev pub JudgeTraceBytesOutcome : List ℕ → List ℕ → List ℕ → Fields → List ℕ → Type 0
JudgeTraceBytesOutcome file trace stamps₀ f stamps =
    on_file (read_file file) (λ n p. (f ≡ fields n p 0 0) × (stamps ≡ stamps₀)) (λ m. TraceOnMachine m trace stamps₀ f stamps)
