-- What reading and writing a file answers, and what it leaves in the lent memory.
use Rattle.std.specs.Prelude.{◌≡◌, List, [], ◌∷◌, ◌++◌, ℕ, ◌≤◌, length, drop}
use Rattle.model.specs.Answers.{Fields, fields}
use Rattle.table.specs.Tests.{unless, Answered}
use Rattle.table_file.specs.File.{read_file}
use Rattle.places.specs.OnFile.{on_file}

-- room for the file: the file, then what stood there
abbrev pub Rewritten : List ℕ → List ℕ → Fields → List ℕ → Type 0
Rewritten file out₀ f out =
    Answered (unless 8 (length file ≤ length out₀) ∷ [])
    (λ f. (f ≡ fields 0 (length file) 0 0) × (out ≡ file ++ drop (length file) out₀))
    (out ≡ out₀) f

abbrev pub RewriteBytesOutcome : List ℕ → List ℕ → Fields → List ℕ → Type 0
RewriteBytesOutcome file out₀ f out =
    on_file (read_file file) (λ n p. (f ≡ fields n p 0 0) × (out ≡ out₀)) (λ m. Rewritten file out₀ f out)
