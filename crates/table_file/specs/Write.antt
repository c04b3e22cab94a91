-- What the writer answers, and what it leaves in the lent memory.
use Rattle.std.specs.Prelude.{Result, Ok, Err, ◌≡◌, List, [], ◌∷◌, ◌++◌, ℕ, ◌≤◌, length, drop}
use Rattle.model.specs.Answers.{Fields, fields}
use Rattle.model.specs.Table.{Machine}
use Rattle.table.specs.declared.Refusal.{Refusal}
use Rattle.table.specs.Refusal.{refused_fields}
use Rattle.table.specs.Tests.{Test, unless, Answered, after_table}
use Rattle.table_file.specs.File.{file_of}

-- the number of bytes written, or a refusal
abbrev pub Written : Type 0
Written = Result ℕ Refusal

-- written: 0, then the number of bytes
abbrev pub written_fields : Written → Fields
written_fields (Ok n) = fields 0 n 0 0
written_fields (Err r) = refused_fields r

-- 8 unless there is room for the file
abbrev pub room_test : Machine → List ℕ → List Test
room_test m out₀ = unless 8 (length (file_of m) ≤ length out₀) ∷ []

abbrev pub write_tests : Machine → List ℕ → List Test
write_tests m out₀ = after_table m (room_test m out₀)

-- the file's bytes, then what stood there
pub record Writes (m : Machine) (out₀ : List ℕ) (f : Fields) (out : List ℕ) : Type 0 where
  pub counts : f ≡ fields 0 (length (file_of m)) 0 0
  pub is : out ≡ file_of m ++ drop (length (file_of m)) out₀

-- a refusal writes nothing
abbrev pub WriteOutcome : Machine → List ℕ → Fields → List ℕ → Type 0
WriteOutcome m out₀ f out = Answered (write_tests m out₀) (λ f. Writes m out₀ f out) (out ≡ out₀) f
