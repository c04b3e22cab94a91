-- A call on bytes that answers for a whole table and may show a trace: the table as a file, transition numbers of two bytes, stamps of four.
use Rattle.std.specs.Prelude.{◌≡◌, List, [], ◌∷◌, ℕ, ◌/◌, ◌≤◌, length}
use Rattle.model.specs.Answers.{Fields, fields}
use Rattle.model.specs.Lists.{over}
use Rattle.model.specs.Table.{Machine}
use Rattle.wire.specs.Bytes.{bytes}
use Rattle.table.specs.Tests.{Test, unless, after_table, Answered}
use Rattle.table_file.specs.File.{read_file}
use Rattle.table.specs.Showing.{Showing, ShownOn}
use Rattle.places.specs.OnFile.{on_file}

-- the test after the file's: a trace places and b stamp places, whole ones
abbrev pub room_tests : ℕ → ℕ → List ℕ → List ℕ → List Test
room_tests a b trace₀ stamps₀ = unless 8 ((a ≤ length trace₀ / 2) × (b ≤ length stamps₀ / 4)) ∷ []

-- the call on values for it, with a trace places and b stamp places
abbrev pub made_for : Machine → ℕ → ℕ → Type 0 → (Fields → List ℕ → List ℕ → Type 0) → List ℕ → List ℕ → Fields → List ℕ → List ℕ → Type 0
made_for m a b Quiet Shows t₀ s₀ = ShownOn (after_table m (unless 8 ((a ≤ length t₀) × (b ≤ length s₀)) ∷ [])) Quiet Shows t₀ s₀

-- how many of them its answer f uses, n and k: none of a quiet one, all that is shown
pub record Uses (Shows : Fields → List ℕ → List ℕ → Type 0) (a b : ℕ) (f : Fields) (n k : ℕ) : Type 0 where
  pub none : f ≡ fields 0 0 0 0 → (n ≡ 0) × (k ≡ 0)
  pub all : (l s : List ℕ) → Shows f l s → (length l ≡ n) × (length s ≡ k) × (n ≤ a) × (k ≤ b)

-- with a machine that was read: what the call on values says, the trace and the stamps in bytes; a refusal writes nothing
abbrev pub ShownBytes : List Test → Type 0 → (Fields → List ℕ → List ℕ → Type 0) → List ℕ → List ℕ → Fields → List ℕ → List ℕ → Type 0
ShownBytes tests Quiet Shows trace₀ stamps₀ f trace stamps =
    Answered tests
    (Showing Quiet Shows ((trace ≡ trace₀) × (stamps ≡ stamps₀)) (λ l s. (trace ≡ over (bytes 2 l) trace₀) × (stamps ≡ over (bytes 4 s) stamps₀)))
    ((trace ≡ trace₀) × (stamps ≡ stamps₀)) f

-- on a file
abbrev pub ShownOnFile : ℕ → ℕ → (Machine → Type 0) → (Machine → Fields → List ℕ → List ℕ → Type 0) → List ℕ → List ℕ → List ℕ → Fields → List ℕ → List ℕ
    → Type 0
ShownOnFile a b Quiet Shows file trace₀ stamps₀ f trace stamps =
    on_file (read_file file) (λ n p. (f ≡ fields n p 0 0) × (trace ≡ trace₀) × (stamps ≡ stamps₀))
    (λ m. ShownBytes (room_tests a b trace₀ stamps₀) (Quiet m) (Shows m) trace₀ stamps₀ f trace stamps)
