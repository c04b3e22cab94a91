-- What the player answers on bytes, and what it leaves in the lent memory.
use Rattle.std.specs.Prelude.{◌≡◌, List, [], ◌∷◌, ◌++◌, ℕ, ◌/◌, ◌≤◌, length, drop}
use Rattle.model.specs.Answers.{Fields, fields}
use Rattle.model.specs.Table.{Machine}
use Rattle.model.specs.Verdict.{Splits}
use Rattle.table.specs.Tests.{Test, unless, Answered}
use Rattle.table_file.specs.File.{read_file}
use Rattle.records.specs.declared.Pending.{Pending}
use Rattle.player.specs.declared.Config.{Config}
use Rattle.player.specs.declared.Move.{Move}
use Rattle.player.specs.Moves.{Whole, move_tests, MoveDone, fresh}
use Rattle.places.specs.OnFile.{on_file}
use Rattle.player_bytes.specs.Records.{config_in, config_bytes, records_in, records_bytes}

-- either buffer too short; a split table
abbrev pub start_tests_in : Machine → List ℕ → ℕ → List Test
start_tests_in m config₀ lent = unless 8 ((10 ≤ length config₀) × (240 ≤ lent)) ∷ unless 13 (Splits m → ⊥) ∷ []

-- with a machine that was read, and so many records lent: bytes after the tenth stay; a refusal writes nothing
abbrev pub StartOnMachine : Machine → List ℕ → ℕ → Fields → List ℕ → Type 0
StartOnMachine m config₀ lent f config =
    Answered (start_tests_in m config₀ lent) (λ f. (f ≡ fields 0 0 0 0) × (config ≡ config_bytes (fresh m.initial) ++ drop 10 config₀)) (config ≡ config₀) f

-- room counts whole records; only the configuration is written
abbrev pub StartBytesOutcome : List ℕ → List ℕ → List ℕ → Fields → List ℕ → List ℕ → Type 0
StartBytesOutcome file config₀ waiting₀ f config waiting =
    on_file (read_file file) (λ n p. (f ≡ fields n p 0 0) × (config ≡ config₀)) (λ m. StartOnMachine m config₀ (length waiting₀ / 8) f config)
    × (waiting ≡ waiting₀)

-- a move whose configuration has fewer than 10 bytes is 15; then the move's own tests on what the bytes say
abbrev pub play_tests_in : Machine → List ℕ → List ℕ → Move → List Test
play_tests_in m config₀ waiting₀ mv =
    unless 15 (10 ≤ length config₀) ∷
    unless 15 (Whole m (config_in config₀) (records_in waiting₀)) ∷
    unless 8 (240 ≤ length waiting₀ / 8) ∷
    move_tests m (config_in config₀) (records_in waiting₀) mv

-- what the move on values hands back, in bytes: each buffer then holds what it held
pub record PlayedIn (m : Machine) (config₀ waiting₀ : List ℕ) (mv : Move) (f : Fields) (config waiting : List ℕ) : Type 0 where
  pub next : Config
  pub list : List Pending
  pub done : MoveDone m (config_in config₀) (records_in waiting₀) mv f next list
  pub config_is : config ≡ config_bytes next ++ drop 10 config₀
  pub waiting_is : waiting ≡ records_bytes list ++ drop 1920 waiting₀

-- with a machine that was read; a refusal writes nothing
abbrev pub PlayOnMachine : Machine → List ℕ → List ℕ → Move → Fields → List ℕ → List ℕ → Type 0
PlayOnMachine m config₀ waiting₀ mv f config waiting =
    Answered (play_tests_in m config₀ waiting₀ mv) (λ f. PlayedIn m config₀ waiting₀ mv f config waiting)
    ((config ≡ config₀) × (waiting ≡ waiting₀)) f

abbrev pub PlayBytesOutcome : List ℕ → List ℕ → List ℕ → Move → Fields → List ℕ → List ℕ → Type 0
PlayBytesOutcome file config₀ waiting₀ mv f config waiting =
    on_file (read_file file) (λ n p. (f ≡ fields n p 0 0) × (config ≡ config₀) × (waiting ≡ waiting₀))
    (λ m. PlayOnMachine m config₀ waiting₀ mv f config waiting)
