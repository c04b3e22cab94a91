-- What the parts of a move ensure.
use Rattle.std.specs.Prelude.{◌≡◌, List, ℕ, ◌<◌, length, Result, Ok, Err, Option, Some, None}
use Rattle.model.specs.Table.{Transition, Machine, at}
use Rattle.model.specs.Word.{Fits}
use Rattle.table.specs.Tests.{Answered}
use Rattle.records.specs.declared.Pending.{Pending}
use Rattle.player.specs.declared.Config.{Config}
use Rattle.player.specs.declared.Move.{Move}
use Rattle.player.specs.declared.Done.{Done}
use Rattle.player.specs.declared.Denial.{Denial}
use Rattle.player.specs.Answer.{Answer, answer_fields}
use Rattle.player.specs.Moves.{move_tests, MoveDone}

-- the next configuration with what is told of it, or a denial
abbrev pub Next : Type 0
Next = Result (Config × Done) Denial

-- a denial hands back the configuration that was given
abbrev pub config_after : Config → Next → Config
config_after c (Ok x) = x.0
config_after c (Err d) = c

abbrev pub answer_after : Next → Answer
answer_after (Ok x) = Ok x.1
answer_after (Err d) = Err d

-- a move by its own tests, after the others
abbrev pub Stepped : Machine → Config → List Pending → Move → Next → List Pending → Type 0
Stepped m c l mv r l' =
    Answered (move_tests m c l mv) (λ f. MoveDone m c l mv f (config_after c r) l') ((config_after c r ≡ c) × (l' ≡ l)) (answer_fields (answer_after r))

-- a transition that leaves the state with the letter, its guard holding the timer
pub record Opens (t : Transition) (state letter timer : ℕ) : Type 0 where
  pub leaves : t.from ≡ state
  pub asks : t.input ≡ letter
  pub fits : Fits 256 t timer

-- the lowest open one, or none is open
pub record LowestOpen (ts : List Transition) (state letter timer i : ℕ) : Type 0 where
  pub known : i < length ts
  pub opened : Opens (at ts i) state letter timer
  pub lowest : (j : ℕ) → j < i → Opens (at ts j) state letter timer → ⊥

abbrev pub FirstOpen : List Transition → ℕ → ℕ → ℕ → Option ℕ → Type 0
FirstOpen ts state letter timer (Some i) = LowestOpen ts state letter timer i
FirstOpen ts state letter timer None = (j : ℕ) → j < length ts → Opens (at ts j) state letter timer → ⊥
