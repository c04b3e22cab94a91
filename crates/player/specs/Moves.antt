-- What each move tests, and what it hands back.
use Rattle.std.specs.Prelude.{◌≡◌, List, [], ◌∷◌, ◌++◌, map, ℕ, suc, ◌+◌, ◌*◌, ◌-◌, ◌≤◌, ◌<◌, min, length, take, drop}
use Rattle.model.specs.Answers.{Fields, fields}
use Rattle.model.specs.Lists.{All, Sorted}
use Rattle.model.specs.Table.{Machine, at}
use Rattle.model.specs.Verdict.{Splits}
use Rattle.table.specs.Tests.{Test, unless, Answered, after_table}
use Rattle.records.specs.declared.Pending.{Pending}
use Rattle.records.specs.Record.{Sane}
use Rattle.playing.specs.Runs.{Open}
use Rattle.player.specs.declared.Config.{Config}
use Rattle.player.specs.declared.Move.{Move}
use Rattle.player.specs.declared.Move.TheVariants.{Time, Input, Output}

-- the waiting responses are the first records of a lent list
abbrev pub waiting_in : Config → List Pending → List Pending
waiting_in c l = take c.waiting l

-- not damaged: the state in the table, the timer at most 4,096 ticks, at most 512 inputs, no more waiting than 240 or than lent, steps that rise
-- within the inputs so far, no time left above 240 ticks
pub record Whole (m : Machine) (c : Config) (l : List Pending) : Type 0 where
  pub state : c.state < m.states
  pub timer : c.timer ≤ 1048576
  pub inputs : c.inputs ≤ 512
  pub few : c.waiting ≤ 240
  pub lent : c.waiting ≤ length l
  pub rises : Sorted ◌<◌ (map (λ p. p.step) (waiting_in c l))
  pub sane : All (Sane c.inputs) (waiting_in c l)

-- an output issues the lowest step now due: the first record whose time left is 0
pub record FirstDue (w : List Pending) : Type 0 where
  pub before : List Pending
  pub it : Pending
  pub after : List Pending
  pub stands : w ≡ before ++ (it ∷ after)
  pub due : it.left ≡ 0
  pub later : All (λ p. 0 < p.left) before

-- what a move tests after the table, the configuration and the room
abbrev pub move_tests : Machine → Config → List Pending → Move → List Test
move_tests m c l (Time t) = unless 11 (All (λ p. t ≤ p.left) (waiting_in c l)) ∷ []
move_tests m c l (Input letter) =
    unless 10 ((i : ℕ) × Open 256 m.transitions c.state letter c.timer i) ∷
    unless 11 (All (λ p. 0 < p.left) (waiting_in c l)) ∷
    unless 13 (Splits m → ⊥) ∷
    unless 14 (c.inputs < 512) ∷
    unless 15 (c.waiting < 240) ∷ []
move_tests m c l Output = unless 11 (FirstDue (waiting_in c l)) ∷ []

abbrev pub play_tests : Machine → Config → List Pending → Move → List Test
play_tests m c l mv = after_table m (unless 15 (Whole m c l) ∷ unless 8 (240 ≤ length l) ∷ move_tests m c l mv)

-- time t passes: the timer stops at 4,096 ticks, and records beyond those that wait are as they were
pub record TimeDone (c : Config) (l : List Pending) (t : ℕ) (f : Fields) (c' : Config) (l' : List Pending) : Type 0 where
  pub says : f ≡ fields 0 0 0 0
  pub config : c' ≡ record { state = c.state; inputs = c.inputs; waiting = c.waiting; timer = min (c.timer + t) 1048576 }
  pub list : l' ≡ map (λ p. record { step = p.step; letter = p.letter; left = p.left - t }) (waiting_in c l) ++ drop c.waiting l

-- the lowest open transition takes the input, and its response waits, in the first place after the waiting ones
pub record InputDone (m : Machine) (c : Config) (l : List Pending) (letter : ℕ) (f : Fields) (c' : Config) (l' : List Pending) : Type 0 where
  pub i : ℕ
  pub opened : Open 256 m.transitions c.state letter c.timer i
  pub lowest : (j : ℕ) → Open 256 m.transitions c.state letter c.timer j → i ≤ j
  pub says : f ≡ fields 0 i 0 0
  pub config : c' ≡ record { state = (at m.transitions i).to; inputs = suc c.inputs; waiting = suc c.waiting; timer = 0 }
  pub list : l' ≡ waiting_in c l ++ (record { step = suc c.inputs; letter = (at m.transitions i).output; left = (at m.transitions i).d * 256 }
      ∷ drop (suc c.waiting) l)

-- the lowest step now due is issued: later records move down, and the freed last place keeps what it held
pub record OutputDone (c : Config) (l : List Pending) (f : Fields) (c' : Config) (l' : List Pending) : Type 0 where
  pub first : FirstDue (waiting_in c l)
  pub says : f ≡ fields 0 first.it.step first.it.letter 0
  pub config : c' ≡ record { state = c.state; inputs = c.inputs; waiting = c.waiting - 1; timer = c.timer }
  pub list : l' ≡ (first.before ++ first.after) ++ drop (c.waiting - 1) l

abbrev pub MoveDone : Machine → Config → List Pending → Move → Fields → Config → List Pending → Type 0
MoveDone m c l (Time t) f c' l' = TimeDone c l t f c' l'
MoveDone m c l (Input letter) f c' l' = InputDone m c l letter f c' l'
MoveDone m c l Output f c' l' = OutputDone c l f c' l'

-- a move: refused, and configuration and list are those that were given; or the next configuration and the list after it
abbrev pub PlayOutcome : Machine → Config → List Pending → Move → Fields → Config → List Pending → Type 0
PlayOutcome m c l mv f c' l' = Answered (play_tests m c l mv) (λ f. MoveDone m c l mv f c' l') ((c' ≡ c) × (l' ≡ l)) f

-- the configuration of state s before any move
abbrev pub fresh : ℕ → Config
fresh s = record { state = s; inputs = 0; waiting = 0; timer = 0 }

abbrev pub start_tests : Machine → ℕ → List Test
start_tests m lent = unless 8 (240 ≤ lent) ∷ unless 13 (Splits m → ⊥) ∷ []

-- the start with so many records lent; a refused one hands back nothing but zeros
abbrev pub StartOutcome : Machine → ℕ → Fields → Config → Type 0
StartOutcome m lent f c' =
    Answered (after_table m (start_tests m lent)) (λ f. (f ≡ fields 0 0 0 0) × (c' ≡ fresh m.initial)) (c' ≡ fresh 0) f
