-- Chains of the player's accepted calls, and what they tell: the inputs, the transitions taken, the outputs issued.
use Rattle.std.specs.Prelude.{◌≡◌, List, [], ◌∷◌, ◌++◌, ℕ, ◌+◌, ◌<◌, ◌^◌, length}
use Rattle.std.proofs.Common.{lit≤}
use Rattle.model.specs.Answers.{fields}
use Rattle.model.specs.Table.{Machine}
use Rattle.model.specs.Word.{Word, Symbol}
use Rattle.model.specs.Order.{Response}
use Rattle.records.specs.declared.Pending.{Pending}
use Rattle.player.specs.declared.Config.{Config}
use Rattle.player.specs.declared.Move.{Move}
use Rattle.player.specs.declared.Move.TheVariants.{Time, Input, Output}
use Rattle.player.specs.Moves.{StartOutcome, PlayOutcome}

-- an accepted call: the move, and the two values of its answer
pub record Call : Type 0 where
  pub move : Move
  pub first : ℕ
  pub second : ℕ

-- numbers that a call can be handed
abbrev pub Small : Move → Type 0
Small (Time t) = t < 2 ^ 32
Small (Input letter) = letter < 2 ^ 16
Small Output = Unit {0}

-- accepted moves on one table, one after the other from its start: the calls, the last one first
pub data Chain (m : Machine) : Config → List Pending → List Call → Type 0 where
  begun : {c : Config} (l : List Pending) → StartOutcome m (length l) (fields 0 0 0 0) c → Chain m c l []
  called : {c c' : Config} {l l' : List Pending} {h : List Call} (mv : Move) (i j : ℕ) → Chain m c l h → Small mv
      → PlayOutcome m c l mv (fields 0 i j 0) c' l' → Chain m c' l' (record { move = mv; first = i; second = j } ∷ h)

-- time since the start
abbrev pub later : Move → ℕ → ℕ
later (Time t) n = n + t
later (Input letter) n = n
later Output n = n

abbrev pub clock_of : List Call → ℕ
clock_of [] = 0
clock_of (x ∷ h) = later x.move (clock_of h)

-- time since the last input
abbrev pub elapsed : Move → ℕ → ℕ
elapsed (Time t) n = n + t
elapsed (Input letter) n = 0
elapsed Output n = n

abbrev pub since_of : List Call → ℕ
since_of [] = 0
since_of (x ∷ h) = elapsed x.move (since_of h)

-- the transitions that the inputs took, as the answers tell
abbrev pub takes : Move → ℕ → List ℕ → List ℕ
takes (Time t) i l = l
takes (Input letter) i l = l ++ (i ∷ [])
takes Output i l = l

abbrev pub trace_of : List Call → List ℕ
trace_of [] = []
trace_of (x ∷ h) = takes x.move x.first (trace_of h)

-- the word of the inputs, each gap being the time since the one before
abbrev pub spells : Move → ℕ → List Symbol → List Symbol
spells (Time t) g l = l
spells (Input letter) g l = l ++ (record { letter = letter; gap = g } ∷ [])
spells Output g l = l

abbrev pub symbols_of : List Call → List Symbol
symbols_of [] = []
symbols_of (x ∷ h) = spells x.move (since_of h) (symbols_of h)

abbrev pub word_of : List Call → Word
word_of h = record { q = 256; fine = lit≤ tt; symbols = symbols_of h }

-- the outputs issued, each with its step, letter and the time since the start, as the answers tell
abbrev pub issues : Move → Response → List Response → List Response
issues (Time t) r l = l
issues (Input letter) r l = l
issues Output r l = l ++ (r ∷ [])

abbrev pub issued_of : List Call → List Response
issued_of [] = []
issued_of (x ∷ h) = issues x.move (record { step = x.first; output = x.second; time = clock_of h }) (issued_of h)

-- the calls h₀ and some after them, that end with none waiting, with these transitions taken at these times
pub record Ended (m : Machine) (h₀ : List Call) (trace : List ℕ) (symbols : List Symbol) : Type 0 where
  pub config : Config
  pub list : List Pending
  pub more : List Call
  pub chain : Chain m config list (more ++ h₀)
  pub none_waits : config.waiting ≡ 0
  pub took : trace_of (more ++ h₀) ≡ trace
  pub heard : symbols_of (more ++ h₀) ≡ symbols
