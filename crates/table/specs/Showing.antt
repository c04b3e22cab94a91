-- An answer on a whole table, which shows nothing or a trace with its stamps. Which trace is shown is free: what two answers agree in all the same.
use Rattle.std.specs.Prelude.{◌≡◌, List, ℕ, ◌-◌, ◌≤◌, ◌<◌, length, take, get_or}
use Rattle.model.specs.Answers.{Fields, fields}
use Rattle.model.specs.Lists.{over}
use Rattle.table.specs.Tests.{Test, Answered}

-- what is answered, by its fields f: number 0, memory kept; or a trace and stamps, of which `Left` says how they stand in the lent memory
pub data Showing (Quiet : Type 0) (Shows : Fields → List ℕ → List ℕ → Type 0) (Kept : Type 0) (Left : List ℕ → List ℕ → Type 0) (f : Fields) : Type 0 where
  says_none : f ≡ fields 0 0 0 0 → Quiet → Kept → Showing Quiet Shows Kept Left f
  says_shown : {trace stamps : List ℕ} → Shows f trace stamps → Left trace stamps → Showing Quiet Shows Kept Left f

-- a call on values: its tests, then what is answered, with the trace and the stamps from the front of the lent places
abbrev pub ShownOn : List Test → Type 0 → (Fields → List ℕ → List ℕ → Type 0) → List ℕ → List ℕ → Fields → List ℕ → List ℕ → Type 0
ShownOn tests Quiet Shows trace₀ stamps₀ f trace stamps =
    Answered tests (Showing Quiet Shows ((trace ≡ trace₀) × (stamps ≡ stamps₀)) (λ l s. (trace ≡ over l trace₀) × (stamps ≡ over s stamps₀)))
    ((trace ≡ trace₀) × (stamps ≡ stamps₀)) f

-- the trace that an answer shows: as many of the trace places as it has steps
abbrev pub shown_in : Fields → List ℕ → List ℕ
shown_in f places = take f.steps places

-- one number; of a quiet answer and of a refusal all; of a shown trace what `Same` says
pub record Agree (Same : Fields → List ℕ → Fields → List ℕ → Type 0) (f : Fields) (places : List ℕ) (g : Fields) (places' : List ℕ) : Type 0 where
  pub kind : f.status ≡ g.status
  pub plain : f.status < 256 → f ≡ g
  pub shown : 256 ≤ f.status → Same f (shown_in f places) g (shown_in g places')

-- the transition at a step, which is counted from 1
abbrev pub at_step : List ℕ → ℕ → ℕ
at_step l k = get_or l (k - 1) 0

-- K and M by the shown trace alone: M is its length, and K the first step that is the transition at K
pub record ByTrace (shown : List ℕ) (k m : ℕ) : Type 0 where
  pub whole : m ≡ length shown
  pub some : 1 ≤ k
  pub inside : k < m
  pub first : (x : ℕ) → 1 ≤ x → x < k → at_step shown x ≡ at_step shown k → ⊥
