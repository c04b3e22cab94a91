-- What replay answers, and what it leaves in the lent memory.
use Rattle.std.specs.Prelude.{◌≡◌, ℕ, suc, ◌≤◌, List, [], ◌∷◌, ◌++◌, map, length, drop, slice_index}
use Rattle.model.specs.Answers.{Fields, fields}
use Rattle.model.specs.Table.{Transition, Machine}
use Rattle.model.specs.Trace.{Handed, steps}
use Rattle.model.specs.Word.{Word, Activates}
use Rattle.model.specs.Order.{Response, Conversion}
use Rattle.model.specs.Stamps.{gaps_from, word_from}
use Rattle.table.specs.Tests.{Test, unless, unless_at, Answered, after_table}
use Rattle.replay.specs.declared.Guard.{Guard}
use Rattle.replay.specs.declared.Guard.TheVariants.{Early, Late}
use Rattle.replay.specs.Guards.{Meets, guard_fields}

-- 7 unless there is a stamp for each step, 8 unless there is a place for each step in both buffers
abbrev pub own_tests : Machine → List ℕ → List ℕ → List ℕ → List ℕ → List Test
own_tests m trace stamps order₀ due₀ =
    unless 6 (Handed m.transitions trace) ∷
    unless 7 (length stamps ≡ length trace) ∷
    unless 8 ((length trace ≤ length order₀) × (length trace ≤ length due₀)) ∷ []

-- unless a gap meets its guard so
abbrev pub unless_met : Guard → ℕ → Transition → ℕ → Test
unless_met c step t g = unless_at (guard_fields c step).status (guard_fields c step).first (Meets c 256 t g → ⊥)

-- the gaps against their guards, two tests a step from place i on, early and late: the first step outside its guard is named, counted from 1
abbrev pub gap_tests : ℕ → List Transition → List ℕ → List Test
gap_tests i [] gaps = []
gap_tests i (t ∷ tr) gaps = unless_met Early (suc i) t (slice_index gaps i) ∷ unless_met Late (suc i) t (slice_index gaps i) ∷ gap_tests (suc i) tr gaps

abbrev pub replay_tests : Machine → List ℕ → ℕ → List ℕ → List ℕ → List ℕ → List Test
replay_tests m trace start stamps order₀ due₀ =
    after_table m (own_tests m trace stamps order₀ due₀ ++ gap_tests 0 (steps m.transitions trace) (gaps_from start stamps))

-- the steps in the order of their responses, counted from 1, and their due times: the word activates the trace, and of its conversion the
-- steps stand as `order` says, the due times as `due` says
pub record Plays (tr : List Transition) (w : Word) (order due : List ℕ → Type 0) : Type 0 where
  pub activates : Activates tr w
  pub responses : List Response
  pub converts : Conversion tr w responses
  pub orders : order (map (λ x. x.step) responses)
  pub dues : due (map (λ x. x.time) responses)

-- what a replay answers after its tests, on values and on bytes
abbrev pub PlayOutcome : List Test → List Transition → Word → (List ℕ → Type 0) → (List ℕ → Type 0) → Type 0 → Fields → Type 0
PlayOutcome tests tr w order due Kept f = Answered tests (λ f. (f ≡ fields 0 0 0 0) × Plays tr w order due) Kept f

-- on values: the steps and the due times, each then what stood there; a refusal writes nothing
abbrev pub ReplayOutcome : Machine → List ℕ → ℕ → List ℕ → List ℕ → List ℕ → Fields → List ℕ → List ℕ → Type 0
ReplayOutcome m trace start stamps order₀ due₀ f order due =
    PlayOutcome (replay_tests m trace start stamps order₀ due₀) (steps m.transitions trace) (word_from (steps m.transitions trace) start stamps)
    (λ l. order ≡ l ++ drop (length trace) order₀)
    (λ l. due ≡ l ++ drop (length trace) due₀)
    ((order ≡ order₀) × (due ≡ due₀)) f

-- with a valid table, of the numbers that stand in the lists; T and S say that trace and stamps are whole numbers alone
abbrev pub lists_tests : Machine → Type 0 → Type 0 → List ℕ → ℕ → List ℕ → List ℕ → List ℕ → List Test
lists_tests m T S trace start stamps order₀ due₀ =
    unless 6 (T × Handed m.transitions trace) ∷
    unless 7 (S × (length stamps ≡ length trace)) ∷
    unless 8 ((length trace ≤ length order₀) × (length trace ≤ length due₀)) ∷
    gap_tests 0 (steps m.transitions trace) (gaps_from start stamps)

abbrev pub ListsOutcome : Machine → Type 0 → Type 0 → List ℕ → ℕ → List ℕ → List ℕ → List ℕ → Fields → List ℕ → List ℕ → Type 0
ListsOutcome m T S trace start stamps order₀ due₀ f order due =
    PlayOutcome (lists_tests m T S trace start stamps order₀ due₀) (steps m.transitions trace) (word_from (steps m.transitions trace) start stamps)
    (λ l. order ≡ l ++ drop (length trace) order₀)
    (λ l. due ≡ l ++ drop (length trace) due₀)
    ((order ≡ order₀) × (due ≡ due₀)) f
