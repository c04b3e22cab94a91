-- What a night of words answers, and what it leaves in the lent memory.
use Rattle.std.specs.Prelude.{Result, Ok, Err, ◌≡◌, List, [], ◌∷◌, ℕ, ◌*◌, ◌≤◌, ◌<◌, length, get_or, take, drop}
use Rattle.model.specs.Answers.{Fields, fields}
use Rattle.model.specs.Table.{Machine}
use Rattle.model.specs.Trace.{Handed}
use Rattle.table.specs.declared.Refusal.{Refusal}
use Rattle.table.specs.declared.Row.{Row}
use Rattle.table.specs.Refusal.{refused_fields}
use Rattle.table.specs.Tests.{Test, unless, Answered, after_table}
use Rattle.trace.specs.Named.{TraceIn}
use Rattle.replay.specs.Laid.{WordRun}
use Rattle.replay.specs.Play.{ReplayOutcome}

-- how many words were played, or why none
abbrev pub Words : Type 0
Words = Result ℕ Refusal

abbrev pub words_fields : Words → Fields
words_fields (Ok words) = fields 0 words 0 0
words_fields (Err r) = refused_fields r

-- words stand end to end: the n places of word w, counted from 0
abbrev pub part : ℕ → ℕ → List ℕ → List ℕ
part n w l = take n (drop (w * n) l)

-- room: a place a step of every word in two buffers, a place a word in the third
pub record Room (words n : ℕ) (order₀ due₀ marks₀ : List ℕ) : Type 0 where
  pub order_room : words * n ≤ length order₀
  pub due_room : words * n ≤ length due₀
  pub marks_room : words ≤ length marks₀

-- 6 for the trace; 7 for more than 256 words, or stamps that are not words times steps; 8 for room
abbrev pub own_tests : Machine → List ℕ → List ℕ → List ℕ → List ℕ → List ℕ → List ℕ → List Test
own_tests m trace starts stamps order₀ due₀ marks₀ =
    unless 6 (Handed m.transitions trace) ∷
    unless 7 ((length starts ≤ 256) × (length stamps ≡ length starts * length trace)) ∷
    unless 8 (Room (length starts) (length trace) order₀ due₀ marks₀) ∷ []

abbrev pub words_tests : Machine → List ℕ → List ℕ → List ℕ → List ℕ → List ℕ → List ℕ → List Test
words_tests m trace starts stamps order₀ due₀ marks₀ = after_table m (own_tests m trace starts stamps order₀ due₀ marks₀)

-- of each of the first words what Does says, by its number and its own places: a in the order, b in the due times, c in the marks; what lies beyond
-- them is as it was
pub record EachWord (a b c : ℕ) (Does : (w : ℕ) (order₀ due₀ order due mark : List ℕ) → Type 0) (words : ℕ)
    (order₀ due₀ marks₀ order due marks : List ℕ) : Type 0 where
  pub word : (w : ℕ) → w < words → Does w (part a w order₀) (part b w due₀) (part a w order) (part b w due) (part c w marks)
  pub order_rest : drop (words * a) order ≡ drop (words * a) order₀
  pub due_rest : drop (words * b) due ≡ drop (words * b) due₀
  pub marks_rest : drop (words * c) marks ≡ drop (words * c) marks₀

-- a word is a single replay; its mark is 0, or the first step whose gap is outside its guard, which the refusal names: the step alone, early or
-- late
pub record WordPlays (Outcome : Fields → Type 0) (Marked : ℕ → Type 0) : Type 0 where
  pub said : Fields
  pub outcome : Outcome said
  pub marked : Marked said.first

abbrev pub AllPlay : Machine → List ℕ → List ℕ → List ℕ → List ℕ → List ℕ → List ℕ → List ℕ → List ℕ → List ℕ → Type 0
AllPlay m trace starts stamps order₀ due₀ marks₀ order due marks =
    EachWord (length trace) (length trace) 1
    (λ w o₀ d₀ o d mark.
    WordPlays (λ f. ReplayOutcome m trace (get_or starts w 0) (part (length trace) w stamps) o₀ d₀ f o d) (λ step. mark ≡ step ∷ []))
    (length starts) order₀ due₀ marks₀ order due marks

abbrev pub WordsOutcome : Machine → List ℕ → List ℕ → List ℕ → List ℕ → List ℕ → List ℕ → Fields → List ℕ → List ℕ → List ℕ → Type 0
WordsOutcome m trace starts stamps order₀ due₀ marks₀ f order due marks =
    Answered (words_tests m trace starts stamps order₀ due₀ marks₀)
    (λ f. (f ≡ fields 0 (length starts) 0 0) × AllPlay m trace starts stamps order₀ due₀ marks₀ order due marks)
    ((order ≡ order₀) × (due ≡ due₀) × (marks ≡ marks₀)) f

-- the first words on the transitions in the cells
abbrev pub WordsRun : List Row → List ℕ → List ℕ → List ℕ → ℕ → List ℕ → List ℕ → List ℕ → List ℕ → List ℕ → List ℕ → Type 0
WordsRun cells trace starts stamps words order₀ due₀ marks₀ order due marks =
    EachWord (length trace) (length trace) 1
    (λ w o₀ d₀ o d mark.
    WordPlays (λ f. WordRun cells trace (get_or starts w 0) (part (length trace) w stamps) o₀ d₀ f o d) (λ step. mark ≡ step ∷ []))
    words order₀ due₀ marks₀ order due marks

-- the tests after the table's, of the numbers that stand in the lists; T, A and S say that trace, starts and stamps are whole numbers alone
abbrev pub run_tests : List Row → Type 0 → Type 0 → Type 0 → List ℕ → List ℕ → List ℕ → List ℕ → List ℕ → List ℕ → List Test
run_tests cells T A S trace starts stamps order₀ due₀ marks₀ =
    unless 6 (T × TraceIn cells (length cells) trace) ∷
    unless 7 (A × S × (length starts ≤ 256) × (length stamps ≡ length starts * length trace)) ∷
    unless 8 (Room (length starts) (length trace) order₀ due₀ marks₀) ∷ []

abbrev pub ListsWords : List Row → Type 0 → Type 0 → Type 0 → List ℕ → List ℕ → List ℕ → List ℕ → List ℕ → List ℕ → Fields → List ℕ → List ℕ → List ℕ → Type 0
ListsWords cells T A S trace starts stamps order₀ due₀ marks₀ f order due marks =
    Answered (run_tests cells T A S trace starts stamps order₀ due₀ marks₀)
    (λ f. (f ≡ fields 0 (length starts) 0 0) × WordsRun cells trace starts stamps (length starts) order₀ due₀ marks₀ order due marks)
    ((order ≡ order₀) × (due ≡ due₀) × (marks ≡ marks₀)) f
