-- The worked cases that are proved (docs/RULES.md: Worked cases) as data, the turning ones with one letter besides, and what it means that a call
-- answers one as it says.
use Rattle.std.specs.Prelude.{◌≡◌, List, [], ◌∷◌, map, ℕ, suc, ◌*◌, ◌≤◌, ◌<◌, length}
use Rattle.model.specs.Answers.{Fields, fields}
use Rattle.model.specs.Lists.{over}
use Rattle.model.specs.Table.{Transition, Machine}
use Rattle.replay.specs.Play.{ReplayOutcome}
use Rattle.verdict.specs.OnTrace.{TraceOutcome}
use Rattle.table_verdict.specs.OnTable.{TableOutcome}

-- a call on a table value that stands for the machine, and its answer by number and values
pub data Case : Type 0 where
  -- machine, trace, start, stamps; the answer, and what stands first in the lent memory: the steps' order, their due times
  replayed : Machine → List ℕ → ℕ → List ℕ → Fields → List ℕ → List ℕ → Case
  -- machine, trace; the answer
  judged : Machine → List ℕ → Fields → Case
  -- machine; the answer, and what stands first in the lent memory: the shown trace, its stamps
  tabled : Machine → Fields → List ℕ → List ℕ → Case
  -- a case for every number of states and every initial state
  sized : (ℕ → ℕ → Case) → Case

-- a number of states, and one of them to begin in
abbrev pub Size : ℕ → ℕ → Type 0
Size states initial = (1 ≤ states) × (states ≤ 32) × (initial < states)

-- the outcome is allowed, and no other: neither in the answer nor in what is left in the two lent memories
abbrev pub Alone : (Fields → List ℕ → List ℕ → Type 0) → Fields → List ℕ → List ℕ → Type 0
Alone Allowed f a b = Allowed f a b × ((g : Fields) (x y : List ℕ) → Allowed g x y → (g ≡ f) × (x ≡ a) × (y ≡ b))

-- whatever memory of enough places is lent, the call is allowed to answer so, and in no other way
abbrev pub Holds : Case → Type 0
Holds (replayed m trace start stamps answer order due) =
    (o₀ d₀ : List ℕ) → length trace ≤ length o₀ → length trace ≤ length d₀
    → Alone (ReplayOutcome m trace start stamps o₀ d₀) answer (over order o₀) (over due d₀)
Holds (judged m trace answer) =
    (s₀ : List ℕ) → 2 * length trace ≤ length s₀
    → (s : List ℕ) × TraceOutcome m trace s₀ answer s × ((f : Fields) (x : List ℕ) → TraceOutcome m trace s₀ f x → (f ≡ answer) × (x ≡ s))
Holds (tabled m answer trace stamps) =
    (l₀ s₀ : List ℕ) → 270 ≤ length l₀ → 540 ≤ length s₀ → Alone (TableOutcome m l₀ s₀) answer (over trace l₀) (over stamps s₀)
Holds (sized c) = (states initial : ℕ) → Size states initial → Holds (c states initial)

-- from a state to the next
abbrev step : ℕ → ℕ → ℕ → ℕ → ℕ → Transition
step from output u v d = record { from = from; input = 0; output = output; to = suc from; u = u; v = v; d = d }

-- the whole case: 0→1 (5,20] d 40, 1→2 (15,20] d 30, 2→3 (10,15] d 10; input 0, outputs 1, 2, 3
abbrev pub source : Machine
source = record { states = 4; initial = 0; transitions = step 0 1 5 20 40 ∷ step 1 2 15 20 30 ∷ step 2 3 10 15 10 ∷ [] }

-- two steps, the second with guard (3,5] and d 10, so D is d less 10
abbrev pub two : ℕ → Machine
two d = record { states = 3; initial = 0; transitions = step 0 1 1 2 d ∷ step 1 2 3 5 10 ∷ [] }

-- one step with guard (1,2]
abbrev pub one : Machine
one = record { states = 2; initial = 0; transitions = step 0 0 1 2 1 ∷ [] }

-- no transitions
abbrev pub bare : ℕ → ℕ → Machine
bare states initial = record { states = states; initial = initial; transitions = [] }

-- 0→1 (1,2] d 9, then 1→2 (3,4] d 5, and no more: a search of longer traces alone sees nothing
abbrev pub short : Machine
short = record { states = 3; initial = 0; transitions = step 0 1 1 2 9 ∷ step 1 2 3 4 5 ∷ [] }

-- the letter 1 throughout
abbrev pub spoken : Transition → Transition
spoken t = record { from = t.from; input = t.input; output = 1; to = t.to; u = t.u; v = t.v; d = t.d }

abbrev pub one_letter : Machine → Machine
one_letter m = record { states = m.states; initial = m.initial; transitions = map spoken m.transitions }

-- 0: played, steady or strict
abbrev pub fine : Fields
fine = fields 0 0 0 0

-- the steps 1 and 2 turn, in a trace of 2 steps
abbrev pub turning : Fields
turning = fields 257 1 2 2

-- the whole case's trace from start stamp 0
abbrev on_source : List ℕ → Fields → List ℕ → List ℕ → Case
on_source stamps = replayed source (0 ∷ 1 ∷ 2 ∷ []) 0 stamps

-- the trace of two steps, with d of the first
abbrev on_two : ℕ → Fields → Case
on_two d = judged (two d) (0 ∷ 1 ∷ [])

-- the steps 1 and 3 turn, in a trace of 3 steps
abbrev pub whole : Fields
whole = fields 257 1 3 3

-- a first stamp of 5888 is late: 12 with the place 1; D is -2, 0, 3, 4, 5, 6 for d 8, 10, 13, 14, 15, 16; the last due time, 652, is the gap 396 and a tick;
-- the last seven are the turning cases as they stand, the whole case among them, and with one letter
abbrev pub cases : List Case
cases =
    on_source (2560 ∷ 6912 ∷ 10496 ∷ []) fine (1 ∷ 3 ∷ 2 ∷ []) (12800 ∷ 13056 ∷ 14592 ∷ []) ∷
    on_source (3840 ∷ 8192 ∷ 11008 ∷ []) fine (3 ∷ 1 ∷ 2 ∷ []) (13568 ∷ 14080 ∷ 15872 ∷ []) ∷
    on_source (5888 ∷ 6912 ∷ 10496 ∷ []) (fields 12 1 0 0) [] [] ∷
    on_two 8 fine ∷
    on_two 10 fine ∷
    on_two 13 fine ∷
    on_two 14 turning ∷
    on_two 15 turning ∷
    on_two 16 fine ∷
    replayed one (0 ∷ []) 4294967000 (100 ∷ []) fine (1 ∷ []) (652 ∷ []) ∷
    sized (λ states initial. tabled (bare states initial) fine [] []) ∷
    tabled short turning (0 ∷ 1 ∷ []) (512 ∷ 1536 ∷ 512 ∷ 1281 ∷ []) ∷
    judged source (0 ∷ 1 ∷ 2 ∷ []) whole ∷
    tabled source whole (0 ∷ 1 ∷ 2 ∷ []) (5120 ∷ 10240 ∷ 14080 ∷ 5120 ∷ 8961 ∷ 11522 ∷ []) ∷
    judged (one_letter source) (0 ∷ 1 ∷ 2 ∷ []) fine ∷
    tabled (one_letter source) fine [] [] ∷
    judged (one_letter (two 14)) (0 ∷ 1 ∷ []) fine ∷
    judged (one_letter (two 15)) (0 ∷ 1 ∷ []) fine ∷
    tabled (one_letter short) fine [] [] ∷
    []
