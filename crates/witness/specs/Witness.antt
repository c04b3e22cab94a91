-- What a shown trace leaves in the lent memory, and what it shows of a machine.
use Rattle.std.specs.Prelude.{◌≡◌, Option, Some, None, Result, Ok, Err, List, [], ◌∷◌, ℕ, suc, ◌+◌, ◌-◌, ◌≤◌, ◌<◌, length, get_or, take}
use Rattle.model.specs.Lists.{over}
use Rattle.model.specs.Table.{Transition, Machine, at}
use Rattle.model.specs.Trace.{Trace, steps}
use Rattle.model.specs.Criterion.{PairMeets, WalkFrom}
use Rattle.model.specs.Shown.{early_word}
use Rattle.model.specs.Stamps.{stamps_of, shown_stamps}
use Rattle.table.specs.Rows.{rows, row_of}
use Rattle.table.specs.declared.Refusal.{Refusal}
use Rattle.table.specs.Refusal.{refusal_number, refusal_place}
use Rattle.table.specs.Tests.{Test, unless, after_table, Passes, Fails}
use Rattle.criterion.specs.declared.Goal.{Goal}
use Rattle.criterion.specs.declared.Goal.TheVariants.{Turns, Overtakes}
use Rattle.criterion.specs.Goals.{Meets}
use Rattle.words.specs.Left.{word_left, words_left}
use Rattle.reach.specs.declared.Ways.{Ways}
use Rattle.reach.specs.Reach.{Reach, after_limits, WayStands, mark, way_to}
use Rattle.table.specs.declared.Row.{Row}
use Rattle.walks.specs.Walks.{Followed, ShownLeast, LowestStart, WalksAgree}
use Rattle.witness.specs.declared.Witness.{Witness}

-- a shown trace of n steps before the pair's first one, and so many in all
abbrev pub witness_of : ℕ → ℕ → Witness
witness_of n all = record { before = n; steps = all }

-- k is one of the transitions, and leaves a marked state
abbrev pub Marked : List Row → List ℕ → ℕ → ℕ → Type 0
Marked cells dist count k = (k < count) × (1 ≤ mark dist (row_of cells k).from)

-- room for the way to the state that transition k leaves, and behind it for the longest walk from k
abbrev pub Room : List Row → List ℕ → ℕ → List ℕ → Type 0
Room cells dist k trace₀ = mark dist (row_of cells k).from - 1 + 239 ≤ length trace₀

-- the way to the state that transition k leaves, and behind it k, a walk and the least end: n steps, then `more`
pub record FromStands (goal : Goal) (cells : List Row) (count : ℕ) (dist via : List ℕ) (k : ℕ) (trace₀ : List ℕ) (n more : ℕ) (trace : List ℕ) : Type 0 where
  pub one : List ℕ
  pub room : Room cells dist k trace₀
  pub way : WayStands cells dist via (row_of cells k).from trace₀ one n
  pub walk : ShownLeast goal (rows cells count) k n one trace more

-- that, or nothing where k starts no pair or has no room
pub data FromOutcome (goal : Goal) (cells : List Row) (count : ℕ) (dist via : List ℕ) (k : ℕ) (trace₀ : List ℕ) : Option Witness → List ℕ → Type 0 where
  from_none : (Followed goal (rows cells count) k → Room cells dist k trace₀ → ⊥) → FromOutcome goal cells count dist via k trace₀ None trace₀
  from_shown : {n more : ℕ} {trace : List ℕ} → FromStands goal cells count dist via k trace₀ n more trace
      → FromOutcome goal cells count dist via k trace₀ (Some (witness_of n (n + more))) trace

-- the lowest start, shown; nothing where there is none or it has no room
pub data WitnessOutcome (goal : Goal) (cells : List Row) (count : ℕ) (dist via trace₀ : List ℕ) : Option Witness → List ℕ → Type 0 where
  none_shown : LowestStart goal cells count dist None → WitnessOutcome goal cells count dist via trace₀ None trace₀
  none_fits : (k : ℕ) → LowestStart goal cells count dist (Some k) → (Room cells dist k trace₀ → ⊥) → WitnessOutcome goal cells count dist via trace₀ None trace₀
  one_shown : {n more : ℕ} {trace : List ℕ} (k : ℕ) → LowestStart goal cells count dist (Some k) → FromStands goal cells count dist via k trace₀ n more trace
      → WitnessOutcome goal cells count dist via trace₀ (Some (witness_of n (n + more))) trace

-- 3, 4, 5, then 8: room for 270 steps and for `least` stamps
abbrev pub search_tests : Machine → ℕ → ℕ → ℕ → List Test
search_tests m steps stamps least = after_table m (unless 8 ((270 ≤ steps) × (least ≤ stamps)) ∷ [])

-- of transitions that nobody tested: 3, 4 for as many states as a table can have, then 8
abbrev pub ready_tests : List Row → ℕ → ℕ → ℕ → ℕ → ℕ → List Test
ready_tests cells count initial steps stamps least = after_limits cells count initial (unless 8 ((270 ≤ steps) × (least ≤ stamps)) ∷ [])

-- the marks that a search through them goes by, or the number and the place of the first test that does not hold
abbrev pub ReadyOutcome : List Row → ℕ → ℕ → ℕ → ℕ → ℕ → Result Ways Refusal → Type 0
ReadyOutcome cells count initial steps stamps least (Ok w) =
    Passes (ready_tests cells count initial steps stamps least) × Reach (rows cells count) initial w.dist w.via
ReadyOutcome cells count initial steps stamps least (Err r) =
    Fails (ready_tests cells count initial steps stamps least) (refusal_number r) (refusal_place r)

-- the words of what is asked, as the writer leaves them: of a pair that turns the late and the early one, of one that overtakes the early one
abbrev pub goal_left : Goal → List Row → List ℕ → ℕ → ℕ → List ℕ → List ℕ
goal_left Turns = words_left
goal_left Overtakes = word_left

-- the stamps of these words, and the places that they may take
abbrev pub goal_stamps : Goal → List Transition → ℕ → ℕ → List ℕ
goal_stamps Turns tr k m = shown_stamps tr k m
goal_stamps Overtakes tr k m = stamps_of (early_word tr k m)

abbrev pub goal_room : Goal → ℕ
goal_room Turns = 540
goal_room Overtakes = 270

-- a shown trace with its words
pub data ShownOutcome (goal : Goal) (cells : List Row) (count : ℕ) (dist via trace₀ stamps₀ : List ℕ) : Option Witness → List ℕ → List ℕ → Type 0 where
  words_none : {trace : List ℕ} → WitnessOutcome goal cells count dist via trace₀ None trace
      → ShownOutcome goal cells count dist via trace₀ stamps₀ None trace stamps₀
  words_shown : {n all : ℕ} {trace stamps : List ℕ} → WitnessOutcome goal cells count dist via trace₀ (Some (witness_of n all)) trace
      → stamps ≡ goal_left goal cells (take all trace) n (all - 1) stamps₀ → ShownOutcome goal cells count dist via trace₀ stamps₀ (Some (witness_of n all)) trace stamps

-- two outcomes for one input: nothing both; or one way, and behind it walks that agree. Which walk is shown is free
pub data WitnessesAgree (goal : Goal) (ts : List Transition) (trace₀ : List ℕ) : Option Witness → List ℕ → Option Witness → List ℕ → Type 0 where
  agree_none : WitnessesAgree goal ts trace₀ None trace₀ None trace₀
  agree_shown : {k n x y : ℕ} {one a b : List ℕ} → WalksAgree goal ts k n one a x b y → WitnessesAgree goal ts trace₀ (Some (witness_of n (n + x))) a (Some (witness_of n (n + y))) b

-- the way to the state that transition i leaves
abbrev pub way_for : List Transition → List ℕ → List ℕ → ℕ → List ℕ
way_for ts dist via i = way_to ts dist via (at ts i).from

-- the transitions of a machine, whatever its number of states
abbrev pub machine_with : ℕ → ℕ → List Transition → Machine
machine_with states initial ts = record { states = states; initial = initial; transitions = ts }

-- a pair of what is asked at the places k and `last` of a trace from the initial state that ends with it: k is the first place of the
-- lowest-numbered transition that starts such a pair
pub record ShowsPair (goal : Goal) (m : Machine) (shown : List ℕ) (k last : ℕ) : Type 0 where
  pub end : ℕ
  pub path : Trace m.transitions m.initial shown end
  pub few : length shown ≤ 270
  pub ends : length shown ≡ suc last
  pub from : WalkFrom (Meets goal) m (get_or shown k 0)
  pub lowest : (i : ℕ) → WalkFrom (Meets goal) m i → get_or shown k 0 ≤ i
  pub earliest : (x : ℕ) → x < k → get_or shown x 0 ≡ get_or shown k 0 → ⊥
  pub meets : PairMeets (Meets goal) (steps m.transitions shown) k last

-- such a trace stands in the lent memory, with `all` steps
pub record PairStands (goal : Goal) (m : Machine) (trace₀ : List ℕ) (k all : ℕ) (trace : List ℕ) : Type 0 where
  pub shown : List ℕ
  pub last : ℕ
  pub whole : all ≡ suc last
  pub shows : ShowsPair goal m shown k last
  pub traced : trace ≡ over shown trace₀

-- and its words in the stamp places
pub record WordsStand (goal : Goal) (m : Machine) (trace₀ stamps₀ : List ℕ) (k all : ℕ) (trace stamps : List ℕ) : Type 0 where
  pub pair : PairStands goal m trace₀ k all trace
  pub stamped : stamps ≡ over (goal_stamps goal (steps m.transitions pair.shown) k pair.last) stamps₀
