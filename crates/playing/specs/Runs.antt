-- The player's configurations and moves, over any subdivision q of the tick. Steps stand at the places 0, 1, ..
use Rattle.std.specs.Prelude.{◌≡◌, List, [], ◌∷◌, ◌++◌, map, ℕ, suc, ◌+◌, ◌*◌, ◌-◌, ◌≤◌, ◌<◌, length}
use Rattle.model.specs.Lists.{In}
use Rattle.model.specs.Table.{Transition, Machine, at}
use Rattle.model.specs.Word.{Word, Symbol, Fits}
use Rattle.model.specs.Order.{Response}

-- a waiting response: its step, its letter, the time left
pub record Wait : Type 0 where
  pub step : ℕ
  pub letter : ℕ
  pub left : ℕ

-- a configuration, with what has been: the transitions taken, the inputs with their gaps, the response owed for each step,
-- the responses issued, the time since the start
pub record Play : Type 0 where
  pub state : ℕ
  pub timer : ℕ
  pub waiting : List Wait
  pub trace : List ℕ
  pub symbols : List Symbol
  pub owed : List Response
  pub issued : List Response
  pub now : ℕ

abbrev pub begin : Machine → Play
begin m = record { state = m.initial; timer = 0; waiting = []; trace = []; symbols = []; owed = []; issued = []; now = 0 }

abbrev pub aged : ℕ → Wait → Wait
aged t x = record { step = x.step; letter = x.letter; left = x.left - t }

-- time t passes
abbrev pub passed : ℕ → Play → Play
passed t p = record {
  state = p.state;
  timer = p.timer + t;
  waiting = map (aged t)
      p.waiting;
  trace = p.trace;
  symbols = p.symbols;
  owed = p.owed;
  issued = p.issued;
  now = p.now + t;
}

-- the transition a, number i, takes the input that arrives now
abbrev pub taken : ℕ → ℕ → Transition → Play → Play
taken q i a p = record {
  state = a.to;
  timer = 0;
  waiting = p.waiting ++ (record { step = length p.owed; letter = a.output; left = a.d * q } ∷ []);
  trace = p.trace ++ (i ∷ []);
  symbols = p.symbols ++ (record { letter = a.input; gap = p.timer } ∷ []);
  owed = p.owed ++ (record { step = suc (length p.owed); output = a.output; time = a.d * q + p.now } ∷ []);
  issued = p.issued;
  now = p.now;
}

-- the response x is issued; xs stood before it, ys after it
abbrev pub given : List Wait → Wait → List Wait → Play → Play
given xs x ys p = record {
  state = p.state;
  timer = p.timer;
  waiting = xs ++ ys;
  trace = p.trace;
  symbols = p.symbols;
  owed = p.owed;
  issued = p.issued
      ++ (record { step = suc x.step; output = x.letter; time = p.now } ∷ []);
  now = p.now;
}

-- transition i is open to the letter: it leaves the state, and its guard holds the time since the last input
pub record Open (q : ℕ) (ts : List Transition) (state letter timer i : ℕ) : Type 0 where
  pub known : i < length ts
  pub leaves : (at ts i).from ≡ state
  pub asks : (at ts i).input ≡ letter
  pub fits : Fits q (at ts i) timer

-- a sequence of accepted moves from the start
pub data Run (m : Machine) (q : ℕ) : Play → Type 0 where
  starts : Run m q (begin m)
  -- time advances by at most the time to the next due response
  waits : {p : Play} (t : ℕ) → Run m q p → ((x : Wait) → In x p.waiting → t ≤ x.left) → Run m q (passed t p)
  -- an input with an open transition, while no response is due
  inputs : {p : Play} (letter i : ℕ) → Run m q p → Open q m.transitions p.state letter p.timer i
      → ((x : Wait) → In x p.waiting → 0 < x.left) → Run m q (taken q i (at m.transitions i) p)
  -- an output, of the lowest step now due
  outputs : {p : Play} (xs : List Wait) (x : Wait) (ys : List Wait) → Run m q p → p.waiting ≡ xs ++ (x ∷ ys) → x.left ≡ 0 → ((y : Wait) → In y xs
      → 0 < y.left) → Run m q (given xs x ys p)

-- the word of the inputs
abbrev pub played : (q : ℕ) → 1 ≤ q → Play → Word
played q f p = record { q = q; fine = f; symbols = p.symbols }
