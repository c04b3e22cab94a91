-- What a step asks of one that it turns with, over the numbers of all steps.
use Rattle.std.specs.Prelude.{◌≡◌, List, ℕ, ◌-◌, ◌%◌, ◌≤◌, ◌<◌, get_or}
use Rattle.verdict.specs.declared.marks.Mark.{Mark}

-- step m is what q asks for
pub record Fits (early late : List ℕ) (q : Mark) (m : ℕ) : Type 0 where
  pub before : get_or early m 0 < q.time
  pub after : q.late ≤ get_or late m 0
  pub unlike : get_or early m 0 % 256 ≡ q.letter → ⊥

-- no step from a up to b is
pub record Clear (early late : List ℕ) (q : Mark) (a b : ℕ) : Type 0 where
  pub none : (m : ℕ) → a ≤ m → m < b → Fits early late q m → ⊥

-- what step k asks for
abbrev pub mark_at : List ℕ → List ℕ → ℕ → Mark
mark_at early late k = record { time = get_or early k 0 - get_or early k 0 % 256; late = get_or late k 0; letter = get_or early k 0 % 256 }

-- q asks for all that r asks for
pub record Covers (q r : Mark) : Type 0 where
  pub time : r.time ≤ q.time
  pub late : q.late ≤ r.late
  pub letter : (x : ℕ) → x < 256 → x ≡ q.letter → x ≡ r.letter
