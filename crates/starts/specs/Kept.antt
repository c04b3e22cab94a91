-- What is kept of a set of ends, each by a number and a letter: the greatest number, its letter, and the greatest number of another letter.
use Rattle.std.specs.Prelude.{◌≡◌, ◌⊎◌, ℕ, ◌+◌, ◌*◌, ◌≤◌, ◌<◌, min, max}
use Rattle.model.specs.Table.{Transition}
use Rattle.model.specs.Shown.{late_gap}
use Rattle.starts.specs.declared.kept.Entry.{Entry}

-- in 1/256 tick; more than 240 ticks can't matter, since no delay is longer
abbrev pub cap : ℕ → ℕ
cap x = min x 61440

-- the set Q of ends; 0 stands for no end
pub record Kept (Q : ℕ → ℕ → Type 0) (a : Entry) : Type 0 where
  pub some : (x c : ℕ) → Q x c → 1 ≤ x
  pub first : 1 ≤ a.first → Q a.first a.letter
  pub second : 1 ≤ a.second → (c : ℕ) × (c ≡ a.letter → ⊥) × Q a.second c
  pub most : (x c : ℕ) → Q x c → x ≤ a.first
  pub others : (x c : ℕ) → Q x c → (c ≡ a.letter → ⊥) → x ≤ a.second

abbrev pub entry_of : ℕ → ℕ → ℕ → Entry
entry_of first letter second = record { first = first; letter = letter; second = second }

-- one more end, with the number x and the letter c
pub data Taken (a : Entry) (x c : ℕ) : Entry → Type 0 where
  taken_like : c ≡ a.letter → Taken a x c (entry_of (max a.first x) a.letter a.second)
  taken_more : (c ≡ a.letter → ⊥) → a.first < x → Taken a x c (entry_of x c a.first)
  taken_less : (c ≡ a.letter → ⊥) → x ≤ a.first → Taken a x c (entry_of a.first a.letter (max a.second x))

-- the ends of n too, each a gap later
pub data Joined (a n : Entry) (gap : ℕ) : Entry → Type 0 where
  joined_none : n.first ≡ 0 → Joined a n gap a
  joined_first : {r : Entry} → 1 ≤ n.first → Taken a (cap (n.first + gap)) n.letter r → (r.letter ≡ n.letter → n.second ≡ 0) → Joined a n gap r
  joined_both : {r : Entry} → 1 ≤ n.first → Taken a (cap (n.first + gap)) n.letter r → r.letter ≡ n.letter → 1 ≤ n.second
      → Joined a n gap (entry_of r.first r.letter (max r.second (cap (n.second + gap))))

-- transition t too, if its delay is at most what is left
pub data Ended (a : Entry) (t : Transition) (left : ℕ) : Entry → Type 0 where
  ended_not : left < t.d → Ended a t left a
  ended_here : {r : Entry} → t.d ≤ left → Taken a (cap (late_gap t + t.d * 256)) t.output r → Ended a t left r

-- one of the ends is due as late as k and has another letter
abbrev pub Asked : Transition → Entry → Type 0
Asked k a = ((k.output ≡ a.letter → ⊥) × (k.d * 256 ≤ a.first)) ⊎ ((k.output ≡ a.letter) × (k.d * 256 ≤ a.second))
