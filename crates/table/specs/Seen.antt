-- Which transitions were met, by a mark of each at one of few places. A place rules a transition out and never in: `has` decides.
use Rattle.std.specs.Prelude.{◌≡◌, Bool, ◌||◌, cond, ◌⊎◌, List, ℕ, ◌+◌, ◌*◌, ◌/◌, ◌%◌, ◌≤◌, ltb, eqb, length, get_or, set}
use Rattle.model.specs.Lists.{In}
use Rattle.model.specs.Table.{Transition}

-- four numbers mixed
abbrev pub mix_of : ℕ → ℕ → ℕ → ℕ → ℕ
mix_of a b c d = a * 332816339 + b * 510510511 + c * 479001599 + d * 2654435769

-- the seven numbers of a transition mixed, as four: two bytes each, in the order of the file
abbrev pub key_of : Transition → ℕ
key_of t = mix_of (t.from + t.input * 65536) (t.output + t.to * 65536) (t.u + t.v * 65536) t.d

-- the place of a key among 2,048, or among 256 where there are fewer
unfoldable pub place_of : ℕ → ℕ → ℕ
place_of size key = cond (ltb size 2048) (key / 4194304 % 256) (key / 4194304 % 2048)

-- its mark there
abbrev pub mark_of : ℕ → ℕ
mark_of key = key / 8589934592 % 128 + 1

-- what stands at the place: 0 where none was met, the mark of those that were, 255 where unlike ones were
abbrev pub mark_at : List ℕ → ℕ → ℕ
mark_at seen key = get_or seen (place_of (length seen) key) 0

-- the place leaves it open that a transition with this key was met
abbrev pub Stands : List ℕ → ℕ → Type 0
Stands seen key = (mark_at seen key ≡ mark_of key) ⊎ (mark_at seen key ≡ 255)

-- the same as a test
unfoldable pub suspect : List ℕ → ℕ → Bool
suspect seen key = eqb (mark_at seen key) (mark_of key) || eqb (mark_at seen key) 255

-- the places after it is met
unfoldable pub noted : List ℕ → ℕ → List ℕ
noted seen key = set seen (place_of (length seen) key) (cond (eqb (mark_at seen key) 0) (mark_of key) 255)

-- all of these were met
pub record Marked (seen : List ℕ) (ts : List Transition) : Type 0 where
  pub size : 256 ≤ length seen
  pub each : (t : Transition) → In t ts → Stands seen (key_of t)
