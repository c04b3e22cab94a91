-- A packed answer taken apart gives back its fields.
use mathlib.Core.Path.{◌≡◌, sym, ◌∙◌}
use Prim.Native.Nat.{ℕ, ◌+◌, ◌*◌, ◌%◌, ◌/◌, ◌<◌}
use native.Mathlib.Omega.{arith}
use native.Mathlib.Nat.{div-div-eq-div-mul}
use Rattle.model.specs.Answers.{Fields}
use Rattle.answers.specs.Packed.{packed, unpacked, In16Bits}

-- one field below what stands above it
abbrev over : ℕ → ℕ → ℕ
over x y = x % 65536 + 65536 * y

low : (x y : ℕ) → x < 65536 → over x y % 65536 ≡ x
low x y h = omega arith

rest : (x y : ℕ) → over x y / 65536 ≡ y
rest x y = omega arith

module _ (f : Fields) where
  above : packed f / 65536 ≡ over f.first (over f.second (f.steps % 65536))
  above = rest f.status (over f.first (over f.second (f.steps % 65536)))

  two-above : packed f / 4294967296 ≡ over f.second (f.steps % 65536)
  two-above =
      sym (div-div-eq-div-mul (packed f) 65536 65536) ∙ rw above (rest f.first (over f.second (f.steps % 65536)))

  three-above : packed f / 281474976710656 ≡ f.steps % 65536
  three-above = sym (div-div-eq-div-mul (packed f) 4294967296 65536) ∙ rw two-above (rest f.second (f.steps % 65536))

  module _ (h : In16Bits f) where
    packed-status : packed f % 65536 ≡ f.status
    packed-status = low f.status _ (omega arith)

    packed-first : packed f / 65536 % 65536 ≡ f.first
    packed-first = rw above (low f.first _ (omega arith))

    packed-second : packed f / 4294967296 % 65536 ≡ f.second
    packed-second = rw two-above (low f.second _ (omega arith))

    packed-steps : packed f / 281474976710656 % 65536 ≡ f.steps
    packed-steps = rw three-above (omega arith)

    pub packed-apart : unpacked (packed f) ≡ f
    packed-apart = rw (packed-status, packed-first, packed-second, packed-steps)
