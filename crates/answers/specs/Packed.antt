-- The answer of an export, as the header says it: status, first, second, steps in 16 bits each, the lowest first. What an answer does not name
-- is 0.
use Rattle.std.specs.Prelude.{ℕ, ◌+◌, ◌*◌, ◌%◌, ◌/◌, ◌<◌}
use Rattle.model.specs.Answers.{Fields, fields}

-- each field in its 16 bits
abbrev pub packed : Fields → ℕ
packed f = f.status % 65536 + 65536 * (f.first % 65536 + 65536 * (f.second % 65536 + 65536 * (f.steps % 65536)))

-- a host takes an answer apart by shifts of 0, 16, 32 and 48 bits
abbrev pub unpacked : ℕ → Fields
unpacked r = fields (r % 65536) (r / 65536 % 65536) (r / 4294967296 % 65536) (r / 281474976710656 % 65536)

-- no field loses a bit
pub record In16Bits (f : Fields) : Type 0 where
  pub status_fits : f.status < 65536
  pub first_fits : f.first < 65536
  pub second_fits : f.second < 65536
  pub steps_fits : f.steps < 65536
