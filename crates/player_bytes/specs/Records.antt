-- A configuration and its records in bytes: state, inputs so far and number waiting in 2 each, timer in 4; step and letter in 2 each, time left in 4.
use Rattle.std.specs.Prelude.{List, [], ◌∷◌, ◌++◌, ℕ, zero, suc, ◌+◌, ◌*◌, ◌/◌, min, length}
use Rattle.wire.specs.Bytes.{le, bytes}
use Rattle.records.specs.declared.Pending.{Pending}
use Rattle.player.specs.declared.Config.{Config}

-- what a configuration's bytes say
abbrev pub config_in : List ℕ → Config
config_in b = record { state = le 2 b 0; inputs = le 2 b 2; waiting = le 2 b 4; timer = le 4 b 6 }

-- a configuration's ten bytes
abbrev pub config_bytes : Config → List ℕ
config_bytes c = bytes 2 (c.state ∷ c.inputs ∷ c.waiting ∷ []) ++ bytes 4 (c.timer ∷ [])

-- the record in the eight bytes at k
abbrev pub record_at : List ℕ → ℕ → Pending
record_at b k = record { step = le 2 b k; letter = le 2 b (k + 2); left = le 4 b (k + 4) }

-- a record's eight bytes
abbrev pub record_bytes : Pending → List ℕ
record_bytes p = bytes 2 (p.step ∷ p.letter ∷ []) ++ bytes 4 (p.left ∷ [])

-- the first n records
unfoldable pub records_to : ℕ → List ℕ → List Pending
records_to zero b = []
records_to (suc n) b = records_to n b ++ (record_at b (n * 8) ∷ [])

-- the whole records that are lent, of which the player takes no more than 240
abbrev pub lent_in : List ℕ → ℕ
lent_in b = min 240 (length b / 8)

abbrev pub records_in : List ℕ → List Pending
records_in b = records_to (lent_in b) b

-- the bytes of records
unfoldable pub records_bytes : List Pending → List ℕ
records_bytes [] = []
records_bytes (p ∷ l) = record_bytes p ++ records_bytes l
