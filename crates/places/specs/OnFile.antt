-- The table is handed over as its file: before all else a refused file is answered by the reader's number and offset.
use Rattle.std.specs.Prelude.{ℕ}
use Rattle.model.specs.Table.{Machine}
use Rattle.table_file.specs.File.{Scan, machine, stopped}

-- what a call says of a file: by the reader's number and offset, or by the machine that was read
abbrev pub on_file : Scan → (ℕ → ℕ → Type 0) → (Machine → Type 0) → Type 0
on_file (stopped n p) refuse go = refuse n p
on_file (machine m) refuse go = go m
