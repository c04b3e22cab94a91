use mathlib.Core.Path.{◌≡◌}
use lib.ListN.{length}
use Rattle.wire.specs.Bytes.{bytes, placed}
use Rattle.table.specs.Rows.{rows, flat}
use Rattle.table_file.specs.File.{row_numbers}
use Rattle.table_file.proofs.writer.put_rows.Given as goal

abbrev pub invariant-loop-i : goal.invariant-loop-i
invariant-loop-i l = (length l.out ≡ length l.initial.out) × (l.out ≡ placed l.initial.out 8 (bytes 2 (flat row_numbers (rows l.rows l.i))))
