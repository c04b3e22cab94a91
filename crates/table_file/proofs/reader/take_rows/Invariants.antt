use mathlib.Core.Path.{◌≡◌}
use Rattle.table.specs.Rows.{put_all}
use Rattle.table_file.specs.Records.{recorded}
use Rattle.table_file.proofs.reader.take_rows.Given as goal

abbrev pub invariant-loop-i : goal.invariant-loop-i
invariant-loop-i l = l.cells ≡ put_all l.initial.cells (recorded l.file l.i)
