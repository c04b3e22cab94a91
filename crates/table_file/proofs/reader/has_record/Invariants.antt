use mathlib.Core.Path.{◌≡◌}
use mathlib.Core.Bool.{false}
use Rattle.table.specs.Rows.{said}
use Rattle.table.specs.Check.{has}
use Rattle.table_file.specs.Records.{record_at, recorded}
use Rattle.table_file.proofs.reader.has_record.Given as goal

abbrev pub invariant-loop-i : goal.invariant-loop-i
invariant-loop-i l = has (said (record_at l.file l.n)) (recorded l.file l.i) ≡ false
