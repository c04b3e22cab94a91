-- What is not named follows from the arithmetic around it.
use native.Mathlib.Omega.{arith}
use mathlib.Core.Path.{refl}
use Rattle.table.specs.Rows.{said}
use Rattle.table.proofs.SeenLaws.{marked_start}
use Rattle.table_file.specs.Records.{record_at}
use Rattle.table_file.proofs.ReadLaws.{kept-start}
use Rattle.table_file.proofs.reader.rows_by.Goals as goal

pub loop-n-init : goal.loop-n-init
loop-n-init c =
    let a = c.args in
    (kept-start a.file.now _ a.states c.requires.0 (marked_start (λ i. said (record_at a.file.now i)) _ (omega (arith, c.requires.1))), refl)
