use native.Mathlib.Omega.{arith}
use Rattle.table_file.proofs.ReadLaws.{stored-none, stored_more}
use Rattle.table_file.proofs.reader.take_rows.Goals as goal

pub loop-i-init : goal.loop-i-init
loop-i-init c = stored-none c.args.file.now c.args.cells.now

pub loop-i-preserved : goal.loop-i-preserved
loop-i-preserved c =
    stored_more c.args.file.now c.args.cells.now c.loop-i.i (omega arith) c.loop-i.invariant c.record_at.ensures c.put_row.ensures
