use native.Mathlib.Omega.{arith}
use mathlib.Core.Path.{refl, ap, ◌∙◌}
use Prim.Native.Nat.{◌+◌}
use lib.ListN.{length}
use Rattle.table_file.proofs.WriteLaws.{records-none, records-more, length-records-placed}
use Rattle.table_file.proofs.writer.put_rows.Goals as goal

pub loop-i-init : goal.loop-i-init
loop-i-init c =
    let a = c.args in
    (refl, records-none a.rows.now a.out.now (omega arith))

pub loop-i-preserved : goal.loop-i-preserved
loop-i-preserved c =
    let a = c.args in
    let l = c.loop-i in
    let e = c.put_row_record.ensures ∙ records-more a.rows.now a.out.now l.i l.out (omega arith) l.invariant.1 in
    (ap length e ∙ length-records-placed a.rows.now a.out.now (l.i + 1) (omega arith), e)
