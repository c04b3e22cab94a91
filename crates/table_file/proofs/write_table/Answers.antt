use native.Mathlib.Omega.{arith}
use mathlib.Core.Path.{◌≡◌}
use Prim.Native.Nat.{◌≤◌}
use lib.ListN.{length}
use Rattle.std.proofs.lemmas.Result.{err_from_is_err_and}
use Rattle.table_file.proofs.WriteLaws.{write-refused, write-few, write-short, write-done}
use Rattle.table_file.proofs.write_table.Goals as goal
use Rattle.table_file.proofs.write_table.Goals.{In_ok-check}

-- the table passed its check
few : (p : In_ok-check) → p.args.t.now.count ≤ 256
few p = write-few p.args.t.now p.args.out.now p.in_ok-check.ensures

pub returns-in_err-check : goal.returns-in_err-check
returns-in_err-check c =
    let p = err_from_is_err_and c.from_residual.result c.from_residual.ensures.1 in
    rw (p.1, p.2) (write-refused c.args.t.now c.args.out.now _ c.in_err-check.ensures)

-- no more rows than 256, checked or not: so that a check of other rows is refused by what is written, and not by a sum
pub overflow_mul-size : goal.overflow_mul-size
overflow_mul-size c = omega (arith, c.rows-rows.ensures.number)

pub overflow_add-size : goal.overflow_add-size
overflow_add-size c = omega (arith, c.rows-rows.ensures.number)

pub returns-then-out-size : goal.returns-then-out-size
returns-then-out-size c =
    let t = c.args.t.now in
    let n = few (goal.at.returns-then-out-size c).In_ok-check in
    let e : length c.rows-rows.result.now ≡ t.count = omega (arith, c.rows-rows.ensures.number) in
    write-short t c.args.out.now c.in_ok-check.ensures (rw e at c.if-out-size.true)

pub returns : goal.returns
returns c =
    let t = c.args.t.now in
    let n = few (goal.at.returns c).In_ok-check in
    let k : length c.rows-rows.result.now ≡ t.count = omega (arith, c.rows-rows.ensures.number) in
    let e = rw (c.rows-rows.ensures.held n) at c.put_rows.ensures in
    rw k (write-done t c.args.out.now c.in_ok-check.ensures _ _ _ (rw k at c.if-out-size.false) c.put_head.ensures e (rw k at c.put_end.ensures))
