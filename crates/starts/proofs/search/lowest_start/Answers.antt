use native.Mathlib.Omega.{arith}
use lib.ListN.{length}
use Rattle.table.proofs.RowLaws.{length-rows}
use Rattle.starts.proofs.search.lowest_start.Goals as goal

pub first_start-requires : goal.first_start-requires
first_start-requires c =
    let s = c.requires in
    let k = c.fill.auto in
    let l = c.args.fit.rows.now in
    record {
      sized = omega (arith, s.1, k.numbers, k.letters);
      n = c.args.n;
      room = omega (arith, s.3, k.numbers);
      covers = rw (length-rows l (length l)) s.0;
      filled = c.fill.ensures;
    }
