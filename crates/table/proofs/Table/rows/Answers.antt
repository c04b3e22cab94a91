use native.Mathlib.Omega.{arith}
use mathlib.Core.Path.{◌≡◌}
use Rattle.table.proofs.SliceLaws.{rows-lent}
use Rattle.table.proofs.Table.rows.Goals as goal

pub returns-clause-held : goal.returns-clause-held
returns-clause-held c = λ few.
    let t = c.args.self.now in
    let e : c.min.result ≡ t.count = omega (arith, c.min.ensures) in
    rw e (rows-lent t.cells t.count (omega arith))
