use Rattle.std.proofs.Common.{◌≡◌, ◌∙◌, ◌*◌, ap, arith}
use Rattle.table.specs.declared.Row.{Row}
use Rattle.table.specs.Rows.{row_of}
use Rattle.replay.proofs.timed.Goals as goal

pub returns : goal.returns
returns c =
    let p : c.parts.result ≡ (row_of c.args.rows.now c.args.step).d * 256 =
    c.parts.ensures ∙ ap (λ (r : Row). r.d * 256) (c.row_of-row.ensures ∙ ap (row_of c.args.rows.now) c.from.ensures) in
    (omega (arith, c.gap.ensures), omega (arith, p))
