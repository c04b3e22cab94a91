use Rattle.std.proofs.Common.{Ok, refl}
use Rattle.table.proofs.TestLaws.{valid-count}
use Rattle.table_verdict.specs.OnTable.{table_fields}
use Rattle.places.proofs.ShownLaws.{sighted}
use Rattle.verdict_bytes.proofs.TableLaws.{plain-judged}
use Rattle.verdict_bytes.proofs.VerdictAsked540.at_sight.Goals as goal

pub returns : goal.returns
returns c =
    let t = c.args.t.now in
    rw c.then_some.ensures
    (sighted (λ a. table_fields (Ok a)) _ _ refl (plain-judged t c.requires _ _ (c.rows.ensures.held (valid-count t c.requires))) c.plain.ensures)
