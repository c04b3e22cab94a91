use Rattle.table.proofs.RowLaws.{row-equal}
use Rattle.table_file.proofs.reader.fields.Goals as goal

pub returns : goal.returns
returns c =
    row-equal c.two.ensures c.two-2.ensures c.two-3.ensures c.two-4.ensures
    c.two-5.ensures c.two-6.ensures c.two-7.ensures
