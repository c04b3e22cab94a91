use Rattle.table_file.proofs.OutcomeLaws.{into-clear}
use Rattle.table_file.proofs.read_table.Goals as goal

pub returns : goal.returns
returns c = into-clear _ (λ i. (c.type_inv.file i).fits) _ _ c.read_into-answer.ensures
