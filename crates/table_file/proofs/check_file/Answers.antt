use Rattle.table_file.proofs.check_file.Goals as goal

pub returns : goal.returns
returns c = c.scan.ensures.tells
