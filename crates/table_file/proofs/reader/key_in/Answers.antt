-- What is not named follows from the arithmetic around it.
use mathlib.Core.Path.{◌∙◌}
use Rattle.table_file.proofs.FrameLaws.{body-key}
use Rattle.table_file.proofs.reader.key_in.Goals as goal

pub returns : goal.returns
returns c =
    rw (c.four.ensures, c.four-2.ensures, c.four-3.ensures, c.two.ensures) at c.mixed.ensures
    ∙ body-key c.args.body.now
