-- The trace, then its words.
use Rattle.witness.specs.Witness.{words_none, words_shown}
use Rattle.witness.proofs.show_lowest.Goals as goal

pub returns-in_err-w : goal.returns-in_err-w
returns-in_err-w c = rw c.from_residual.ensures (words_none (rw c.in_err-w.was at c.write_lowest.ensures))

pub returns : goal.returns
returns c = words_shown (rw c.in_ok-w.was at c.write_lowest.ensures) c.write_goal.ensures
