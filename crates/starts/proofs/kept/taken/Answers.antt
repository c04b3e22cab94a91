use Rattle.starts.specs.Kept.{taken_like, taken_more, taken_less}
use Rattle.starts.proofs.kept.taken.Goals as goal

pub returns-then-letter-a : goal.returns-then-letter-a
returns-then-letter-a c = rw c.max.ensures (taken_like c.if-letter-a.true)

pub returns-then-a-x : goal.returns-then-a-x
returns-then-a-x c = taken_more c.if-letter-a.false c.if-a-x.true

pub returns : goal.returns
returns c = rw c.max-2.ensures (taken_less c.if-letter-a.false c.if-a-x.false)
