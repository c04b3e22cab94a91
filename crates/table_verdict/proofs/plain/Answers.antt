-- The search finds this too; named, a check that fails says which look is another's.
use Rattle.table_verdict.proofs.DecideLaws.{plain-told}
use Rattle.table_verdict.proofs.plain.Goals as goal

pub returns-then-calm : goal.returns-then-calm
returns-then-calm c = plain-told _ c.if-calm.ensures c.apart.ensures
