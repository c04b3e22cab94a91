-- What is not named follows from the arithmetic around it.
use native.Mathlib.Omega.{arith}
use Rattle.table.proofs.SeenLaws.{place-few, place-many}
use Rattle.table.proofs.seen.place.Goals as goal

pub returns-then-size-lt2048 : goal.returns-then-size-lt2048
returns-then-size-lt2048 c = let a = c.args in place-few a.size a.key c.if-size-lt2048.true

pub returns : goal.returns
returns c = let a = c.args in place-many a.size a.key (omega arith)
