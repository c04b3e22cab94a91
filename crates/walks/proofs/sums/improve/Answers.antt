use native.Mathlib.Omega.{arith}
use Rattle.walks.proofs.WalkLaws.{seen}
use Rattle.walks.proofs.BestLaws.{skip-long, skip-none, skip-less, put-more, from-small}
use Rattle.walks.proofs.sums.improve.Goals as goal

pub returns-then-at-u : goal.returns-then-at-u
returns-then-at-u c = skip-long c.requires.1 (seen c.args.fit c.args.i c.requires.0) (omega arith)

pub returns-then-x-eq0 : goal.returns-then-x-eq0
returns-then-x-eq0 c =
    skip-none c.requires.1 (seen c.args.fit c.args.i c.requires.0) (rw (← c.from-u.ensures) (omega arith))

pub overflow_add-y : goal.overflow_add-y
overflow_add-y c =
    let h = from-small c.requires.1 (seen c.args.fit c.args.i c.requires.0) (omega arith) in
    let x = rw c.from-u.ensures at c.number-x.ensures in
    omega arith

pub returns-then-y-number : goal.returns-then-y-number
returns-then-y-number c =
    let x = rw c.from-u.ensures at c.number-x.ensures in
    skip-less c.requires.1 (seen c.args.fit c.args.i c.requires.0) (omega arith)

pub returns : goal.returns
returns c =
    let x = rw c.from-u.ensures at c.number-x.ensures in
    rw c.from.ensures (put-more c.requires.1 (seen c.args.fit c.args.i c.requires.0) (omega arith) (omega arith) (omega arith) (omega arith))
