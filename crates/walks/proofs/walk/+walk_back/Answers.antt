use native.Mathlib.Omega.{arith}
use lib.ListN.{length, length-set}
use Rattle.table.proofs.RowLaws.{length-rows}
use Rattle.walks.proofs.WalkLaws.{seen}
use Rattle.walks.proofs.BackLaws.{back-in, explained, step_falls, back-stands, first-went, back_on, went-step}
use Rattle.walks.proofs.walk.+walk_back.Goals as goal

pub offset_bounds-fit-j : goal.offset_bounds-fit-j
offset_bounds-fit-j t c =
    omega (arith, back-in c.args.fit c.requires.0, c.args.fit.few)

pub bounds-fit-j : goal.bounds-fit-j
bounds-fit-j t c = back-in c.args.fit c.requires.0

pub overflow_sub-left : goal.overflow_sub-left
overflow_sub-left t c =
    let z = seen c.args.fit c.args.j (back-in c.args.fit c.requires.0) in
    omega (arith, step_falls c.requires.0 z)

pub overflow_sub-p : goal.overflow_sub-p
overflow_sub-p t c =
    let z = seen c.args.fit c.args.j (back-in c.args.fit c.requires.0) in
    omega (arith, step_falls c.requires.0 z, z.fine.low)

pub low-requires : goal.low-requires
low-requires t c =
    omega (arith, back-in c.args.fit c.requires.0, c.args.fit.few)

pub returns-then-left-eq0 : goal.returns-then-left-eq0
returns-then-left-eq0 t c =
    let s = c.requires in
    let z = seen c.args.fit c.args.j (back-in c.args.fit s.0) in
    first-went s.0 z c.low.ensures (omega (arith, step_falls s.0 z, z.fine.low)) (omega arith) (omega arith)

pub explain-i-requires : goal.explain-i-requires
explain-i-requires t c =
    let z = seen c.args.fit c.args.j (back-in c.args.fit c.requires.0) in
    let p = back-stands c.requires.0 z in
    rw c.from.ensures (p.roomy.size, p.high, p.state, explained p (λ e. c.if-left-eq0.false (omega (arith, e))))

pub walk_back-requires : goal.walk_back-requires
walk_back-requires t c =
    let l = c.args.fit.rows.now in
    let s = c.requires in
    let z = seen c.args.fit c.args.j (back-in c.args.fit s.0) in
    let f = step_falls s.0 z in
    let e = rw c.from.ensures at c.explain-i.ensures in (
      omega (arith, c.decreases, z.fine.low),
      (rw c.from.ensures (back_on s.0 z (omega (arith, e.0, length-rows l (length l))) e.1), omega (arith, z.fine.low), omega arith, simp length-set s.3),
    )

pub returns : goal.returns
returns t c =
    let l = c.args.fit.rows.now in
    let s = c.requires in
    let z = seen c.args.fit c.args.j (back-in c.args.fit s.0) in
    let f = step_falls s.0 z in
    let e = rw c.from.ensures at c.explain-i.ensures in
    went-step s.0 z c.low.ensures (omega (arith, z.fine.low)) (omega arith) (omega (arith, e.0, length-rows l (length l))) e.1
    (rw c.from.ensures at c.walk_back.ensures)
