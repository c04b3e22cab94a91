use native.Mathlib.Omega.{arith}
use Rattle.walks.proofs.WalkLaws.{late-top, seen}
use Rattle.starts.proofs.TableLaws.{skip-long, skip-full, put-more}
use Rattle.starts.proofs.sums.improve.Goals as goal

pub returns-then-b-u : goal.returns-then-b-u
returns-then-b-u c = skip-long c.requires.1 (seen c.args.fit c.args.i c.requires.0) (omega arith)

pub returns-then-a-ge61440 : goal.returns-then-a-ge61440
returns-then-a-ge61440 c = skip-full c.requires.1 (seen c.args.fit c.args.i c.requires.0) c.entry-a.ensures c.if-a-ge61440.true

pub joined-requires : goal.joined-requires
joined-requires c = omega (arith, late-top (seen c.args.fit c.args.i c.requires.0).fine, c.late_gap.ensures)

pub returns : goal.returns
returns c =
    let p = c.put.ensures in
    let u = c.from-u.ensures in
    rw (p.0, p.1) (put-more c.requires.1 (seen c.args.fit c.args.i c.requires.0) (omega arith) c.entry-a.ensures (rw u at c.entry-n.ensures)
    c.late_gap.ensures c.joined.ensures (rw u at c.ended-e.ensures))
