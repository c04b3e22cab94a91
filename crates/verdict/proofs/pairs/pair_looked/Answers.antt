-- What is not named follows from the arithmetic around it.
use native.Mathlib.Omega.{arith}
use Rattle.verdict.proofs.LineLaws.{length-along}
use Rattle.verdict.proofs.PairLaws.{passed-more, passed-all, least-here}
use Rattle.verdict.proofs.SightLaws.{looked-seen, looked-passed}
use Rattle.verdict.proofs.pairs.pair_looked.Goals as goal

pub returns-then-len-first : goal.returns-then-len-first
returns-then-len-first c =
    passed-all (looked-passed c.args.line c.look_back-first.ensures) (omega (arith, length-along c.args.line))

pub returns-in-Some : goal.returns-in-Some
returns-in-Some c = least-here (looked-passed c.args.line c.look_back-first.ensures) _ c.in-Some.ensures

pub invariant_of-seen : goal.invariant_of-seen
invariant_of-seen c =
    let b = c.look_back-first.ensures in
    record { numbers = b.numbers; times = c.fill.ensures; seen = looked-seen c.args.line b }

pub pair_from-requires : goal.pair_from-requires
pair_from-requires c = (omega arith, passed-more (looked-passed c.args.line c.look_back-first.ensures) c.in_default.ensures)
