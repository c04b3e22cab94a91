use lib.ListN.{length}
use Rattle.verdict.specs.Line.{along}
use Rattle.verdict.specs.Pairs.{Passed}
use Rattle.verdict.specs.Sight.{Far}
use Rattle.verdict.proofs.pairs.pair_from.Given as goal

abbrev pub invariant-loop-k : goal.invariant-loop-k
invariant-loop-k l =
    Far l.seen.early.now l.seen.late.now l.seen.calm.now (length l.seen.line.trace.now) l.sight × Passed (along l.seen.line) l.k
