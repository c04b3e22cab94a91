-- The loop keeps, beside what it has seen, that it looks at no more than 239 steps.
use Rattle.table.specs.Rows.{said}
use Rattle.verdict.proofs.PairLaws.{LookedNear}
use Rattle.verdict.proofs.pairs.partner_of.Given as goal

abbrev pub invariant-loop-m : goal.invariant-loop-m
invariant-loop-m l = LookedNear l.line l.k (said l.first) l.m l.u l.late
