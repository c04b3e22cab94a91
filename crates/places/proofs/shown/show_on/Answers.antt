use Rattle.std.proofs.Common.{refl, arith, inl}
use Rattle.table.specs.declared.Refusal.TheVariants.{NoRoom}
use Rattle.table.specs.Showing.{says_none}
use Rattle.table.specs.Tests.{refuses, answers}
use Rattle.places.proofs.shown.show_on.Goals as goal
use Rattle.places.proofs.shown.show_on.Goals.{then-trace-lt270-via-then-trace-lt270, then-trace-lt270-via-else-trace-lt270+then-stamps}

pub returns-then-trace-lt270 : goal.returns-then-trace-lt270
returns-then-trace-lt270 g c =
    refuses (g.met.Q.Asked.refused NoRoom)
    (inl (
      elim c.then-trace-lt270.branch [
        | then-trace-lt270-via-then-trace-lt270 w ↦ λ r. omega (arith, w.if-trace-lt270.true)
        | then-trace-lt270-via-else-trace-lt270+then-stamps w ↦ λ r. omega (arith, w.if-stamps.true)
      ],
      refl,
      refl,
    )) (refl, refl)

-- The search finds these too; named, a check that fails says which room is short.
pub returns-in-Some : goal.returns-in-Some
returns-in-Some g c =
    answers ((omega (arith, c.if-trace-lt270.false), omega (arith, c.if-stamps.false)), tt)
    (says_none c.in-Some.ensures.0 c.in-Some.ensures.1 (refl, refl))

pub search_on-requires-clause-passes : goal.search_on-requires-clause-passes
search_on-requires-clause-passes g c = ((omega (arith, c.if-trace-lt270.false), omega (arith, c.if-stamps.false)), tt)
