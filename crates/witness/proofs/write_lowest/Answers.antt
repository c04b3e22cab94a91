-- Two tries: nothing is written until one shows a pair.
use Rattle.witness.specs.Witness.{none_shown}
use Rattle.witness.proofs.WitnessLaws.{tried-none, tried-marked, tried-shown, from_lowest, from_nothing}
use Rattle.witness.proofs.write_lowest.Goals as goal
use Rattle.witness.proofs.write_lowest.Goals.{then-is_some-via-then-is_some, then-is_some-via-else-is_some+then-last}
use Rattle.std.proofs.Common.{sym, ◌∙◌}

pub returns-in_err-found : goal.returns-in_err-found
returns-in_err-found c =
    let l = c.loop-trace in
    rw (c.from_residual.ensures, l.invariant.0) (none_shown (tried-none _ l.last (rw c.in_err-found.was at l.invariant.1)))

pub write_from-shown-requires : goal.write_from-shown-requires
write_from-shown-requires c =
    let l = c.loop-trace in
    tried-marked _ _ l.last (rw c.in_ok-found.was at l.invariant.1)

pub returns-then-is_some : goal.returns-then-is_some
returns-then-is_some c =
    let l = c.loop-trace in
    let t = rw c.in_ok-found.was at l.invariant.1 in
    let o = rw l.invariant.0 at c.write_from-shown.ensures in
    elim c.then-is_some.branch [
      | then-is_some-via-then-is_some w ↦ tried-shown _ l.last (sym c.is_some.ensures ∙ w.if-is_some.true) t o
      | then-is_some-via-else-is_some+then-last w ↦ from_lowest (rw w.if-last.true at t) o
    ]

pub loop-trace-preserved : goal.loop-trace-preserved
loop-trace-preserved c =
    (from_nothing (sym c.is_some.ensures ∙ c.if-is_some.false) c.write_from-shown.ensures ∙ c.loop-trace.invariant.0, c.lowest-found.ensures)
