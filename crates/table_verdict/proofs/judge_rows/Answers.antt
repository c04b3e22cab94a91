-- The tests, then split, else turning, else strict. What is not named follows from the arithmetic around it.
use Rattle.std.proofs.Common.{refl, arith}
use Rattle.std.proofs.lemmas.Result.{err_from_is_err_and}
use Rattle.table.specs.Tests.{refuses, answers}
use Rattle.witness.proofs.WitnessLaws.{counts-on}
use Rattle.table_verdict.specs.Decided.{turns_not, turns_from, marks_split, marks_turn}
use Rattle.table_verdict.proofs.DecideLaws.{pair-room}
use Rattle.table_verdict.proofs.judge_rows.Goals as goal

pub returns-in_err-ways : goal.returns-in_err-ways
returns-in_err-ways c =
    let p = err_from_is_err_and c.from_residual.result c.from_residual.ensures.1 in
    rw (p.1, p.2) (refuses refl c.in_err-ways.ensures (refl, refl))

pub show_split-requires : goal.show_split-requires
show_split-requires c =
    let t = c.in_ok-ways.ensures in
    let o = pair-room t.0.1.0.sound t.1 c.in-Some.ensures t.0.1.1.0.0 t.0.1.1.0.1 in
    (t.0.1.0.sound, o.0, o.1)

pub returns-in-Some : goal.returns-in-Some
returns-in-Some c = answers c.in_ok-ways.ensures.0 (marks_split c.in_ok-ways.ensures.1 c.in-Some.ensures c.show_split.ensures)

pub overflow_add-result : goal.overflow_add-result
overflow_add-result c = omega (arith, counts-on _ c.in-Some-show_lowest.is c.show_lowest.ensures)

pub returns-in-Some-show_lowest : goal.returns-in-Some-show_lowest
returns-in-Some-show_lowest c = answers c.in_ok-ways.ensures.0 (marks_turn c.in_ok-ways.ensures.1 c.in_default.ensures (turns_from c.in-Some-show_lowest.ensures))

pub returns-in-None : goal.returns-in-None
returns-in-None c = answers c.in_ok-ways.ensures.0 (marks_turn c.in_ok-ways.ensures.1 c.in_default.ensures (turns_not c.in-None.ensures))
