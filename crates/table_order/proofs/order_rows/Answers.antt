-- The tests, then what was shown. What is not named follows from the arithmetic around it.
use Rattle.std.proofs.Common.{refl, arith}
use Rattle.std.proofs.lemmas.Result.{err_from_is_err_and}
use Rattle.table.specs.Tests.{refuses, answers}
use Rattle.witness.proofs.WitnessLaws.{counts-on}
use Rattle.table_order.specs.Decided.{shown_none, shown_word}
use Rattle.table_order.proofs.order_rows.Goals as goal

pub returns-in_err-ways : goal.returns-in_err-ways
returns-in_err-ways c =
    let p = err_from_is_err_and c.from_residual.result c.from_residual.ensures.1 in
    rw (p.1, p.2) (refuses refl c.in_err-ways.ensures (refl, refl))

pub overflow_add-result : goal.overflow_add-result
overflow_add-result c = omega (arith, counts-on _ c.in-Some.is c.show_lowest.ensures)

pub returns-in-Some : goal.returns-in-Some
returns-in-Some c = answers c.in_ok-ways.ensures.0 (record { dist = _; via = _; reach = c.in_ok-ways.ensures.1; shown = shown_word c.in-Some.ensures })

pub returns-in-None : goal.returns-in-None
returns-in-None c = answers c.in_ok-ways.ensures.0 (record { dist = _; via = _; reach = c.in_ok-ways.ensures.1; shown = shown_none c.in-None.ensures })
