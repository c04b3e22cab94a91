use Rattle.std.proofs.Common.{arith, length}
use Rattle.model.proofs.AnswerLaws.{told, untold, tells-same}
use Rattle.trace.proofs.TraceLaws.{trace-in-law}
use Rattle.trace.proofs.is_trace_on.Goals as goal

pub returns-then-all_named : goal.returns-then-all_named
returns-then-all_named g c =
    let a = c.args in
    let law = trace-in-law a.rows.now (length a.rows.now) (g.T.Layout.list a.trace.now) in
    let named = told c.all_named.result c.all_named.ensures c.if-all_named.true in
    tells-same c.all_joined.result (λ j. law.1 (omega arith, omega arith, omega arith, named, j), λ t. (law.0 t).4) c.all_joined.ensures

pub returns-else-all_named : goal.returns-else-all_named
returns-else-all_named g c =
    let a = c.args in
    let law = trace-in-law a.rows.now (length a.rows.now) (g.T.Layout.list a.trace.now) in
    rw c.if-all_named.false (λ t. untold c.all_named.result c.all_named.ensures c.if-all_named.false (law.0 t).3)
