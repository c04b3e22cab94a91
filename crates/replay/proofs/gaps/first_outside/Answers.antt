use Rattle.std.proofs.Common.{◌≡◌, ◌∙◌, ◌<◌, length, get_or, ap, arith}
use Rattle.std.proofs.lemmas.Grind.{get_or_default_zero}
use Rattle.model.specs.Stamps.{gap_of}
use Rattle.replay.proofs.GapLaws.{all-passed, meets-here, one-passed, stopped}
use Rattle.replay.proofs.gaps.first_outside.Goals as goal

pub returns-in_default : goal.returns-in_default
returns-in_default g c =
    let a = c.args in
    let l = c.loop-i in
    let tr = g.T.Layout.list a.trace.now in
    let st = g.S.Layout.list a.stamps.now in
    let in_it : l.i < length tr = omega (arith, c.len-i-end.ensures) in
    let es : c.at-stamp.result ≡ get_or st l.i 0 = c.at-stamp.ensures ∙ get_or_default_zero st l.i c.at-stamp.result (omega arith) in
    stopped a.rows.now tr a.start st c.requires l.invariant in_it c.test_guard-met.result c.in_default.not-Inside c.passed_on.ensures
    (meets-here a.rows.now tr a.start st c.requires l.invariant in_it c.test_guard-met.result c.step_row.ensures (c.gap.ensures ∙ ap (gap_of l.before) es)
    c.test_guard-met.ensures)

pub loop-i-preserved : goal.loop-i-preserved
loop-i-preserved g c =
    let a = c.args in
    let l = c.loop-i in
    let tr = g.T.Layout.list a.trace.now in
    let st = g.S.Layout.list a.stamps.now in
    let in_it : l.i < length tr = omega (arith, c.len-i-end.ensures) in
    let es : c.at-stamp.result ≡ get_or st l.i 0 = c.at-stamp.ensures ∙ get_or_default_zero st l.i c.at-stamp.result (omega arith) in
    let m = meets-here a.rows.now tr a.start st c.requires l.invariant in_it c.test_guard-met.result c.step_row.ensures
    (c.gap.ensures ∙ ap (gap_of l.before) es) c.test_guard-met.ensures in
    rw es (one-passed a.rows.now tr a.start st c.requires l.invariant in_it (rw c.in-Inside.is at m))

pub returns : goal.returns
returns g c =
    let a = c.args in
    all-passed a.rows.now (g.T.Layout.list a.trace.now) a.start (g.S.Layout.list a.stamps.now) c.loop-i.invariant (omega (arith, c.len-i-end.ensures))
