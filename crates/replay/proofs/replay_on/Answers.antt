use Rattle.std.proofs.Common.{arith}
use Rattle.model.proofs.AnswerLaws.{told, untold}
use Rattle.replay.proofs.ListsLaws.{no-trace, uneven, cramped, word-lists}
use Rattle.replay.proofs.replay_on.Goals as goal
use Rattle.replay.proofs.replay_on.Goals.{Else-not-is_trace_on, Else-len-n, then-not-is_whole-via-then-not-is_whole, then-not-is_whole-via-else-not-is_whole+then-not-is_trace_on, then-not-is_whole-2-via-then-not-is_whole-2, then-not-is_whole-2-via-else-not-is_whole-2+then-len-n, then-len-n-2-via-then-len-n-2, then-len-n-2-via-else-len-n-2+then-len-n-3}

pub returns-then-not-is_whole-clause-run : goal.returns-then-not-is_whole-clause-run
returns-then-not-is_whole-clause-run g c =
    let a = c.args in
    let T = g.T.Layout in
    let S = g.S.Layout in
    no-trace a.rows.now (T.whole a.trace.now) (S.whole a.stamps.now) (T.list a.trace.now) a.start (S.list a.stamps.now) (g.O.Layout.list a.order.now) (g.D.Layout.list a.due.now)
    (λ h. elim c.then-not-is_whole.branch [
      | then-not-is_whole-via-then-not-is_whole w ↦ untold _ c.is_whole.ensures w.if-not-is_whole.true h.0
      | then-not-is_whole-via-else-not-is_whole+then-not-is_trace_on w ↦ untold _ w.is_trace_on.ensures w.if-not-is_trace_on.true h.1
    ])

pub returns-then-not-is_whole-2-clause-run : goal.returns-then-not-is_whole-2-clause-run
returns-then-not-is_whole-2-clause-run g c =
    let a = c.args in
    let T = g.T.Layout in
    let S = g.S.Layout in
    uneven a.rows.now (T.whole a.trace.now) (S.whole a.stamps.now) (T.list a.trace.now) a.start (S.list a.stamps.now) (g.O.Layout.list a.order.now) (g.D.Layout.list a.due.now)
    (told _ c.is_whole.ensures c.if-not-is_whole.false, told _ c.is_trace_on.ensures c.if-not-is_trace_on.false)
    (λ h. elim c.then-not-is_whole-2.branch [
      | then-not-is_whole-2-via-then-not-is_whole-2 w ↦ untold _ c.is_whole-2.ensures w.if-not-is_whole-2.true h.0
      | then-not-is_whole-2-via-else-not-is_whole-2+then-len-n w ↦ omega (arith, h.1, c.len-n.ensures, w.len.ensures)
    ])

pub returns-then-len-n-2-clause-run : goal.returns-then-len-n-2-clause-run
returns-then-len-n-2-clause-run g c =
    let a = c.args in
    let T = g.T.Layout in
    let S = g.S.Layout in
    cramped a.rows.now (T.whole a.trace.now) (S.whole a.stamps.now) (T.list a.trace.now) a.start (S.list a.stamps.now) (g.O.Layout.list a.order.now) (g.D.Layout.list a.due.now)
    (told _ c.is_whole.ensures c.if-not-is_whole.false, told _ c.is_trace_on.ensures c.if-not-is_trace_on.false)
    (told _ c.is_whole-2.ensures c.if-not-is_whole-2.false, omega (arith, c.len-n.ensures, c.len.ensures))
    (λ h. elim c.then-len-n-2.branch [
      | then-len-n-2-via-then-len-n-2 w ↦ omega (arith, h.0, c.len-n.ensures, c.len-2.ensures)
      | then-len-n-2-via-else-len-n-2+then-len-n-3 w ↦ omega (arith, h.1, c.len-n.ensures, w.len-else-len-n-2.ensures)
    ])

pub returns-clause-run : goal.returns-clause-run
returns-clause-run g c =
    let a = c.args in
    let T = g.T.Layout in
    let S = g.S.Layout in
    word-lists a.rows.now (T.whole a.trace.now) (S.whole a.stamps.now) (T.list a.trace.now) a.start (S.list a.stamps.now) (g.O.Layout.list a.order.now) (g.D.Layout.list a.due.now)
    (told _ c.is_whole.ensures c.if-not-is_whole.false, told _ c.is_trace_on.ensures c.if-not-is_trace_on.false)
    (told _ c.is_whole-2.ensures c.if-not-is_whole-2.false, omega (arith, c.len-n.ensures, c.len.ensures))
    (omega (arith, c.len-n.ensures, c.len-2.ensures), omega (arith, c.len-n.ensures, c.len-else-len-n-2.ensures))
    c.play_word.ensures.run
