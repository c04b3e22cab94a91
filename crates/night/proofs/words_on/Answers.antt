use Rattle.std.proofs.Common.{◌≡◌, ◌*◌, length, refl, arith}
use Rattle.model.proofs.AnswerLaws.{told, untold}
use Rattle.night.proofs.NightLaws.{no-trace, uneven, cramped, words-played}
use Rattle.night.proofs.words_on.Goals as goal
use Rattle.night.proofs.words_on.Goals.{then-not-is_whole-via-then-not-is_whole, then-not-is_whole-via-else-not-is_whole+then-not-is_trace_on, then-not-is_whole-2-via-then-not-is_whole-2, then-not-is_whole-2-via-else-not-is_whole-2+then-not-is_whole-3, then-not-is_whole-2-via-else-not-is_whole-2+else-not-is_whole-3+then-words-gt256, then-len-all-2-via-then-len-all-2, then-len-all-2-via-else-len-all-2+then-len-all-3, then-len-all-2-via-else-len-all-2+else-len-all-3+then-len-words}

pub returns-then-not-is_whole-clause-run : goal.returns-then-not-is_whole-clause-run
returns-then-not-is_whole-clause-run g c =
    let a = c.args in
    let T = g.T.Layout in
    let S = g.S.Layout in
    no-trace a.rows.now (T.whole a.trace.now) (S.whole a.starts.now) (S.whole a.stamps.now) (T.list a.trace.now) (S.list a.starts.now) (S.list a.stamps.now)
    (g.O.Layout.list a.order.now) (g.D.Layout.list a.due.now) (g.O.Layout.list a.marks.now)
    (λ h. elim c.then-not-is_whole.branch [
      | then-not-is_whole-via-then-not-is_whole w ↦ untold _ c.is_whole.ensures w.if-not-is_whole.true h.0
      | then-not-is_whole-via-else-not-is_whole+then-not-is_trace_on w ↦ untold _ w.is_trace_on.ensures w.if-not-is_trace_on.true h.1
    ])

pub returns-then-not-is_whole-2-clause-run : goal.returns-then-not-is_whole-2-clause-run
returns-then-not-is_whole-2-clause-run g c =
    let a = c.args in
    let T = g.T.Layout in
    let S = g.S.Layout in
    uneven a.rows.now (T.whole a.trace.now) (S.whole a.starts.now) (S.whole a.stamps.now) (T.list a.trace.now) (S.list a.starts.now) (S.list a.stamps.now)
    (g.O.Layout.list a.order.now) (g.D.Layout.list a.due.now) (g.O.Layout.list a.marks.now)
    (told _ c.is_whole.ensures c.if-not-is_whole.false, told _ c.is_trace_on.ensures c.if-not-is_trace_on.false)
    (λ h. elim c.then-not-is_whole-2.branch [
      | then-not-is_whole-2-via-then-not-is_whole-2 w ↦ untold _ c.is_whole-2.ensures w.if-not-is_whole-2.true h.0
      | then-not-is_whole-2-via-else-not-is_whole-2+then-not-is_whole-3 w ↦ untold _ w.is_whole-else-not-is_whole-2.ensures w.if-not-is_whole-3.true h.1
      | then-not-is_whole-2-via-else-not-is_whole-2+else-not-is_whole-3+then-words-gt256 w ↦ omega (arith, h.2, c.len-words.ensures)
    ])

pub returns-then-len-all-clause-run : goal.returns-then-len-all-clause-run
returns-then-len-all-clause-run g c =
    let a = c.args in
    let T = g.T.Layout in
    let S = g.S.Layout in
    let all : c.len-words.result * c.len.result ≡ length (S.list a.starts.now) * length (T.list a.trace.now) = rw (c.len-words.ensures, c.len.ensures) refl in
    uneven a.rows.now (T.whole a.trace.now) (S.whole a.starts.now) (S.whole a.stamps.now) (T.list a.trace.now) (S.list a.starts.now) (S.list a.stamps.now)
    (g.O.Layout.list a.order.now) (g.D.Layout.list a.due.now) (g.O.Layout.list a.marks.now)
    (told _ c.is_whole.ensures c.if-not-is_whole.false, told _ c.is_trace_on.ensures c.if-not-is_trace_on.false)
    (λ h. omega (arith, h.3, all, c.len-2.ensures))

pub returns-then-len-all-2-clause-run : goal.returns-then-len-all-2-clause-run
returns-then-len-all-2-clause-run g c =
    let a = c.args in
    let T = g.T.Layout in
    let S = g.S.Layout in
    let all : c.len-words.result * c.len.result ≡ length (S.list a.starts.now) * length (T.list a.trace.now) = rw (c.len-words.ensures, c.len.ensures) refl in
    cramped a.rows.now (T.whole a.trace.now) (S.whole a.starts.now) (S.whole a.stamps.now) (T.list a.trace.now) (S.list a.starts.now) (S.list a.stamps.now)
    (g.O.Layout.list a.order.now) (g.D.Layout.list a.due.now) (g.O.Layout.list a.marks.now)
    (told _ c.is_whole.ensures c.if-not-is_whole.false, told _ c.is_trace_on.ensures c.if-not-is_trace_on.false)
    (told _ c.is_whole-2.ensures c.if-not-is_whole-2.false, told _ c.is_whole-else-not-is_whole-2.ensures c.if-not-is_whole-3.false, omega (arith, c.len-words.ensures), omega (arith, all, c.len-2.ensures))
    (λ r. elim c.then-len-all-2.branch [
      | then-len-all-2-via-then-len-all-2 w ↦ omega (arith, all, r.order_room, c.len-3.ensures)
      | then-len-all-2-via-else-len-all-2+then-len-all-3 w ↦ omega (arith, all, r.due_room, w.len-else-len-all-2.ensures)
      | then-len-all-2-via-else-len-all-2+else-len-all-3+then-len-words w ↦ omega (arith, r.marks_room, c.len-words.ensures, w.len-else-len-all-3.ensures)
    ])

pub play_all-requires : goal.play_all-requires
play_all-requires g c =
    let a = c.args in
    let T = g.T.Layout in
    let S = g.S.Layout in
    let all : c.len-words.result * c.len.result ≡ length (S.list a.starts.now) * length (T.list a.trace.now) = rw (c.len-words.ensures, c.len.ensures) refl in (
      omega (arith, all, c.len-2.ensures),
      record {
        order_room = omega (arith, all, c.len-3.ensures);
        due_room = omega (arith, all, c.len-else-len-all-2.ensures);
        marks_room = omega (arith, c.len-words.ensures, c.len-else-len-all-3.ensures);
      },
    )

pub returns-clause-run : goal.returns-clause-run
returns-clause-run g c =
    let a = c.args in
    let T = g.T.Layout in
    let S = g.S.Layout in
    let all : c.len-words.result * c.len.result ≡ length (S.list a.starts.now) * length (T.list a.trace.now) = rw (c.len-words.ensures, c.len.ensures) refl in
    rw c.len-words.ensures
    (words-played a.rows.now (T.whole a.trace.now) (S.whole a.starts.now) (S.whole a.stamps.now) (T.list a.trace.now) (S.list a.starts.now) (S.list a.stamps.now)
    (g.O.Layout.list a.order.now) (g.D.Layout.list a.due.now) (g.O.Layout.list a.marks.now)
    (told _ c.is_whole.ensures c.if-not-is_whole.false, told _ c.is_trace_on.ensures c.if-not-is_trace_on.false) (
      told _ c.is_whole-2.ensures c.if-not-is_whole-2.false,
      told _ c.is_whole-else-not-is_whole-2.ensures c.if-not-is_whole-3.false,
      omega (arith, c.len-words.ensures),
      omega (arith, all, c.len-2.ensures),
    )
    (record {
      order_room = omega (arith, all, c.len-3.ensures);
      due_room = omega (arith, all, c.len-else-len-all-2.ensures);
      marks_room = omega (arith, c.len-words.ensures, c.len-else-len-all-3.ensures);
    })
    c.play_all.ensures.run)
