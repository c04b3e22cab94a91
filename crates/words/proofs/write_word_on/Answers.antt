use Rattle.std.proofs.Common.{refl, sym, ◌∙◌, arith}
use Rattle.words.proofs.WordLaws.{word-short, writing-none, writing_more, writing-all}
use Rattle.words.proofs.write_word_on.Goals as goal

pub returns-then-len-trace-clause-is : goal.returns-then-len-trace-clause-is
returns-then-len-trace-clause-is g c =
    let a = c.args in
    sym (word-short a.rows.now a.trace.now a.k a.m (g.O.Layout.list a.out.now) (omega (arith, c.len.ensures, c.if-len-trace.true)))

pub loop-i-init : goal.loop-i-init
loop-i-init g c = record { writing = writing-none (omega (arith, c.len.ensures, c.if-len-trace.false)); rest = refl }

pub loop-i-preserved : goal.loop-i-preserved
loop-i-preserved g c =
    let s = c.step in
    let t = c.gap_at-stamp in
    let l = c.loop-i in
    record {
      writing = writing_more l.invariant.writing (omega arith) s.result s.ensures t.result t.ensures _ refl _ c.put.ensures.is;
      rest = c.put.ensures.rest ∙ l.invariant.rest;
    }

pub returns-clause-is : goal.returns-clause-is
returns-clause-is g c = writing-all c.loop-i.invariant.writing c.loop-i-test.false
