use Rattle.std.proofs.Common.{sym, arith}
use Rattle.words.proofs.WordLaws.{words-short, both-written}
use Rattle.words.proofs.write_words.Goals as goal

pub returns-then-stamps-n : goal.returns-then-stamps-n
returns-then-stamps-n c =
    let a = c.args in
    sym (words-short a.rows.now a.trace.now a.k a.m a.stamps.now (omega (arith, c.if-stamps-n.true)))

pub returns : goal.returns
returns c =
    let a = c.args in
    both-written a.rows.now a.trace.now a.k a.m a.stamps.now _ _ (omega (arith, c.if-stamps-n.false))
    c.write_word.ensures c.write_word-2.ensures
