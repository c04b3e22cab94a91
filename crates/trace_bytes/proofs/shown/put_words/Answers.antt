-- What is not named follows from the arithmetic around it.
use Rattle.trace_bytes.proofs.ShownLaws.{both-is, both-rest}
use Rattle.trace_bytes.proofs.shown.put_words.Goals as goal

pub returns-clause-is : goal.returns-clause-is
returns-clause-is c =
    let a = c.args in
    both-is a.rows.now a.trace.now a.k a.m a.out.now _ _ c.requires (record { is = c.write_word_on.ensures.is; rest = c.write_word_on.ensures.rest })
    (record { is = c.write_word_on-2.ensures.is; rest = c.write_word_on-2.ensures.rest })

pub returns-clause-rest : goal.returns-clause-rest
returns-clause-rest c =
    let a = c.args in
    both-rest a.rows.now a.trace.now a.k a.m a.out.now _ _ c.requires (record { is = c.write_word_on.ensures.is; rest = c.write_word_on.ensures.rest })
    (record { is = c.write_word_on-2.ensures.is; rest = c.write_word_on-2.ensures.rest })
