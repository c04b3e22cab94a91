use Rattle.std.proofs.Common.{refl, sym}
use Rattle.std.proofs.lemmas.Result.{err_from_is_err_and}
use Rattle.replay.proofs.ReplayLaws.{refused-run, played-run}
use Rattle.replay.proofs.play_word.Goals as goal

pub returns-in_err-judge_word-clause-run : goal.returns-in_err-judge_word-clause-run
returns-in_err-judge_word-clause-run g c =
    let p = err_from_is_err_and c.from_residual.result c.from_residual.ensures.1 in
    rw (p.1, p.2) (refused-run _ _ _ _ _ _ _ _ (sym c.len.ensures) (sym c.len-2.ensures) refl c.in_err-judge_word.ensures)

pub returns-clause-run : goal.returns-clause-run
returns-clause-run g c =
    played-run _ _ _ _ _ _ _ _ (sym c.len.ensures) (sym c.len-2.ensures) refl c.in_ok-judge_word.ensures c.play.ensures.laid
