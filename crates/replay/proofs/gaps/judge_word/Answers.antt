use Rattle.std.proofs.Common.{arith}
use Rattle.replay.proofs.ReplayLaws.{word-long, word-uneven, word-cramped, word-gaps}
use Rattle.replay.proofs.gaps.judge_word.Goals as goal

pub returns-then-n-gt512 : goal.returns-then-n-gt512
returns-then-n-gt512 g c = word-long _ _ _ _ _ _ (λ h. omega (arith, c.len-n.ensures))

pub returns-then-len-n : goal.returns-then-len-n
returns-then-len-n g c =
    word-uneven _ _ _ _ _ _ (omega (arith, c.len-n.ensures)) (λ e. omega (arith, c.len-n.ensures, c.len.ensures))

pub returns-then-orders-n : goal.returns-then-orders-n
returns-then-orders-n g c =
    word-cramped _ _ _ _ _ _ (omega (arith, c.len-n.ensures)) (omega (arith, c.len-n.ensures, c.len.ensures))
    (λ r. omega (arith, c.len-n.ensures, c.then-orders-n.either))

pub returns : goal.returns
returns g c =
    word-gaps _ _ _ _ _ _ (omega (arith, c.len-n.ensures)) (omega (arith, c.len-n.ensures, c.len.ensures))
    (omega (arith, c.len-n.ensures), omega (arith, c.len-n.ensures)) c.first_outside.ensures
