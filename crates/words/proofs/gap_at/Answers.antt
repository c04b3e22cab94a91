use Rattle.std.proofs.Common.{sym, ◌∙◌, arith}
use Rattle.model.proofs.Words.{inside-early}
use Rattle.model.proofs.StampLaws.{outside-early}
use Rattle.words.proofs.gap_at.Goals as goal

pub returns-then-i-m : goal.returns-then-i-m
returns-then-i-m c = c.early_gap.ensures ∙ sym (inside-early _ _ _ _ (omega arith) (omega arith))

pub returns-else-k-i : goal.returns-else-k-i
returns-else-k-i c = c.late_gap.ensures ∙ sym (outside-early _ _ _ _ (λ h. omega arith))
