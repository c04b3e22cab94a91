use native.Mathlib.Omega.{arith}
use mathlib.Core.Path.{sym, ◌∙◌}
use Rattle.table_file.proofs.FrameLaws.{whole-other, whole-cut, whole-yes, head-short, head-other, head-cut, head-whole}
use Rattle.table_file.proofs.reader.head.Goals as goal
use Rattle.table_file.proofs.reader.head.Goals.{then-two-ne6-via-then-two-ne6, then-two-ne6-via-else-two-ne6+then-file-lt8}

pub returns-then-file-lt4 : goal.returns-then-file-lt4
returns-then-file-lt4 c = head-short c.args.file.now c.if-file-lt4.true

pub returns-then-two-ne1 : goal.returns-then-two-ne1
returns-then-two-ne1 c = head-other c.args.file.now c.if-file-lt4.false (λ e. c.if-two-ne1.true (c.two.ensures ∙ e))

pub returns-then-two-ne6 : goal.returns-then-two-ne6
returns-then-two-ne6 c =
    let l = c.args.file.now in
    head-cut l c.if-file-lt4.false (sym c.two.ensures ∙ c.if-two-ne1.false) (elim c.then-two-ne6.branch [
      | then-two-ne6-via-then-two-ne6 w ↦ whole-other 6 l (λ e. w.if-two-ne6.true (c.two-2.ensures ∙ e))
      | then-two-ne6-via-else-two-ne6+then-file-lt8 w ↦ whole-cut 6 l (omega (arith, w.if-file-lt8.true))
    ])

pub returns : goal.returns
returns c =
    let l = c.args.file.now in
    c.opened.ensures ∙ head-whole l c.if-file-lt4.false (sym c.two.ensures ∙ c.if-two-ne1.false)
    (whole-yes 6 l (sym c.two-2.ensures ∙ c.if-two-ne6.false) (omega arith))
