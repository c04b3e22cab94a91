use native.Mathlib.Omega.{arith}
use mathlib.Core.Path.{refl, sym, ap, ◌∙◌}
use Prim.Native.Nat.{◌+◌}
use lib.ListN.{drop}
use Rattle.std.specs.Prelude.{Ok, Some}
use Rattle.table_file.proofs.FrameLaws.{whole-other, whole-cut, whole-yes, frame-short, frame-cut, frame_row, frame-other, frame-end-cut, frame-end, Begun, begun, left_body}
use lib.ListN.{length-drop}
use Rattle.table_file.specs.File.{row_in}
use Rattle.table_file.proofs.reader.frame.Goals as goal
use Rattle.table_file.proofs.reader.frame.Goals.{After-two-size, then-size-ne16-via-then-size-ne16, then-size-ne16-via-else-size-ne16+then-file-at-lt18}

pub returns-then-file-at-lt4 : goal.returns-then-file-at-lt4
returns-then-file-at-lt4 c =
    let a = c.args in
    frame-short a.at (drop a.at a.file.now) (omega (arith, length-drop a.at a.file.now))

-- the record's kind and length
read : (p : After-two-size)
    → let a = p.args in Begun a.file.now a.at p.two-kind.result p.two-size.result
read p =
    let a = p.args in
    begun a.file.now a.at p.two-kind.ensures p.two-size.ensures

pub returns-then-size-ne16 : goal.returns-then-size-ne16
returns-then-size-ne16 c =
    let r = read (goal.at.returns-then-size-ne16 c).After-two-size in
    frame-cut _ _ (omega arith) (r.kind_is ∙ c.if-kind-eq2.true) (elim c.then-size-ne16.branch [
      | then-size-ne16-via-then-size-ne16 w ↦ whole-other 16 _ (λ e. w.if-size-ne16.true (sym r.size_is ∙ e))
      | then-size-ne16-via-else-size-ne16+then-file-at-lt18 w ↦ whole-cut 16 _ (omega (arith, w.if-file-at-lt18.true))
    ])

pub returns-then-kind-eq2 : goal.returns-then-kind-eq2
returns-then-kind-eq2 c =
    let a = c.args in
    let r = read (goal.at.returns-then-kind-eq2 c).After-two-size in
    (ap (λ x. Ok (Some x)) (c.fields.ensures ∙ ap row_in (left_body a.file.now a.at (a.at + 18) refl)))
    ∙ frame_row _ _ (omega arith) (r.kind_is ∙ c.if-kind-eq2.true) (whole-yes 16 _ (r.size_is ∙ c.if-size-ne16.false) (omega arith))

pub returns-then-kind-ne3 : goal.returns-then-kind-ne3
returns-then-kind-ne3 c =
    let r = read (goal.at.returns-then-kind-ne3 c).After-two-size in
    frame-other _ _ (omega arith) (λ e. c.if-kind-eq2.false (sym r.kind_is ∙ e)) (λ e. c.if-kind-ne3.true (sym r.kind_is ∙ e))

pub returns-then-size-eq2 : goal.returns-then-size-eq2
returns-then-size-eq2 c =
    let r = read (goal.at.returns-then-size-eq2 c).After-two-size in
    frame-end _ _ (omega arith) (r.kind_is ∙ c.if-kind-ne3.false) (whole-yes 2 _ (r.size_is ∙ c.if-size-eq2.true) (omega arith))

pub returns : goal.returns
returns c =
    let r = read (goal.at.returns c).After-two-size in
    frame-end-cut _ _ (omega arith) (r.kind_is ∙ c.if-kind-ne3.false) (whole-other 2 _ (λ e. c.if-size-eq2.false (sym r.size_is ∙ e)))
