-- What is not named follows from the arithmetic around it.
use native.Mathlib.Omega.{arith}
use mathlib.Core.Path.{◌≡◌, refl, sym, ◌∙◌}
use Prim.Native.Nat.{◌+◌, ◌*◌}
use Rattle.table.specs.Rows.{said}
use Rattle.table.specs.Check.{same}
use Rattle.table.proofs.RowLaws.{has-none, has_more, has_here}
use Rattle.table_file.specs.Records.{record_at}
use Rattle.table_file.proofs.FrameLaws.{left_body}
use Rattle.table_file.proofs.reader.has_record.Goals as goal
use Rattle.table_file.proofs.reader.has_record.Goals.{After-same_body}

-- what the comparison tells
alike : (p : After-same_body) → let l = p.args.file.now in p.same_body.result ≡ same (said (record_at l p.loop-i.i)) (said (record_at l p.args.n))
alike p =
    let l = p.args.file.now in
    let i = p.loop-i.i in
    let n = p.args.n in
    rw (left_body l (8 + i * 18) (8 + i * 18 + 18) refl, left_body l (8 + n * 18) (8 + n * 18 + 18) refl) at p.same_body.ensures

pub loop-i-init : goal.loop-i-init
loop-i-init c = has-none _ _

pub returns-then-same_body : goal.returns-then-same_body
returns-then-same_body c =
    let l = c.args.file.now in
    has_here (λ i. said (record_at l i)) (said (record_at l c.args.n)) c.args.n c.loop-i.i (omega arith)
    (sym (alike (goal.at.returns-then-same_body c).After-same_body) ∙ c.if-same_body.true)

pub loop-i-preserved : goal.loop-i-preserved
loop-i-preserved c = has_more _ _ _ c.loop-i.invariant (sym (alike (goal.at.loop-i-preserved c).After-same_body) ∙ c.if-same_body.false)
