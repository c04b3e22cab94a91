use mathlib.Core.Path.{sym, ◌∙◌}
use Prim.Native.Nat.{◌+◌, ◌*◌}
use Rattle.wire.proofs.Bytes.{le-halves}
use Rattle.table_file.proofs.FrameLaws.{body-not, body_same}
use Rattle.table_file.proofs.reader.same_body.Goals as goal

pub returns-then-four : goal.returns-then-four
returns-then-four c =
    let a = c.args in
    body-not (λ t. t.from + t.input * 65536) a.a.now a.b.now (c.four.ensures ∙ le-halves a.a.now 0)
    (c.four-2.ensures ∙ le-halves a.b.now 0) c.if-four.true

pub returns-then-four-2 : goal.returns-then-four-2
returns-then-four-2 c =
    let a = c.args in
    body-not (λ t. t.output + t.to * 65536) a.a.now a.b.now (c.four-3.ensures ∙ le-halves a.a.now 4)
    (c.four-4.ensures ∙ le-halves a.b.now 4) c.if-four-2.true

pub returns-then-four-3 : goal.returns-then-four-3
returns-then-four-3 c =
    let a = c.args in
    body-not (λ t. t.u + t.v * 65536) a.a.now a.b.now (c.four-5.ensures ∙ le-halves a.a.now 8)
    (c.four-6.ensures ∙ le-halves a.b.now 8) c.if-four-3.true

pub returns-then-two : goal.returns-then-two
returns-then-two c =
    let a = c.args in
    body-not (λ t. t.d) a.a.now a.b.now c.two.ensures c.two-2.ensures c.if-two.true

pub returns : goal.returns
returns c =
    let a = c.args in
    body_same a.a.now a.b.now (λ i. (c.type_inv.a i).fits) (λ i. (c.type_inv.b i).fits)
    (sym c.four.ensures ∙ c.if-four.false ∙ c.four-2.ensures)
    (sym c.four-3.ensures ∙ c.if-four-2.false ∙ c.four-4.ensures)
    (sym c.four-5.ensures ∙ c.if-four-3.false ∙ c.four-6.ensures)
    (sym c.two.ensures ∙ c.if-two.false ∙ c.two-2.ensures)
