-- What is not named follows from the arithmetic around it.
use mathlib.Core.Path.{refl, ap, ◌∙◌}
use Prim.Native.Nat.{◌+◌, ◌*◌}
use Rattle.table_file.specs.File.{row_in}
use Rattle.table_file.proofs.FrameLaws.{left_body}
use Rattle.table_file.proofs.reader.record_at.Goals as goal

pub returns : goal.returns
returns c =
    let a = c.args in
    c.fields.ensures ∙ ap row_in (left_body a.file.now (8 + a.i * 18) (8 + a.i * 18 + 18) refl)
