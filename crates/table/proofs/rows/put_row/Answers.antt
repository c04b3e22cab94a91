use mathlib.Core.Path.{sym}
use Rattle.table.proofs.RowLaws.{put-near, put-far}
use Rattle.table.proofs.rows.put_row.Goals as goal

pub returns-then-i-lt256 : goal.returns-then-i-lt256
returns-then-i-lt256 c = sym (put-near _ _ _ c.if-i-lt256.true)

pub returns-else-i-lt256 : goal.returns-else-i-lt256
returns-else-i-lt256 c = put-far _ _ _ c.if-i-lt256.false
