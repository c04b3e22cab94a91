use Rattle.std.proofs.Common.{rules}
use Rattle.model.proofs.AnswerLaws.{tells-same}
use Rattle.table.proofs.SliceLaws.{every-all}
use Rattle.table.proofs.ranges.all_in_range.Goals as goal

pub returns : goal.returns
returns c = tells-same c.all.result (every-all c.args.rows.now) (search rules)
