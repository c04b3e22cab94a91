-- The player's answers by their numbers and values.
use Rattle.std.specs.Prelude.{Result, Ok, Err}
use Rattle.model.specs.Answers.{Fields, fields}
use Rattle.table.specs.Refusal.{refused_fields}
use Rattle.player.specs.declared.Done.{Done}
use Rattle.player.specs.declared.Denial.{Denial}
use Rattle.player.specs.declared.Denial.TheVariants.{Refused, Closed, Untimely, Split, Spent, Damaged}

abbrev pub Answer : Type 0
Answer = Result Done Denial

-- besides the table's and the room's: 10 no transition is open, 11 not now, 13 the table is split, 14 a 513th input, 15 a damaged configuration or
-- a 241st response
abbrev pub answer_fields : Answer → Fields
answer_fields (Ok d) = fields 0 d.first d.second 0
answer_fields (Err (Refused r)) = refused_fields r
answer_fields (Err Closed) = fields 10 0 0 0
answer_fields (Err Untimely) = fields 11 0 0 0
answer_fields (Err Split) = fields 13 0 0 0
answer_fields (Err Spent) = fields 14 0 0 0
answer_fields (Err Damaged) = fields 15 0 0 0
