-- The guard test answers inside, early or late, and so does every caller that passes it on.
use Rattle.std.specs.Prelude.{ℕ}
use Rattle.model.specs.Answers.{Fields, fields}
use Rattle.model.specs.Table.{Transition}
use Rattle.model.specs.Word.{Fits, TooEarly, TooLate}
use Rattle.replay.specs.declared.Guard.{Guard}
use Rattle.replay.specs.declared.Guard.TheVariants.{Inside, Early, Late}

-- what each answer means. Of a row that nobody tested v may be below u: there early goes first
abbrev pub Meets : Guard → ℕ → Transition → ℕ → Type 0
Meets Inside q t g = Fits q t g
Meets Early q t g = TooEarly q t g
Meets Late q t g = (TooEarly q t g → ⊥) × TooLate q t g

-- its number, and the step that it names: early is 9, late is 12, in the same place of the order
abbrev pub guard_fields : Guard → ℕ → Fields
guard_fields Inside step = fields 0 0 0 0
guard_fields Early step = fields 9 step 0 0
guard_fields Late step = fields 12 step 0 0
