-- What is not named follows from the arithmetic around it.
use native.Mathlib.Omega.{arith}
use mathlib.Core.Path.{◌≡◌, sym, ◌∙◌}
use mathlib.Core.Bool.{true}
use Rattle.std.proofs.lemmas.Bool.{false_from_ne_true}
use Rattle.model.proofs.AnswerLaws.{told, untold}
use Rattle.table.proofs.RangeLaws.{in-range}
use Rattle.table.specs.Rows.{said}
use Rattle.table.specs.Check.{in_range}
use Rattle.table_file.proofs.ReadLaws.{own-has, admitted-full, admitted-range, admitted-twin, admitted-new, admitted-unmarked}
use Rattle.table_file.proofs.reader.admit.Goals as goal
use Rattle.table_file.proofs.reader.admit.Goals.{Else-not-in_range, else-mark-via-then-mark+else-has_record, else-mark-via-else-mark}

pub returns-then-n-ge256 : goal.returns-then-n-ge256
returns-then-n-ge256 c =
    let a = c.args in
    admitted-full a.file.now a.states a.at a.n a.t c.requires _ c.if-n-ge256.true

pub returns-then-not-in_range : goal.returns-then-not-in_range
returns-then-not-in_range c =
    let a = c.args in
    admitted-range a.file.now a.states a.at a.n a.t c.requires _ (omega arith)
    (false_from_ne_true _ (λ e. untold c.in_range.result c.in_range.ensures c.if-not-in_range.true ((in-range _ _).0 e)))

-- every number within its range
ranged : (p : Else-not-in_range) → let a = p.args in in_range a.states (said a.t) ≡ true
ranged p = (in-range _ _).1 (told p.in_range.result p.in_range.ensures p.if-not-in_range.false)

pub returns-then-has_record : goal.returns-then-has_record
returns-then-has_record c =
    let a = c.args in
    admitted-twin a.file.now a.states a.at a.n a.t c.requires _ (omega arith) (ranged (goal.at.returns-then-has_record c).Else-not-in_range)
    (sym (own-has a.file.now a.n a.at a.t c.requires c.has_record.ensures) ∙ c.if-has_record.true)

pub returns : goal.returns
returns c =
    let a = c.args in
    let fine = ranged (goal.at.returns c).Else-not-in_range in
    elim c.else-mark.branch [
      | else-mark-via-then-mark+else-has_record w ↦ admitted-new a.file.now a.states a.at a.n a.t c.requires _ (omega arith) fine
          c.key_in.ensures c.mark.ensures.1 (sym (own-has a.file.now a.n a.at a.t c.requires w.has_record.ensures) ∙ w.if-has_record.false)
      | else-mark-via-else-mark w ↦ admitted-unmarked a.file.now a.states a.at a.n a.t c.requires _ (omega arith) fine
          c.key_in.ensures c.mark.ensures.1 c.mark.ensures.0 w.if-mark.false
    ]
