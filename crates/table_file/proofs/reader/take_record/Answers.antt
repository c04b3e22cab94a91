use native.Mathlib.Omega.{arith}
use mathlib.Core.Path.{◌≡◌, refl, sym, ap, ◌∙◌}
use lib.ListN.{drop, length-drop}
use Rattle.std.specs.Prelude.{Some, None, Ok}
use Rattle.std.proofs.lemmas.Result.{err_from_is_err_and}
use Rattle.table_file.specs.File.{frame_in}
use Rattle.table_file.proofs.FrameLaws.{last_says}
use Rattle.table_file.proofs.ReadLaws.{TookAfter, kept-bad, kept-last, kept-behind, kept-took, kept-stop, kept_more}
use Rattle.table_file.proofs.reader.take_record.Goals as goal
use Rattle.table_file.proofs.reader.take_record.Goals.{In_default, In-Some}

-- the record is the end
last : (p : In_default) → frame_in p.args.at (drop p.args.at p.args.file.now) ≡ Ok None
last p = sym p.in_ok-t.ensures ∙ ap Ok p.in_default.is

-- the record is a transition, after n others
took : (p : In-Some) → frame_in p.args.at (drop p.args.at p.args.file.now) ≡ Ok (Some p.in-Some.t)
took p = sym p.in_ok-t.ensures ∙ ap Ok p.in-Some.is

after : (p : In-Some) → TookAfter p.args.file.now p.args.n p.args.at p.in-Some.t
after p = kept-took p.args.file.now p.args.states p.args.n p.args.at p.requires _ (took p)

pub returns-in_err-t : goal.returns-in_err-t
returns-in_err-t c =
    let a = c.args in
    let p = err_from_is_err_and c.from_residual.result c.from_residual.ensures.1 in
    rw (p.1, p.2) (kept-bad a.file.now a.states a.n a.at c.requires _ (sym c.in_err-t.ensures))

pub finish-requires : goal.finish-requires
finish-requires c =
    let a = c.args in
    omega (arith, (last_says a.at (drop a.at a.file.now) (last (goal.at.finish-requires c).In_default)).long, length-drop a.at a.file.now, c.requires.inside)

pub returns-in_err-finish : goal.returns-in_err-finish
returns-in_err-finish c =
    let a = c.args in
    let p = err_from_is_err_and c.from_residual-in_err-finish.result c.from_residual-in_err-finish.ensures.1 in
    rw (p.1, p.2) (kept-behind a.file.now a.states a.n a.at c.requires (last (goal.at.returns-in_err-finish c).In_default) _ c.in_err-finish.ensures)

pub returns-in_default : goal.returns-in_default
returns-in_default c =
    let a = c.args in
    kept-last a.file.now a.states a.n a.at c.requires (last (goal.at.returns-in_default c).In_default) c.in_ok-finish.ensures

pub admit-requires : goal.admit-requires
admit-requires c =
    let t = after (goal.at.admit-requires c).In-Some in
    record { few = t.few; place = c.requires.place; inside = t.inside; is = t.row; marked = c.requires.marked }

pub returns-in_err-admit : goal.returns-in_err-admit
returns-in_err-admit c =
    let a = c.args in
    let p = err_from_is_err_and c.from_residual-in_err-admit.result c.from_residual-in_err-admit.ensures.1 in
    rw (p.1, p.2) (kept-stop a.file.now a.states a.n a.at c.requires _ (took (goal.at.returns-in_err-admit c).In-Some) _ c.in_err-admit.ensures.answers)

pub returns : goal.returns
returns c =
    let a = c.args in
    let p = (goal.at.returns c).In-Some in
    kept_more a.file.now a.states a.n a.at c.requires _ (after p) c.in_ok-admit.ensures.answers (c.in_ok-admit.ensures.marks refl)
