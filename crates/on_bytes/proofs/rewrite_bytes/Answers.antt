use Rattle.std.proofs.Common.{refl, ap, inl, ◌++◌, length, drop, arith}
use Rattle.std.proofs.lemmas.Result.{err_from_is_err_and}
use Rattle.table.specs.Tests.{refuses, answers}
use Rattle.places.proofs.ReadingLaws.{told-stopped, told-machine}
use Rattle.on_bytes.proofs.rewrite_bytes.Goals as goal

pub returns-in_err-check_file : goal.returns-in_err-check_file
returns-in_err-check_file c =
    let p = err_from_is_err_and c.from_residual.result c.from_residual.ensures.1 in
    rw (p.1, p.2, told-stopped _ c.in_err-check_file.ensures.answers refl) (refl, refl)

pub returns-then-out-file : goal.returns-then-out-file
returns-then-out-file c =
    rw (told-machine _ c.in_ok-check_file.ensures.answers refl)
    (refuses refl (inl ((λ h. omega (arith, c.if-out-file.true)), refl, refl)) refl)

pub returns : goal.returns
returns c =
    let a = c.args in
    rw (told-machine _ c.in_ok-check_file.ensures.answers refl)
    (answers (omega (arith, c.if-out-file.false), tt) (refl, ap (λ l. l ++ drop (length a.file.now) a.out.now) c.copy_from_slice.ensures.after))
