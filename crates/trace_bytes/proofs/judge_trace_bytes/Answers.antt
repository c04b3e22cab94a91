use Rattle.std.proofs.Common.{refl}
use Rattle.std.proofs.lemmas.Result.{err_from_is_err_and}
use Rattle.table_file.proofs.OutcomeLaws.{into-valid}
use Rattle.places.proofs.ReadingLaws.{into-stopped, into-read}
use Rattle.trace_bytes.proofs.judge_trace_bytes.Goals as goal

pub returns-in_err-read_into : goal.returns-in_err-read_into
returns-in_err-read_into c =
    let p = err_from_is_err_and c.from_residual.result c.from_residual.ensures.1 in
    rw (p.1, p.2, into-stopped _ _ _ _ c.in_err-read_into.ensures) (refl, refl)

pub judge_on-requires : goal.judge_on-requires
judge_on-requires c = into-valid _ (λ i. (c.type_inv.file i).fits) _ _ c.in_ok-read_into.ensures refl

pub returns : goal.returns
returns c =
    rw (into-read _ _ _ (λ i. (c.type_inv.file i).fits) refl c.in_ok-read_into.ensures) c.judge_on.ensures
