use mathlib.Core.Path.{sym}
use Rattle.std.proofs.lemmas.Result.{err_from_is_err_and}
use Rattle.table_file.proofs.FrameLaws.{opened-says}
use Rattle.table_file.proofs.ReadLaws.{read-shut, read-stop, scan-refused, scan-found}
use Rattle.table_file.proofs.reader.scan.Goals as goal

pub returns-in_err-states : goal.returns-in_err-states
returns-in_err-states c =
    let l = c.args.file.now in
    let p = err_from_is_err_and c.from_residual.result c.from_residual.ensures.1 in
    rw (p.1, p.2) (scan-refused l _ (read-shut l _ (sym c.in_err-states.ensures)))

pub check_rows-requires : goal.check_rows-requires
check_rows-requires c = (opened-says c.args.file.now _ _ (sym c.in_ok-states.ensures)).long

pub returns-in_err-count : goal.returns-in_err-count
returns-in_err-count c =
    let l = c.args.file.now in
    let p = err_from_is_err_and c.from_residual-in_err-count.result c.from_residual-in_err-count.ensures.1 in
    rw (p.1, p.2) (scan-refused l _ (read-stop l _ _ (sym c.in_ok-states.ensures) _ _ c.in_err-count.ensures))

pub returns : goal.returns
returns c = scan-found c.args.file.now _ _ _ (sym c.in_ok-states.ensures) c.in_ok-count.ensures
