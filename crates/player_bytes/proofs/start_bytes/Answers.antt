use Rattle.std.proofs.Common.{refl}
use Rattle.table_file.proofs.OutcomeLaws.{into-valid}
use Rattle.places.proofs.ReadingLaws.{into-read}
use Rattle.player_bytes.proofs.start_bytes.Goals as goal

pub start_on-requires : goal.start_on-requires
start_on-requires c = into-valid _ (λ i. (c.type_inv.file i).fits) _ _ c.in_ok-read_into.ensures refl

pub returns : goal.returns
returns c =
    rw (into-read _ _ _ (λ i. (c.type_inv.file i).fits) refl c.in_ok-read_into.ensures) (c.start_on.ensures, refl)
