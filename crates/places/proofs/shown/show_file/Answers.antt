use Rattle.std.proofs.Common.{refl}
use Rattle.table_file.proofs.OutcomeLaws.{into-valid}
use Rattle.places.proofs.ReadingLaws.{into-read}
use Rattle.places.proofs.shown.show_file.Goals as goal

pub show_on-requires : goal.show_on-requires
show_on-requires g c = into-valid _ (λ i. (c.type_inv.file i).fits) _ _ c.in_ok-read_into.ensures refl

pub returns : goal.returns
returns g c = rw (into-read _ _ _ (λ i. (c.type_inv.file i).fits) refl c.in_ok-read_into.ensures) c.show_on.ensures
