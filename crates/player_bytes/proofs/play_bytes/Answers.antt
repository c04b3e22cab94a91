use Rattle.std.proofs.Common.{refl}
use Rattle.table_file.proofs.OutcomeLaws.{into-valid}
use Rattle.places.proofs.ReadingLaws.{into-read}
use Rattle.player_bytes.proofs.play_bytes.Goals as goal

pub play_on-requires : goal.play_on-requires
play_on-requires c = into-valid _ (λ i. (c.type_inv.file i).fits) _ _ c.in_ok-read_into.ensures refl

pub returns : goal.returns
returns c =
    rw (into-read _ _ _ (λ i. (c.type_inv.file i).fits) refl c.in_ok-read_into.ensures) c.play_on.ensures
