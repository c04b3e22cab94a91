-- The search finds the rest too; named, a check that fails says which part differs.
use Rattle.std.proofs.Common.{◌≡◌, Ok, Err, ap, refl, ◌∙◌}
use Rattle.table_file.specs.Write.{written_fields}
use Rattle.night.specs.Night.{Words, words_fields}
use Rattle.answers.specs.Packed.{packed}
use Rattle.sandgusset.proofs.sandgusset_replay_words.Goals as goal

-- words that were played are told as bytes that were written
counted : (a : Words) → written_fields a ≡ words_fields a
counted (Ok n) = refl
counted (Err r) = refl

pub returns : goal.returns
returns c = record {
  said = words_fields c.replay_words_bytes-a.result;
  outcome = c.replay_words_bytes-a.ensures;
  packs = c.pack.ensures ∙ ap packed (counted c.replay_words_bytes-a.result);
}
