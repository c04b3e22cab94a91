-- The search finds this too; named, a check that fails says which part differs.
use Rattle.table.specs.Refusal.{checked_fields}
use Rattle.sandgusset.proofs.sandgusset_replay.Goals as goal

pub returns : goal.returns
returns c = record {
  said = checked_fields c.replay_bytes-a.result;
  outcome = c.replay_bytes-a.ensures;
  packs = c.pack.ensures;
}
