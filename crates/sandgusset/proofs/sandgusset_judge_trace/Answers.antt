-- The search finds this too; named, a check that fails says which part differs.
use Prim.Native.Nat.{◌/◌}
use lib.ListN.{length}
use Rattle.verdict.specs.OnTrace.{trace_fields}
use Rattle.sandgusset.proofs.sandgusset_judge_trace.Goals as goal

pub returns : goal.returns
returns c = record {
  said = trace_fields (length c.args.trace.now / 2) c.judge_trace_bytes-a.result;
  outcome = c.judge_trace_bytes-a.ensures;
  packs = c.on_trace.ensures;
}
