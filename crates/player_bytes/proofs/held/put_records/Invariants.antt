use Rattle.player_bytes.proofs.HeldLaws.{Writing}
use Rattle.player_bytes.proofs.held.put_records.Given as goal

abbrev pub invariant-loop-i : goal.invariant-loop-i
invariant-loop-i l = Writing l.initial.held l.list l.held l.i
