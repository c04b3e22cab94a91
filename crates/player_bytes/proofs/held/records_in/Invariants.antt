use Rattle.player_bytes.proofs.HeldLaws.{Reading}
use Rattle.player_bytes.proofs.held.records_in.Given as goal

abbrev pub invariant-loop-i : goal.invariant-loop-i
invariant-loop-i l = Reading l.b l.initial.list l.list l.i
