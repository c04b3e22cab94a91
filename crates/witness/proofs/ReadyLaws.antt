-- Two outcomes of the tests before a search through transitions that nobody tested are equal.
use mathlib.Core.Path.{◌≡◌, ap}
use Prim.Native.Nat.{ℕ}
use mathlib.Core.List.{List}
use Rattle.std.specs.Prelude.{Result, Ok, Err, Some}
use Rattle.std.proofs.lemmas.Option.{same_Some}
use Rattle.table.specs.declared.Refusal.{Refusal}
use Rattle.table.specs.declared.Row.{Row}
use Rattle.table.specs.Refusal.{refusal_number, refusal_place}
use Rattle.table.proofs.RefusalLaws.{refusal-only}
use Rattle.table.proofs.TestLaws.{passes-fails, fails-only}
use Rattle.reach.specs.declared.Ways.{Ways}
use Rattle.reach.proofs.OnlyLaws.{reach-only}
use Rattle.witness.specs.Witness.{ready_tests, ReadyOutcome}

pub ready-only : (cells : List Row) (count initial steps stamps least : ℕ) (a b : Result Ways Refusal)
    → ReadyOutcome cells count initial steps stamps least a → ReadyOutcome cells count initial steps stamps least b → a ≡ b
ready-only cells count initial steps stamps least (Ok w) (Ok w') p q =
    ap Ok (same_Some w w' (reach-only cells count initial (Some w) (Some w') (p.0.1.0, p.1) (q.0.1.0, q.1)))
ready-only cells count initial steps stamps least (Ok w) (Err s) p q =
    absurd (passes-fails (ready_tests cells count initial steps stamps least) (refusal_number s) (refusal_place s) p.0 q)
ready-only cells count initial steps stamps least (Err r) (Ok w) p q =
    absurd (passes-fails (ready_tests cells count initial steps stamps least) (refusal_number r) (refusal_place r) q.0 p)
ready-only cells count initial steps stamps least (Err r) (Err s) p q =
    let e = fails-only (ready_tests cells count initial steps stamps least) (refusal_number r) (refusal_place r) (refusal_number s) (refusal_place s) p q in
    ap Err (refusal-only r s e.0 e.1)
