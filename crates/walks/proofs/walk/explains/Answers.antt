use mathlib.Core.Path.{◌≡◌}
use Prim.Native.Nat.{◌+◌}
use native.Mathlib.Omega.{arith}
use Rattle.std.proofs.lemmas.Grind.{common_steps}
use Rattle.model.specs.Answers.{Tells}
use Rattle.model.proofs.AnswerLaws.{tells-same}
use Rattle.walks.proofs.WalkLaws.{seen}
use Rattle.walks.proofs.BackLaws.{not-here, not_low, not_some, sum-law}
use Rattle.walks.proofs.walk.explains.Goals as goal
use Rattle.walks.proofs.walk.explains.Goals.{then-r-e-via-then-r-e, then-r-e-via-else-r-e+then-a-u}

pub returns-then-r-e : goal.returns-then-r-e
returns-then-r-e c =
    let z = seen c.args.fit c.args.j c.requires.0 in
    elim c.then-r-e.branch [
      | then-r-e-via-then-r-e w ↦ not-here z w.if-r-e.true
      | then-r-e-via-else-r-e+then-a-u w ↦ not_low z (omega (arith, w.if-a-u.true))
    ]

pub returns-then-x-ne0 : goal.returns-then-x-ne0
returns-then-x-ne0 c =
    let z = seen c.args.fit c.args.j c.requires.0 in
    let x = rw c.from-u.ensures at c.number-x.ensures in
    let law = sum-law z c.if-r-e.false (omega arith) (omega arith) in
    let e : Tells _ (c.from.result + c.from-then-x-ne0.result ≡ c.from-then-x-ne0-2.result) = grind (arith, common_steps) in
    tells-same _ (λ q. law.0 (omega (arith, q)), λ p. omega (arith, law.1 p)) e

pub returns-else-x-ne0 : goal.returns-else-x-ne0
returns-else-x-ne0 c =
    let z = seen c.args.fit c.args.j c.requires.0 in
    let x = rw c.from-u.ensures at c.number-x.ensures in
    rw c.if-x-ne0.false (not_some z (omega arith))
