-- The search finds this too; named, a check that fails says which test is wrong.
use native.Mathlib.Omega.{arith}
use Rattle.witness.proofs.ready.Goals as goal

pub returns-then-least-stamps : goal.returns-then-least-stamps
returns-then-least-stamps c =
    let t = c.in-Some.ensures in
    ((t.0.sound.few, (t.0, ((omega arith, omega arith), tt))), t.1)
