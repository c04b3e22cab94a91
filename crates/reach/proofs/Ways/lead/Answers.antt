-- Each way out is a constructor of what the transition does.
use mathlib.Core.Path.{◌≡◌}
use Prim.Native.Nat.{◌≤◌}
use native.Mathlib.Omega.{arith}
use Rattle.reach.specs.Reach.{mark}
use Rattle.reach.specs.Rounds.{led_on, led_nowhere}
use Rattle.reach.proofs.Ways.lead.Goals as goal
use Rattle.reach.proofs.Ways.lead.Goals.{else-self-from-via-then-self-from+else-new, else-self-from-via-else-self-from}

pub returns-then-new : goal.returns-then-new
returns-then-new c =
    let f : c.from-from.result ≡ c.args.row.from = omega arith in
    let t : c.from-to.result ≡ c.args.row.to = omega arith in
    let n : mark c.args.self.now.dist c.from-to.result ≡ 0 = omega (arith, c.if-new.true) in
    rw t (led_on (rw f at c.if-self-from.true) (rw t at n))

pub returns : goal.returns
returns c =
    let f : c.from-from.result ≡ c.args.row.from = omega arith in
    let t : c.from-to.result ≡ c.args.row.to = omega arith in
    led_nowhere (elim c.else-self-from.branch [
      | else-self-from-via-then-self-from+else-new w ↦ λ e. let m : 1 ≤ mark c.args.self.now.dist c.from-to.result = omega (arith, w.if-new.false) in rw t at m
      | else-self-from-via-else-self-from w ↦ λ e. absurd (rw f at w.if-self-from.false e)
    ])
