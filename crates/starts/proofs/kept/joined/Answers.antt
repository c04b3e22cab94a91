use native.Mathlib.Omega.{arith}
use Rattle.starts.specs.Kept.{joined_none, joined_first, joined_both}
use Rattle.starts.proofs.kept.joined.Goals as goal

pub returns-then-n-eq0 : goal.returns-then-n-eq0
returns-then-n-eq0 c = joined_none c.if-n-eq0.true

pub returns-then-n-eq0-2 : goal.returns-then-n-eq0-2
returns-then-n-eq0-2 c =
    let t = rw (c.capped.ensures, c.from.ensures) at c.taken-r.ensures in
    joined_first (omega arith) t (λ e. omega arith)

pub returns-then-r-n : goal.returns-then-r-n
returns-then-r-n c =
    joined_first (omega arith) (rw (c.capped.ensures, c.from.ensures) at c.taken-r.ensures) (λ e. absurd (c.if-r-n.true e))

pub returns : goal.returns
returns c =
    let t = rw (c.capped.ensures, c.from.ensures) at c.taken-r.ensures in
    rw (c.max.ensures, c.capped-2.ensures, c.from-2.ensures) (joined_both (omega arith) t (omega arith) (omega arith))
