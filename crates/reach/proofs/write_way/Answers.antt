-- The loop keeps that the steps after the n-th are written, and that s is where they begin.
use native.Mathlib.Omega.{arith}
use mathlib.Core.Path.{◌≡◌, ap, ◌∙◌}
use mathlib.Core.List.{List}
use Prim.Native.Nat.{ℕ, ◌-◌, ◌≤◌}
use lib.ListN.{length, set}
use Rattle.model.specs.Table.{Transition}
use Rattle.table.specs.declared.Row.{Row}
use Rattle.table.specs.Rows.{row_of, said}
use Rattle.reach.specs.Reach.{mark, way_in}
use Rattle.reach.proofs.ReachLaws.{Written, written-more, written_all, within-short, stands-none, stands-whole}
use Rattle.reach.proofs.write_way.Goals as goal

-- one step more, by the number and the departure that the code found
written-put : (t : ℕ → Transition) (via trace₀ : List ℕ) (steps end : ℕ) (trace : List ℕ) (n s : ℕ) → 1 ≤ n → n ≤ length trace₀
    → Written t via trace₀ steps end trace n s → (i : ℕ) → i ≡ way_in via s → (from : ℕ) → from ≡ (t (way_in via s)).from
    → Written t via trace₀ steps end (set trace (n - 1) i) (n - 1) from
written-put t via trace₀ steps end trace n s some room w i e from f = rw (e, f) (written-more t via trace₀ steps end trace n s some room w)

pub returns-then-trace-steps : goal.returns-then-trace-steps
returns-then-trace-steps c =
    let a = c.args in
    stands-none a.rows.now a.ways.now.dist a.ways.now.via a.end a.trace.now
    (within-short a.rows.now a.ways.now.dist a.ways.now.via a.end (length a.trace.now) (omega arith))

pub loop-n-preserved : goal.loop-n-preserved
loop-n-preserved c =
    let a = c.args in
    let l = c.loop-n in
    let e : c.mark_of-i.result ≡ way_in a.ways.now.via l.s = c.mark_of-i.ensures in
    let i : c.from-in-loop-n.result ≡ way_in a.ways.now.via l.s = omega arith in
    let f : c.row_of-s.result.from ≡ (row_of a.rows.now (way_in a.ways.now.via l.s)).from =
    ap (λ (r : Row). r.from) (c.row_of-s.ensures ∙ ap (row_of a.rows.now) i) in (
      l.invariant.0,
      l.invariant.1,
      written-put (λ x. said (row_of a.rows.now x)) a.ways.now.via a.trace.now _ a.end l.trace l.n l.s
          (omega arith) (omega arith) l.invariant.2 _ e _ (omega (arith, f)),
    )

pub returns : goal.returns
returns c =
    let a = c.args in
    let l = c.loop-n in
    let z : l.n ≡ 0 = omega arith in
    let k : c.saturating_sub-steps.result ≡ mark a.ways.now.dist a.end - 1 = l.invariant.0 in
    rw k (stands-whole a.rows.now a.ways.now.dist a.ways.now.via a.end a.trace.now l.trace (omega arith) (rw k at
    (written_all _ a.ways.now.via a.trace.now _ a.end l.trace l.s (rw z at l.invariant.2))))
