-- Two outcomes of one call are equal.
use mathlib.Core.Path.{◌≡◌, refl, sym, ◌∙◌}
use mathlib.Core.Logic.{⊎_elim}
use mathlib.Core.List.{List}
use Prim.Native.Nat.{ℕ, zero, suc, ◌-◌, ◌≤◌, ◌<◌}
use native.Mathlib.Nat.{eq-zero-or-pos}
use native.Mathlib.Omega.{arith}
use lib.Seq.{ext_get_or}
use Rattle.std.specs.Prelude.{Option, Some, None}
use Rattle.table.specs.declared.Row.{Row}
use Rattle.reach.specs.declared.Ways.{Ways}
use Rattle.model.specs.Table.{Transition, at}
use Rattle.reach.specs.Reach.{mark, way_in, Linked, Reach, ReachOutcome, way_to, WayStands}
use Rattle.reach.proofs.ReachLaws.{mark-least, way-path, way-length}

-- a mark is one more than the least number of steps: no other marking has less
module _ {ts : List Transition} {initial : ℕ} {dist via dist' via' : List ℕ} where
  mark-most : Reach ts initial dist via → Reach ts initial dist' via' → (s : ℕ) → mark dist' s ≤ mark dist s
  mark-most p q s =
      ⊎_elim (λ (e : mark dist s ≡ 0). ⊎_elim (λ (f : mark dist' s ≡ 0). omega arith)
      (λ (h : 0 < mark dist' s). absurd (omega (arith, (p.tells s).1 ((q.tells s).0 h)))) (eq-zero-or-pos (mark dist' s)))
      (λ (h : 0 < mark dist s). omega (arith, mark-least q s (way_to ts dist via s) (way-path p s h), way-length (at ts) via (mark dist s - 1) s))
      (eq-zero-or-pos (mark dist s))

module _ {ts : List Transition} {initial : ℕ} {dist via dist' via' : List ℕ} (p : Reach ts initial dist via) (q : Reach ts initial dist' via') where
  pub marks-only : dist ≡ dist'
  marks-only = ext_get_or 0 dist dist' (p.linked.marks ∙ sym q.linked.marks) (λ s h. omega (arith, mark-most p q s, mark-most q p s))

module _ {ts : List Transition} {dist via via' : List ℕ} (p : Linked ts dist via) (q : Linked ts dist via') where
  way-in-only : (s k : ℕ) → mark dist s ≡ k → way_in via s ≡ way_in via' s
  way-in-only s zero e = p.idle s (omega arith) ∙ sym (q.idle s (omega arith))
  way-in-only s (suc zero) e = p.idle s (omega arith) ∙ sym (q.idle s (omega arith))
  way-in-only s (suc (suc k)) e = omega (arith, p.lowest s k (way_in via' s) e (q.back s k e), q.lowest s k (way_in via s) e (p.back s k e))

  ways-only : via ≡ via'
  ways-only = ext_get_or 0 via via' (p.ways ∙ sym q.ways) (λ s h. way-in-only s (mark dist s) refl)

equal : {dist via dist' via' : List ℕ} → dist ≡ dist' → via ≡ via'
    → ◌≡◌ {A = Option Ways} (Some (record { dist = dist; via = via })) (Some (record { dist = dist'; via = via' }))
equal e f = rw (e, f) refl

pub reach-only : (cells : List Row) (count initial : ℕ) (o o' : Option Ways)
    → ReachOutcome cells count initial o → ReachOutcome cells count initial o' → o ≡ o'
reach-only cells count initial (Some w) (Some w') p q = equal (marks-only p.1 q.1) (let e = marks-only p.1 q.1 in ways-only (rw e at p.1.linked) q.1.linked)
reach-only cells count initial (Some w) None p q = absurd (q p.0)
reach-only cells count initial None (Some w) p q = absurd (p q.0)
reach-only cells count initial None None p q = refl

pub way-only : {cells : List Row} {dist via : List ℕ} {s : ℕ} {trace₀ trace trace' : List ℕ} {n n' : ℕ}
    → WayStands cells dist via s trace₀ trace n → WayStands cells dist via s trace₀ trace' n' → (n ≡ n') × (trace ≡ trace')
way-only p q = let e : _ = p.number ∙ sym q.number in (e, p.traced ∙ (rw e (sym q.traced)))
