-- what is left of the sweep gives what the whole sweep gives; at the end nothing is left
use Rattle.std.proofs.Common.{◌≡◌, ℕ, ◌-◌, ◌≤◌, suc, List, length, length-set, arith, sym, ap, ◌∙◌}
use Rattle.records.specs.declared.Pending.{Pending}
use Rattle.records.specs.declared.sweeps.Work.{Work}
use Rattle.records.specs.Sweep.{Swept, swept, swept_in, within_of}
use Rattle.records.proofs.SweepLaws.{turn_is, none_left}
use Rattle.records.proofs.sweeps.sweep.Goals as goal

at_end : (n i k : ℕ) (l m : List Pending) (w v : Work) → i ≤ 0 → k ≡ within_of n (length l) → swept i m v ≡ swept k l w
    → (m ≡ (swept_in n l w).list) × (v ≡ (swept_in n l w).work)
at_end n i k l m w v h e s =
    let z : i ≡ 0 = omega arith in
    let all : ◌≡◌ {A = Swept} (record { list = m; work = v }) (swept_in n l w) =
    sym (none_left m v) ∙ ap (λ (j : ℕ). swept j m v) (sym z) ∙ s ∙ ap (λ (j : ℕ). swept j l w) e in
    (ap (λ (x : Swept). x.list) all, ap (λ (x : Swept). x.work) all)

pub loop-n-preserved : goal.loop-n-preserved
loop-n-preserved c =
    let n : c.loop-n.n ≡ suc (c.loop-n.n - 1) = omega arith in
    let t : _ = turn_is (c.loop-n.n - 1) c.loop-n.list c.loop-n.work c.turn-t.result (sym c.turn-t.ensures) in
    (simp length-set (omega arith), cc)

pub returns : goal.returns
returns c = at_end _ _ _ _ _ _ _ c.loop-n-test.false c.within-n.ensures.0 c.loop-n.invariant.1
