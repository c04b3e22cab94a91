use Rattle.std.proofs.Common.{◌≡◌, get_or, set, map, ◌++◌, take, drop, add-one, length, ℕ, List, ◌-◌, ◌<◌, ◌+◌}
use Rattle.records.specs.declared.Pending.{Pending}
use Rattle.records.specs.Record.{blank, aged}
use Rattle.records.proofs.ListLaws.{aged_next}
use Rattle.records.proofs.age.Goals as goal

next : (t i x : ℕ) (l m : List Pending) → i < length l → m ≡ map (aged t) (take i l) ++ drop i l → x ≡ (get_or m i blank).left - t
    → set m i (record { step = (get_or m i blank).step; letter = (get_or m i blank).letter; left = x }) ≡ map (aged t) (take (i + 1) l) ++ drop (i + 1) l
next t i x l m h e f = rw (f, e, add-one i) (aged_next t i l h)

pub loop-p-preserved : goal.loop-p-preserved
loop-p-preserved c =
    next _ _ _ _ _ c.loop-p-test.true c.loop-p.invariant c.saturating_sub-p.ensures
