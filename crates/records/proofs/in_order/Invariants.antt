use Rattle.std.proofs.Common.{◌≡◌, ◌<◌, ℕ, ◌∷◌, get_or}
use Rattle.records.specs.Record.{blank}
use Rattle.records.proofs.ListLaws.{FineAt}
use Rattle.records.proofs.in_order.Given as goal

abbrev pub invariant-loop-p : goal.invariant-loop-p
invariant-loop-p l =
    (l.below ≡ (get_or (blank ∷ l.waiting) l.p-index blank).step) × ((i : ℕ) → i < l.p-index → FineAt l.waiting l.inputs i)
