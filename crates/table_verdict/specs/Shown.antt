-- What a shown split leaves in the lent memory, before it is said what it shows, and what the search may count on.
use Rattle.std.specs.Prelude.{◌≡◌, List, [], ◌∷◌, ◌++◌, ℕ, ◌+◌, ◌≤◌, ◌<◌, length}
use Rattle.model.specs.Lists.{over}
use Rattle.model.specs.Table.{Transition, at}
use Rattle.model.specs.Trace.{steps}
use Rattle.model.specs.Shown.{split_word}
use Rattle.model.specs.Stamps.{stamps_of}
use Rattle.reach.specs.Reach.{Reach, mark}
use Rattle.witness.specs.Witness.{way_for}
use Rattle.table_verdict.specs.declared.OnTable.{OnTable}
use Rattle.table_verdict.specs.declared.OnTable.TheVariants.{Split}

-- a transition of a marked state, and room for a trace that goes there
pub record TraceRoom (ts : List Transition) (dist via : List ℕ) (i : ℕ) (trace : List ℕ) : Type 0 where
  pub initial : ℕ
  pub reach : Reach ts initial dist via
  pub marked : 1 ≤ mark dist (at ts i).from
  pub first : i < length ts
  pub places : 270 ≤ length trace

-- and for its word
pub record ShowRoom (ts : List Transition) (dist via : List ℕ) (i : ℕ) (trace stamps : List ℕ) : Type 0 where
  pub traces : TraceRoom ts dist via i trace
  pub stamps_places : 540 ≤ length stamps

-- the way to the state, then i; the word that takes v everywhere but the lesser v at the end; the rest as it was
pub record SplitStands (ts : List Transition) (dist via : List ℕ) (i j : ℕ) (trace₀ stamps₀ : List ℕ) (r : OnTable) (trace stamps : List ℕ) : Type 0 where
  pub answer : r ≡ Split i j (length (way_for ts dist via i) + 1)
  pub traced : trace ≡ over (way_for ts dist via i ++ (i ∷ [])) trace₀
  pub stamped : stamps ≡ over (stamps_of (split_word (steps ts (way_for ts dist via i)) (at ts i) (at ts j))) stamps₀
