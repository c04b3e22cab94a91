-- The lowest open transition among rows, and the split of a checked table.
use mathlib.Core.Path.{◌≡◌, ap, ◌∙◌, sym, subst}
use mathlib.Core.Bool.{Bool, true, false, not}
use mathlib.Core.List.{List}
use Prim.Native.Nat.{ℕ, ◌≤◌, ◌<◌}
use native.Mathlib.Omega.{arith}
use lib.ListN.{length, get_or}
use Rattle.std.specs.Prelude.{Option, Some, None, is_some}
use Rattle.model.specs.Answers.{Tells}
use Rattle.model.specs.Lists.{All}
use Rattle.model.specs.Table.{Transition, Machine, InRange, Valid, at}
use Rattle.model.specs.Verdict.{Splits}
use Rattle.model.proofs.Split.{split-law}
use Rattle.table.specs.declared.Row.{Row}
use Rattle.table.specs.declared.Table.{Table}
use Rattle.table.specs.Rows.{transitions, blank, said, machine_of}
use Rattle.table.proofs.FitLaws.{ranged-wider}
use Rattle.table.proofs.RowLaws.{length-rows, row-known, row_near}
use Rattle.reach.specs.Reach.{Admits, Reach}
use Rattle.split_pair.specs.Split.{SplitOutcome, SplitFound}
use Rattle.split_pair.proofs.SplitLaws.{split-found}
use Rattle.player.specs.Steps.{Opens, FirstOpen}

-- what the search through the rows tells
module _ (l : List Row) (state letter timer : ℕ) where
  abbrev pub Open : ℕ → Row → Type 0
  Open i d = Opens (said (get_or l i d)) state letter timer

  abbrev pub OpenAt : Option ℕ → Type 0
  OpenAt (Some i) = (i < length l) × Open i blank × ((j : ℕ) (d : Row) → j < i → Open j d → ⊥)
  OpenAt None = (j : ℕ) (d : Row) → j < length l → Open j d → ⊥

  long : length (transitions l) ≡ length l
  long = length-rows l (length l)

  row-is : (i : ℕ) → i < length l → said (get_or l i blank) ≡ at (transitions l) i
  row-is i h = ap said (sym (row_near l i)) ∙ row-known l (length l) i h

  pub first-open : (r : Option ℕ) → OpenAt r → FirstOpen (transitions l) state letter timer r
  first-open (Some i) p = record {
    known = omega (arith, long, p.0);
    opened = rw (← row-is i p.0) p.1;
    lowest = λ j h o. p.2 j blank h (rw (row-is j (omega (arith, h, p.0))) o);
  }
  first-open None p = λ j h o. let k : j < length l = omega (arith, long, h) in p j blank k (rw (row-is j k) o)

-- the search for a split pair answers whether a checked table is split
module _ (t : Table) (v : Valid (machine_of t)) (l : List Row) (held : transitions l ≡ (machine_of t).transitions) where
  abbrev m : Machine
  m = machine_of t

  few : length l ≤ 256
  few = omega (arith, length-rows l (length l), ap (λ (z : List Transition). length z) held, v.few)

  pub admits : Admits l (length l) t.initial
  admits = record {
    sound = record { few = few; ranged = subst (λ (z : List Transition). All (InRange 32) z) (sym held) (ranged-wider v.most v.ranged) };
    inside = omega (arith, v.starts, v.most);
  }

  module _ {dist via : List ℕ} (reach : Reach (transitions l) t.initial dist via) where
    found : (r : Option (ℕ × ℕ)) → SplitOutcome l (length l) dist r → SplitFound m r
    found r o =
        subst (λ (z : List Transition). SplitFound (record { states = t.states; initial = t.initial; transitions = z }) r) held
        (split-found l (length l) dist r o few t.states t.initial reach.tells)

    pub pair-splits : (r : ℕ × ℕ) → SplitOutcome l (length l) dist (Some r) → Splits m
    pair-splits (i, j) o = (split-law m v).1 (i, j, (found (Some (i, j)) o).pair)

    pub none-splits : SplitOutcome l (length l) dist None → Splits m → ⊥
    none-splits o s = let p = (split-law m v).0 s in found None o p.0 p.1 p.2

    -- as the search answers
    pub split-told : (r : Option (ℕ × ℕ)) (b : Bool) → SplitOutcome l (length l) dist r → is_some r ≡ not b → Tells b (Splits m → ⊥)
    split-told None true o e = none-splits o
    split-told None false o e = let z : ◌≡◌ {A = ℕ} 0 1 = cc in absurd (omega arith)
    split-told (Some r) true o e = let z : ◌≡◌ {A = ℕ} 0 1 = cc in absurd (omega arith)
    split-told (Some r) false o e = λ n. n (pair-splits r o)
