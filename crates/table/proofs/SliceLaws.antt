-- A slice of rows and the transitions that they stand for.
use mathlib.Core.Path.{◌≡◌, refl}
use mathlib.Core.Logic.{◌↔◌}
use mathlib.Core.List.{List, [], ◌∷◌, map-append}
use Prim.Native.Nat.{ℕ, zero, suc, ◌≤◌}
use native.Mathlib.Omega.{arith}
use lib.ListN.{length, get_or, take}
use lib.Seq.{take-suc, take-length, take-take, length-take-le}
use Rattle.std.proofs.Common.{map}
use Rattle.std.specs.Prelude.{All as Every}
use Rattle.model.specs.Lists.{All}
use Rattle.model.specs.Table.{Transition}
use Rattle.table.specs.declared.Row.{Row}
use Rattle.table.specs.Rows.{listed, rows, said, blank, transitions}

rows-take : (c : List Row) (n : ℕ) → n ≤ length c → rows c n ≡ map said (take n c)
unfolding rows listed
rows-take c zero h = refl
rows-take c (suc n) h = rw (take-suc c n blank h, rows-take c n (omega arith), map-append said (take n c) (get_or c n blank ∷ []))

module _ {P : Transition → Type 0} where
  there : (xs : List Row) → Every (λ x. P (said x)) xs → All P (map said xs)
  there [] a = All.all_nil
  there (x ∷ xs) a = All.all_cons (a 0 x (omega arith)) (there xs (λ k d h. a (suc k) d (omega arith)))

  back : (xs : List Row) → All P (map said xs) → Every (λ x. P (said x)) xs
  back [] e k d h = absurd (omega arith)
  back (x ∷ xs) (All.all_cons p e) zero d h = p
  back (x ∷ xs) (All.all_cons p e) (suc k) d h = back xs e k d (omega arith)

  -- what a chain over the first rows tells
  pub every-rows : (c : List Row) (n : ℕ) → n ≤ length c → Every (λ x. P (said x)) (take n c) ↔ All P (rows c n)
  every-rows c n h = rw (rows-take c n h) (there (take n c), back (take n c))

-- the same of a whole slice
pub every-all : {P : Transition → Type 0} (l : List Row) → Every (λ x. P (said x)) l ↔ All P (transitions l)
every-all l = rw (rows-take l (length l) (omega arith), take-length l) (there l, back l)

-- the transitions of a table whose count is within the cells
pub rows-lent : (c : List Row) (n : ℕ) → n ≤ length c → transitions (take n c) ≡ rows c n
rows-lent c n h =
    let e : length (take n c) ≡ n = length-take-le n c h in
    rw (e, rows-take (take n c) n (omega arith), rows-take c n h, take-take n n c (omega arith)) refl
