-- A sweep over the list, from its place n down to the first: each record goes through one turn, which gives the record that stands there next and the work
-- that goes on.
use Rattle.std.specs.Prelude.{Bool, true, false, List, ℕ, zero, suc, ◌-◌, ltb, leb, eqb, length, get_or, set}
use Rattle.records.specs.declared.Pending.{Pending}
use Rattle.records.specs.declared.sweeps.Seen.{Seen}
use Rattle.records.specs.declared.sweeps.Work.{Work}
use Rattle.records.specs.declared.sweeps.Work.TheVariants.{Look, Age, Close, Add}
use Rattle.records.specs.declared.sweeps.Turned.{Turned}
use Rattle.records.specs.Record.{blank}

abbrev pub pick : {X : Type 0} → Bool → X → X → X
pick true a b = a
pick false a b = b

-- whether the records seen are in order, with one more
abbrev pub fine_of : Pending → Seen → Bool
fine_of p s = pick (eqb p.step 0) false (pick (ltb s.above p.step) false (pick (ltb 61440 p.left) false s.fine))

-- what is seen so far, with one record more, at the place i
abbrev pub seen_of : Pending → ℕ → Seen → Seen
seen_of p i s = record {
  fine = fine_of p s;
  above = p.step - 1;
  least = pick (ltb p.left s.least) p.left s.least;
  due = pick (eqb p.left 0) i s.due;
  first = pick (eqb p.left 0) p s.first;
}

abbrev pub aged_of : Pending → ℕ → Pending
aged_of p t = record { step = p.step; letter = p.letter; left = p.left - t }

abbrev pub turn_of : Pending → ℕ → Work → Turned
turn_of p i (Look s) = record { next = p; work = Look (seen_of p i s) }
turn_of p i (Age t) = record { next = aged_of p t; work = Age t }
turn_of p i (Close at top last) = pick (leb at i) (record { next = pick (eqb i top) p last; work = Close at top p })
    (record { next = p; work = Close at top last })
turn_of p i (Add at new) = record { next = pick (eqb i at) new p; work = Add at new }

pub record Swept : Type 0 where
  pub list : List Pending
  pub work : Work

unfoldable pub swept : ℕ → List Pending → Work → Swept
swept zero l w = record { list = l; work = w }
swept (suc i) l w = swept i (set l i (turn_of (get_or l i blank) i w).next) (turn_of (get_or l i blank) i w).work

-- a sweep over the first n records, over none where fewer are lent
abbrev pub within_of : ℕ → ℕ → ℕ
within_of n lent = pick (leb n lent) n 0

abbrev pub swept_in : ℕ → List Pending → Work → Swept
swept_in n l w = swept (within_of n (length l)) l w
