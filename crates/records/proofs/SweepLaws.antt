-- What each kind of sweep leaves in the list.
use mathlib.Core.Path.{◌≡◌, refl, sym, ap, ◌∙◌}
use mathlib.Core.Logic.{⊎_elim}
use mathlib.Core.List.{List, [], ◌∷◌, ◌++◌, map, map-append, append_assoc}
use Prim.Native.Nat.{ℕ, zero, suc, ◌≤◌, ◌<◌}
use native.Mathlib.Omega.{arith}
use native.Mathlib.Nat.{eq-or-lt_of_le}
use lib.ListN.{length, get_or, set, take, drop, length-set, length-take, take-append-drop}
use lib.Seq.{set-get_or, set_split, take-set-le, drop-set-lt, take-suc, drop-cons, get_or-set_same, drop-append-le}
use borrow.Author.Tests.{le-leb, lt-leb, eq-eqb, ne_eqb}
use Rattle.records.specs.declared.Pending.{Pending}
use Rattle.records.specs.declared.sweeps.Seen.{Seen}
use Rattle.records.specs.declared.sweeps.Work.{Work}
use Rattle.records.specs.declared.sweeps.Work.TheVariants.{Look, Age, Close, Add}
use Rattle.records.specs.declared.sweeps.Turned.{Turned}
use Rattle.records.specs.Record.{blank}
use Rattle.records.specs.Sweep.{seen_of, aged_of, turn_of, Swept, swept}

drop_all : {A : Type 0} (n : ℕ) (l : List A) → length l ≤ n → drop n l ≡ []
drop_all zero [] h = refl
drop_all zero (x ∷ l) h = absurd (omega arith)
drop_all (suc n) [] h = refl
drop_all (suc n) (x ∷ l) h = drop_all n l (omega arith)

-- one turn
pub turn_is : (i : ℕ) (l : List Pending) (w : Work) (t : Turned) → turn_of (get_or l i blank) i w ≡ t → swept (suc i) l w ≡ swept i (set l i t.next) t.work
unfolding swept
turn_is i l w t e = ap (λ (z : Turned). swept i (set l i z.next) z.work) e

-- one that leaves its record as it is
kept-is : (i : ℕ) (l : List Pending) (w v : Work) → turn_of (get_or l i blank) i w ≡ record { next = get_or l i blank; work = v } → swept (suc i) l w ≡ swept i l v
kept-is i l w v e = turn_is i l w (record { next = get_or l i blank; work = v }) e ∙ ap (λ (x : List Pending). swept i x v) (set-get_or l i blank)

abbrev list_of : Swept → List Pending
list_of z = z.list

abbrev work_of : Swept → Work
work_of z = z.work

pub none_left : (l : List Pending) (w : Work) → swept zero l w ≡ record { list = l; work = w }
unfolding swept
none_left l w = refl

-- a look changes nothing
pub look-list : (n : ℕ) (l : List Pending) (s : Seen) → (swept n l (Look s)).list ≡ l
look-list zero l s = ap list_of (none_left l (Look s))
look-list (suc i) l s = ap list_of (kept-is i l (Look s) (Look (seen_of (get_or l i blank) i s)) refl) ∙ look-list i l (seen_of (get_or l i blank) i s)

-- what it has seen: the records from the last to the first
abbrev pub seen_from : ℕ → List Pending → Seen → Seen
seen_from zero l s = s
seen_from (suc i) l s = seen_from i l (seen_of (get_or l i blank) i s)

pub look-work : (n : ℕ) (l : List Pending) (s : Seen) → (swept n l (Look s)).work ≡ Look (seen_from n l s)
look-work zero l s = ap work_of (none_left l (Look s))
look-work (suc i) l s = ap work_of (kept-is i l (Look s) (Look (seen_of (get_or l i blank) i s)) refl) ∙ look-work i l (seen_of (get_or l i blank) i s)

abbrev older : ℕ → Pending → Pending
older t p = aged_of p t

-- time goes off the first n records
pub age-list : (n : ℕ) (l : List Pending) (t : ℕ) → n ≤ length l → (swept n l (Age t)).list ≡ map (older t) (take n l) ++ drop n l
age-list zero l t h = ap list_of (none_left l (Age t))
age-list (suc i) l t h =
    let p : Pending = get_or l i blank in
    let l' : List Pending = set l i (older t p) in
    let within : i < length l = h in
    let ih : (swept i l' (Age t)).list ≡ map (older t) (take i l') ++ drop i l' = age-list i l' t (omega (arith, length-set l i (older t p))) in
    let a : take i l' ≡ take i l = take-set-le i l i (older t p) (omega arith) in
    let b : drop i l' ≡ older t p ∷ drop (suc i) l =
    drop-cons l' i blank (omega (arith, length-set l i (older t p))) ∙ ap (λ (r : List Pending). get_or l' i blank ∷ r) (drop-set-lt (suc i) l i (older t p)
    (omega arith)) ∙ ap (λ (x : Pending). x ∷ drop (suc i) l) (get_or-set_same l i (older t p) blank within) in
    let c : take (suc i) l ≡ take i l ++ (p ∷ []) = take-suc l i blank within in
    ap list_of (turn_is i l (Age t) (record { next = older t p; work = Age t }) refl) ∙ ih
    ∙ rw (a, b, c, map-append (older t) (take i l) (p ∷ []), append_assoc (map (older t) (take i l)) (older t p ∷ []) (drop (suc i) l))

-- one record is written
pub add-below : (n : ℕ) (l : List Pending) (at : ℕ) (new : Pending) → n ≤ at → (swept n l (Add at new)).list ≡ l
add-below zero l at new h = ap list_of (none_left l (Add at new))
add-below (suc i) l at new h = ap list_of (kept-is i l (Add at new) (Add at new) (rw (ne_eqb i at (λ e. omega arith)))) ∙ add-below i l at new (omega arith)

pub add-list : (l : List Pending) (at : ℕ) (new : Pending) → (swept (suc at) l (Add at new)).list ≡ set l at new
add-list l at new = ap list_of (turn_is at l (Add at new) (record { next = new; work = Add at new }) (rw (eq-eqb at at refl)))
    ∙ add-below at (set l at new) at new (omega arith)

-- below the gap nothing changes
close-below : (n : ℕ) (l : List Pending) (at top : ℕ) (c : Pending) → n ≤ at → (swept n l (Close at top c)).list ≡ l
close-below zero l at top c h = ap list_of (none_left l (Close at top c))
close-below (suc i) l at top c h = ap list_of (kept-is i l (Close at top c) (Close at top c) (rw (lt-leb at i h))) ∙ close-below i l at top c (omega arith)

-- from the gap up to i each record moves down by one, and c comes last
abbrev Closing : ℕ → List Pending → ℕ → ℕ → Pending → Type 0
Closing i l at top c = (swept i l (Close at top c)).list ≡ take at l ++ (drop (suc at) (take i l) ++ (c ∷ drop i l))

module _ (j : ℕ) (l : List Pending) (at top : ℕ) (c : Pending) (h : at ≤ j) (k : j < top) (g : j < length l) where
  abbrev p : Pending
  p = get_or l j blank

  abbrev l' : List Pending
  l' = set l j c

  shifts : swept (suc j) l (Close at top c) ≡ swept j l' (Close at top p)
  shifts = turn_is j l (Close at top c) (record { next = c; work = Close at top p }) (rw (le-leb at j h, ne_eqb j top (λ e. omega arith)))

  here : at ≡ j → Closing (suc j) l at top c
  here e =
      let z : drop (suc at) (take (suc j) l) ≡ [] = drop_all (suc at) (take (suc j) l) (omega (arith, length-take (suc j) l)) in
      ap list_of shifts ∙ close-below j l' at top p (omega arith) ∙ rw (z, e) (set_split l j c g)

  there : at < j → Closing j l' at top p → Closing (suc j) l at top c
  there lt ih =
      let a : take at l' ≡ take at l = take-set-le at l j c (omega arith) in
      let b : take j l' ≡ take j l = take-set-le j l j c (omega arith) in
      let d : drop j l' ≡ c ∷ drop (suc j) l =
      drop-cons l' j blank (omega (arith, length-set l j c)) ∙ ap (λ (r : List Pending). get_or l' j blank ∷ r) (drop-set-lt (suc j) l j c (omega arith))
      ∙ ap (λ (x : Pending). x ∷ drop (suc j) l) (get_or-set_same l j c blank g) in
      let t : drop (suc at) (take (suc j) l) ≡ drop (suc at) (take j l) ++ (p ∷ []) =
      ap (drop (suc at)) (take-suc l j blank g) ∙ drop-append-le (suc at) (take j l) (p ∷ []) (omega (arith, length-take j l)) in
      ap list_of shifts ∙ ih ∙ rw (a, b, d, t, append_assoc (drop (suc at) (take j l)) (p ∷ []) (c ∷ drop (suc j) l))

closing : (i : ℕ) (l : List Pending) (at top : ℕ) (c : Pending) → at < i → i ≤ top → i ≤ length l → Closing i l at top c
closing zero l at top c h k g = absurd (omega arith)
closing (suc j) l at top c h k g =
    ⊎_elim (here j l at top c (omega arith) k g)
    (λ lt. there j l at top c (omega arith) k g lt (closing j (set l j c) at top (get_or l j blank) lt (omega arith) (omega (arith, length-set l j c))))
    (eq-or-lt_of_le (omega arith))

-- the record at `at` is taken out, those after it move down, the freed last place keeps its record
pub close-list : (l : List Pending) (at top : ℕ) (c : Pending) → at ≤ top → top < length l
    → (swept (suc top) l (Close at top c)).list ≡ take at l ++ (drop (suc at) (take (suc top) l) ++ drop top l)
close-list l at top c h g =
    ap list_of (kept-is top l (Close at top c) (Close at top p) (rw (le-leb at top h, eq-eqb top top refl))) ∙ ⊎_elim whole part (eq-or-lt_of_le h)
  where
    p : Pending
    p = get_or l top blank

    whole : at ≡ top → (swept top l (Close at top p)).list ≡ take at l ++ (drop (suc at) (take (suc top) l) ++ drop top l)
    whole e =
        let z : drop (suc at) (take (suc top) l) ≡ [] = drop_all (suc at) (take (suc top) l) (omega (arith, length-take (suc top) l)) in
        close-below top l at top p (omega arith) ∙ rw (z, e) (sym (take-append-drop top l))

    part : at < top → (swept top l (Close at top p)).list ≡ take at l ++ (drop (suc at) (take (suc top) l) ++ drop top l)
    part lt =
        let t : drop (suc at) (take (suc top) l) ≡ drop (suc at) (take top l) ++ (p ∷ []) =
        ap (drop (suc at)) (take-suc l top blank g) ∙ drop-append-le (suc at) (take top l) (p ∷ []) (omega (arith, length-take top l)) in
        closing top l at top p lt (omega arith) (omega arith) ∙ rw (t, append_assoc (drop (suc at) (take top l)) (p ∷ []) (drop top l))
