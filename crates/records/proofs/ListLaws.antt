-- What a chain over the records tells, in the words of the moves; and what is left of the list when its first records have aged.
use mathlib.Core.Path.{◌≡◌, refl, ap, subst}
use mathlib.Core.Logic.{inl, inr, ⊎_elim, ◌↔◌, dite}
use mathlib.Core.List.{List, [], ◌∷◌, ◌++◌}
use Prim.Native.Nat.{ℕ, zero, suc, ◌+◌, ◌-◌, ◌≤◌, ◌<◌}
use native.Mathlib.Omega.{arith}
use native.Mathlib.Decide.{dec_lt}
use lib.ListN.{length, get_or, set, take, drop, length-take}
use lib.Seq.{paste, get_or-take}
use Rattle.std.proofs.Common.{map, add-one, append_assoc}
use Rattle.std.proofs.lemmas.List.{drop-take}
use borrow.Author.Tests.{le-leb, lt-ltb}
use Rattle.std.specs.Prelude.{All as Every, Option, Some, None}
use Rattle.model.specs.Lists.{In, All, all_nil, all_cons, Sorted}
use Rattle.model.proofs.Lists.{all-at}
use Rattle.records.specs.declared.Pending.{Pending}
use Rattle.records.specs.Record.{blank, Sane, DueAt, FirstDueAt, aged, closed_in}

-- by the place, and as a list
module _ {P : Pending → Type 0} where
  pub every-there : (l : List Pending) → Every P l → All P l
  every-there [] a = all_nil
  every-there (x ∷ l) a = all_cons (a 0 x (omega arith)) (every-there l (λ k d h. a (suc k) d (omega arith)))

  pub every-all : (l : List Pending) → Every P l ↔ All P l
  every-all l = (every-there l, λ a k d h. all-at d a k h)

  pub all-by : (l : List Pending) → ((i : ℕ) → i < length l → P (get_or l i blank)) → All P l
  all-by [] f = all_nil
  all-by (x ∷ l) f = all_cons (f 0 (omega arith)) (all-by l (λ i h. f (suc i) (omega arith)))

  -- of the first n
  pub all-first : (n : ℕ) (l : List Pending) → n ≤ length l → ((k : ℕ) (d : Pending) → k < n → P (get_or l k d)) → All P (take n l)
  all-first zero l h f = all_nil
  all-first (suc n) [] h f = absurd (omega arith)
  all-first (suc n) (x ∷ l) h f = all_cons (f 0 x (omega arith)) (all-first n l (omega arith) (λ k d j. f (suc k) d (omega arith)))

-- the first that is due, by the places
abbrev pub FirstAt : List Pending → Option ℕ → Type 0
FirstAt l (Some at) = (at < length l) × ((get_or l at blank).left ≡ 0) × ((k : ℕ) (d : Pending) → k < at → 0 < (get_or l k d).left)
FirstAt l None = Every (λ p. 0 < p.left) l

pub first-due : (l : List Pending) (r : Option ℕ) → FirstAt l r → FirstDueAt l r
first-due l (Some at) p = record { inside = p.0; now = p.1; later = all-first at l (omega (arith, p.0)) p.2 }
first-due l None p = every-there l p

-- the record at i, with the step before it: 0 before the first
abbrev pub FineAt : List Pending → ℕ → ℕ → Type 0
FineAt l inputs i =
    ((get_or (blank ∷ l) i blank).step < (get_or l i blank).step) × ((get_or l i blank).step ≤ inputs) × ((get_or l i blank).left ≤ 61440)

-- all of them: the steps rise from 1, and each record is sane
above : (b : Pending) (l : List Pending) → ((i : ℕ) → i < length l → (get_or (b ∷ l) i blank).step < (get_or l i blank).step)
    → ((j : ℕ) → In j (map (λ p. p.step) l) → b.step < j) × Sorted ◌<◌ (map (λ p. p.step) l)
above b [] f = ((λ j m. absurd m), tt)
above b (x ∷ l) f =
    let r = above x l (λ i h. f (suc i) (omega arith)) in
    let g : b.step < x.step = f 0 (omega arith) in
    ((λ j m. ⊎_elim (λ e. omega (arith, e, g)) (λ n. omega (arith, g, r.0 j n)) m), r)

sorted-above : (b : Pending) (l : List Pending) → ((j : ℕ) → In j (map (λ p. p.step) l) → b.step < j) → Sorted ◌<◌ (map (λ p. p.step) l)
    → (i : ℕ) → i < length l → (get_or (b ∷ l) i blank).step < (get_or l i blank).step
sorted-above b [] f s i h = absurd (omega arith)
sorted-above b (x ∷ l) f s zero h = f x.step (inl refl)
sorted-above b (x ∷ l) f s (suc i) h = sorted-above x l s.0 s.1 i (omega arith)

abbrev Orderly : List Pending → ℕ → Type 0
Orderly l inputs = Sorted ◌<◌ (map (λ p. p.step) l) × All (Sane inputs) l

pub fine-order : (l : List Pending) (inputs : ℕ) → ((i : ℕ) → i < length l → FineAt l inputs i) → Orderly l inputs
fine-order l inputs f =
    let r = above blank l (λ i h. (f i h).0) in
    (r.1, all-by l (λ i h. let t = f i h in record { some = omega (arith, t.0); most = t.1; soon = t.2 }))

pub order-fine : (l : List Pending) (inputs : ℕ) → Orderly l inputs → (i : ℕ) → i < length l → FineAt l inputs i
order-fine l inputs o i h =
    let s : Sane inputs (get_or l i blank) = all-at blank o.1 i h in
    (sorted-above blank l (λ j m. steps-some l o.1 j m) o.0 i h, s.most, s.soon)
  where
    steps-some : (k : List Pending) → All (Sane inputs) k → (j : ℕ) → In j (map (λ p. p.step) k) → 0 < j
    steps-some [] a j m = absurd m
    steps-some (x ∷ k) (all_cons s a) j (inl e) = omega (arith, e, s.some)
    steps-some (x ∷ k) (all_cons s a) j (inr m) = steps-some k a j m

-- one record more has aged
pub aged_next : (t i : ℕ) (l : List Pending) → i < length l
    → set (map (aged t) (take i l) ++ drop i l) i (aged t (get_or (map (aged t) (take i l) ++ drop i l) i blank)) ≡ map (aged t) (take (suc i) l) ++ drop (suc i) l
aged_next t i [] h = absurd (omega arith)
aged_next t zero (x ∷ l) h = refl
aged_next t (suc i) (x ∷ l) h = ap (λ (r : List Pending). aged t x ∷ r) (aged_next t i l (omega arith))

-- the gap at `at` is closed
pub closed : (n at : ℕ) (l : List Pending) → at < n → n ≤ length l
    → paste l at (drop (at + 1) l) (n - (at + 1)) ≡ closed_in n at l
closed n at l h k =
    let e : suc at + (n - (at + 1)) ≡ n = omega arith in
    let g : at + (n - suc at) ≡ n - 1 = omega arith in
    let d : drop (suc at) (take n l) ≡ take (n - (at + 1)) (drop (suc at) l) =
    subst (λ (m : ℕ). drop (suc at) (take m l) ≡ take (n - (at + 1)) (drop (suc at) l)) e (drop-take (suc at) (n - (at + 1)) l) in
    rw (lt-ltb at n h, le-leb n (length l) k, d, add-one at, g) (append_assoc (take at l) (take (n - suc at) (drop (suc at) l)) (drop (n - 1) l))

-- two answers of the search for the first that is due are one
module _ (l : List Pending) where
  not-below : (i j : ℕ) → DueAt l i → DueAt l j → i < j → ⊥
  not-below i j p q h =
      let there : 0 < (get_or (take j l) i blank).left = all-at blank q.later i (omega (arith, length-take j l, q.inside)) in
      let same : get_or (take j l) i blank ≡ get_or l i blank = get_or-take j l i blank h in
      omega (arith, there, p.now, ap (λ (r : Pending). r.left) same)

  pub first-due-only : (r s : Option ℕ) → FirstDueAt l r → FirstDueAt l s → r ≡ s
  first-due-only (Some i) (Some j) p q =
      dite (dec_lt i j) (λ h. absurd (not-below i j p q h))
      (λ n. dite (dec_lt j i) (λ h. absurd (not-below j i q p h)) (λ m. let e : i ≡ j = omega arith in ap (λ (k : ℕ). Some k) e))
  first-due-only (Some i) None p a = absurd (omega (arith, p.now, all-at blank a i p.inside))
  first-due-only None (Some j) a q = absurd (omega (arith, q.now, all-at blank a j q.inside))
  first-due-only None None a b = refl
