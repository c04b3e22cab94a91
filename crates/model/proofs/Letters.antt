-- Letters: one letter throughout turns nothing, and a steady trace issues its letters in one sequence.
use mathlib.Core.Path.{◌≡◌, refl, sym, ap, ◌∙◌}
use mathlib.Core.Logic.{◌↔◌, inl, inr, dite}
use mathlib.Core.List.{List, [], ◌∷◌, map, map-map}
use Prim.Native.Nat.{ℕ, zero, suc, ◌+◌, ◌<◌}
use native.Mathlib.Omega.{arith}
use native.Mathlib.Decide.{ℕ_discrete}
use lib.ListN.{length}
use Rattle.model.specs.Lists.{All, In, Sorted, total}
use Rattle.model.specs.Table.{Transition, Machine, none, at}
use Rattle.model.specs.Word.{Word, Activates}
use Rattle.model.specs.Order.{due, Response, response, Conversion, Opposed}
use Rattle.model.specs.Verdict.{Turning, TableTurns}
use Rattle.model.proofs.Lists.{all-at}
use Rattle.model.proofs.Sorting.{Linear, place, put, listing, listing-in, listing-sorted}
use Rattle.model.proofs.Conversion.{before-linear, ordering, order, conversion-is, SameOrder}
use Rattle.model.proofs.Paths.{trace-all}

-- with one letter throughout nothing turns
pub one-letter : {tr : List Transition} {o : ℕ} → All (λ t. t.output ≡ o) tr → Turning tr → ⊥
one-letter all t = let x : _ = t.opposed in x.differ (all-at none all x.i x.i_in ∙ sym (all-at none all x.j x.j_in))

pub one-letter-table : (m : Machine) {o : ℕ} → All (λ t. t.output ≡ o) m.transitions → TableTurns m → ⊥
one-letter-table m all t = one-letter (trace-all m.transitions all m.initial t.end t.trace t.path) t.turning

-- 1 for what is of another letter and does not stand behind
abbrev counts : {A B : Type 0} → Dec A → Dec B → ℕ
counts (yes e) d = 0
counts (no n) (yes r) = 0
counts (no n) (no m) = 1

counts-left : {A B C : Type 0} (d : Dec A) (n : B → ⊥) (m : C → ⊥) → counts {B = B} d (no n) ≡ counts {B = C} d (no m)
counts-left (yes e) n m = refl
counts-left (no e) n m = refl

counts_same : {A B C : Type 0} (d : Dec A) (b : Dec B) (c : Dec C) → ((A → ⊥) → B ↔ C) → counts d b ≡ counts d c
counts_same (yes e) b c h = refl
counts_same (no e) (yes b) (yes c) h = refl
counts_same (no e) (yes b) (no n) h = absurd (n ((h e).0 b))
counts_same (no e) (no n) (yes c) h = absurd (n ((h e).1 c))
counts_same (no e) (no n) (no m) h = refl

-- a number i is put into a list; f gives each number's letter
module _ (f : ℕ → ℕ) {R : ℕ → ℕ → Type 0} (s : Linear R) (i : ℕ) where
  abbrev ahead : ℕ → ℕ
  ahead x = counts (ℕ_discrete (f x) (f i)) (s.dec i x)

  -- past numbers of its own letter alone it might as well stand in front
  front-step : (x : ℕ) (l : List ℕ) (d : Dec (f x ≡ f i)) (c : Dec (R i x)) → counts d c ≡ 0 → map f (put s i l) ≡ f i ∷ map f l
      → map f (place s c l (put s i l)) ≡ f i ∷ f x ∷ map f l
  front-step x l d (yes r) e h = refl
  front-step x l (yes q) (no n) e h = cc
  front-step x l (no q) (no n) e h = absurd (omega arith)

  front : (l : List ℕ) → total ahead l ≡ 0 → map f (put s i l) ≡ f i ∷ map f l
  front [] e = refl
  front (x ∷ l) e = front-step x l (ℕ_discrete (f x) (f i)) (s.dec i x) (omega arith) (front l (omega arith))

  behind-step : (x : ℕ) (d : Dec (f x ≡ f i)) (c : Dec (R i x)) → R i x → counts d c ≡ 0
  behind-step x (yes e) c r = refl
  behind-step x (no n) (yes r') r = refl
  behind-step x (no n) (no m) r = absurd (m r)

  behind : (l : List ℕ) → ((x : ℕ) → In x l → R i x) → total ahead l ≡ 0
  behind [] h = refl
  behind (x ∷ l) h =
      omega (arith, behind-step x (ℕ_discrete (f x) (f i)) (s.dec i x) (h x (inl refl)), behind l (λ y m. h y (inr m)))

  behind-sorted : (x : ℕ) (l : List ℕ) → R i x → Sorted R (x ∷ l) → total ahead l ≡ 0
  behind-sorted x l r p = behind l (λ y m. s.transitive i x y r (p.0 y m))

-- and into two lists of the same letters, in two orders
module _ (f : ℕ → ℕ) {R Q : ℕ → ℕ → Type 0} (r : Linear R) (q : Linear Q) (i : ℕ) where
  both-step : (x y : ℕ) (a b : List ℕ) (c : Dec (R i x)) (d : Dec (Q i y)) → f x ≡ f y → map f a ≡ map f b → Sorted R (x ∷ a) → Sorted Q (y ∷ b)
      → counts (ℕ_discrete (f x) (f i)) c + total (ahead f r i) a ≡ counts (ℕ_discrete (f y) (f i)) d + total (ahead f q i) b
      → (total (ahead f r i) a ≡ total (ahead f q i) b → map f (put r i a) ≡ map f (put q i b))
      → map f (place r c a (put r i a)) ≡ map f (place q d b (put q i b))
  both-step x y a b (yes c) d e l p t h k =
      let z : _ = behind-sorted f r i x a c p in
      let w : _ = behind-step f r i x (ℕ_discrete (f x) (f i)) (yes c) c in
      let g : _ = front-step f q i y b (ℕ_discrete (f y) (f i)) d (omega arith) (front f q i b (omega arith)) in
      cc
  both-step x y a b (no c) (yes d) e l p t h k =
      let z : _ = behind-sorted f q i y b d t in
      let w : _ = behind-step f q i y (ℕ_discrete (f y) (f i)) (yes d) d in
      let g : _ = front-step f r i x a (ℕ_discrete (f x) (f i)) (no c) (omega arith) (front f r i a (omega arith)) in
      cc
  both-step x y a b (no c) (no d) e l p t h k =
      let w : counts (ℕ_discrete (f x) (f i)) (no c) ≡ counts (ℕ_discrete (f y) (f i)) (no d) = rw e (counts-left (ℕ_discrete (f y) (f i)) c d) in
      let g : _ = k (omega arith) in
      cc

  both : (a b : List ℕ) → map f a ≡ map f b → Sorted R a → Sorted Q b → total (ahead f r i) a ≡ total (ahead f q i) b
      → map f (put r i a) ≡ map f (put q i b)
  both [] [] e p t h = refl
  both [] (y ∷ b) e p t h = absurd (omega (arith, ap length e))
  both (x ∷ a) [] e p t h = absurd (omega (arith, ap length e))
  both (x ∷ a) (y ∷ b) e p t h =
      let l : map f a ≡ map f b = cc in
      both-step x y a b (r.dec i x) (q.dec i y) (cc) l p t h (both a b l p.1 t.1)

-- a sum over the numbers below n does not go by their order
module _ {R : ℕ → ℕ → Type 0} (s : Linear R) (g : ℕ → ℕ) where
  total-place : (i x : ℕ) (c : Dec (R i x)) (l rest : List ℕ) → total g rest ≡ g i + total g l → total g (place s c l rest) ≡ g i + (g x + total g l)
  total-place i x (yes r) l rest h = refl
  total-place i x (no n) l rest h = omega arith

  total-put : (i : ℕ) (l : List ℕ) → total g (put s i l) ≡ g i + total g l
  total-put i [] = refl
  total-put i (x ∷ l) = total-place i x (s.dec i x) l (put s i l) (total-put i l)

total-same : (g h : ℕ → ℕ) (l : List ℕ) → ((x : ℕ) → In x l → g x ≡ h x) → total g l ≡ total h l
total-same g h [] e = refl
total-same g h (x ∷ l) e = omega (arith, e x (inl refl), total-same g h l (λ y m. e y (inr m)))

module _ {R Q : ℕ → ℕ → Type 0} (r : Linear R) (q : Linear Q) where
  total-listing : (g : ℕ → ℕ) (n : ℕ) → total g (listing r n) ≡ total g (listing q n)
  total-listing g zero = refl
  total-listing g (suc n) = omega (arith, total-put r g n (listing r n), total-put q g n (listing q n), total-listing g n)

  -- where two orders agree on all numbers of unlike letters, they list the same letters
  module _ (f : ℕ → ℕ) where
    listed : (n : ℕ) → ((i j : ℕ) → i < n → j < n → (f i ≡ f j → ⊥) → R i j → Q i j) → map f (listing r n) ≡ map f (listing q n)
    listed zero h = refl
    listed (suc n) h =
        both f r q n (listing r n) (listing q n) (listed n (λ i j a b. h i j (omega arith) (omega arith))) (listing-sorted r n) (listing-sorted q n)
        (total-listing (ahead f r n) n ∙ total-same (ahead f r n) (ahead f q n) (listing q n) (λ x m. same x ((listing-in q n x).0 m)))
      where
        turned : (x : ℕ) → x < n → (f x ≡ f n → ⊥) → Q n x → R n x
        turned x l d o =
            dite (r.dec n x) (λ y. y) (λ z.
            absurd (q.irreflexive n (q.transitive n x n o (h x n (omega arith) (omega arith) d (r.total n x z (λ e. d (sym (ap f e))))))))

        same : (x : ℕ) → x < n → ahead f r n x ≡ ahead f q n x
        same x l =
            counts_same (ℕ_discrete (f x) (f n)) (r.dec n x) (q.dec n x)
            (λ d. (h n x (omega arith) (omega arith) (λ e. d (sym e)), turned x l d))

-- a word's letters in the order in which they are issued
module _ (tr : List Transition) where
  issued : {w : Word} {c : List Response} → Conversion tr w c → map (λ x. x.output) c ≡ map (λ i. (at tr i).output) (order tr w)
  issued {w} c = rw (conversion-is tr w c) (map-map (λ x. x.output) (response tr w) (order tr w))

  same-letters : (a b : Word) → SameOrder tr a b → map (λ i. (at tr i).output) (order tr a) ≡ map (λ i. (at tr i).output) (order tr b)
  unfolding ordering
  same-letters a b = listed (before-linear (due tr a)) (before-linear (due tr b)) (λ i. (at tr i).output) (length tr)

  unopposed : (a b : Word) → (Opposed tr a b → ⊥) → SameOrder tr a b
  unopposed a b n i j h k d f =
      let q : _ = before-linear (due tr b) in
      dite (q.dec i j) (λ y. y) (λ z.
      absurd (n (record {
        i = i;
        j = j;
        i_in = h;
        j_in = k;
        differ = d;
        first = f;
        second = q.total i j z (λ e. d (ap (λ x. (at tr x).output) e));
      })))

  -- a steady trace issues one sequence of letters, whatever word activates it
  pub steady-letters : (Turning tr → ⊥) → {a b : Word} → Activates tr a → Activates tr b → {x y : List Response} → Conversion tr a x → Conversion tr b y
      → map (λ r. r.output) x ≡ map (λ r. r.output) y
  steady-letters n {a} {b} p q x y =
      issued x ∙ same-letters a b (unopposed a b (λ o. n (record { one = a; two = b; act_one = p; act_two = q; opposed = o }))) ∙ sym (issued y)
