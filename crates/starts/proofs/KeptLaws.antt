-- Laws of what is kept: what one more end and the ends of another state do to it.
use mathlib.Core.Path.{◌≡◌, refl, sym, ◌∙◌}
use mathlib.Core.Logic.{◌⊎◌, inl, inr, ⊎_elim, dite}
use Prim.Native.Nat.{ℕ, ◌+◌, ◌≤◌, ◌<◌, max}
use native.Mathlib.Omega.{arith}
use native.Mathlib.Decide.{dec_lt, ℕ_discrete}
use Rattle.starts.specs.declared.kept.Entry.{Entry}
use Rattle.starts.specs.Kept.{cap, Kept, Taken, taken_like, taken_more, taken_less, Joined, joined_none, joined_first, joined_both}

-- two descriptions of one set of ends
pub kept_same : {Q P : ℕ → ℕ → Type 0} {a : Entry} → ((x c : ℕ) → Q x c → P x c) → ((x c : ℕ) → P x c → Q x c) → Kept Q a → Kept P a
kept_same to from k = record {
  some = λ x c p. k.some x c (from x c p);
  first = λ h. to _ _ (k.first h);
  second = λ h. let s = k.second h in (s.0, s.1, to _ _ s.2);
  most = λ x c p. k.most x c (from x c p);
  others = λ x c p. k.others x c (from x c p);
}

-- no end
pub kept-none : {Q : ℕ → ℕ → Type 0} {a : Entry} → ((x c : ℕ) → Q x c → ⊥) → a.first ≡ 0 → a.second ≡ 0 → Kept Q a
kept-none n f s = record {
  some = λ x c q. absurd (n x c q);
  first = λ h. absurd (omega arith);
  second = λ h. absurd (omega arith);
  most = λ x c q. absurd (n x c q);
  others = λ x c q. absurd (n x c q);
}

-- where the second is as great as can be, more ends change nothing
pub kept_full : {Q P : ℕ → ℕ → Type 0} {a : Entry} → 61440 ≤ a.second → ((x c : ℕ) → Q x c → P x c) → ((x c : ℕ) → P x c → (1 ≤ x) × (x ≤ 61440))
    → Kept Q a → Kept P a
kept_full h to within k =
    let s = k.second (omega arith) in
    let f = k.most _ _ s.2 in
    record {
      some = λ x c p. (within x c p).0;
      first = λ l. to _ _ (k.first l);
      second = λ l. (s.0, s.1, to _ _ s.2);
      most = λ x c p. omega (arith, within x c p);
      others = λ x c p n. omega (arith, within x c p);
    }

-- the set with one more end
abbrev pub With : (ℕ → ℕ → Type 0) → ℕ → ℕ → ℕ → ℕ → Type 0
With Q x c y d = Q y d ⊎ ((y ≡ x) × (d ≡ c))

module _ {Q : ℕ → ℕ → Type 0} {a : Entry} (k : Kept Q a) {x c : ℕ} (pos : 1 ≤ x) where
  with-some : (y d : ℕ) → With Q x c y d → 1 ≤ y
  with-some y d = ⊎_elim (λ q. k.some y d q) (λ e. omega (arith, e.0))

  -- the greatest of them
  first_of : {f l : ℕ} → (1 ≤ f → Q f l) → c ≡ l → 1 ≤ max f x → With Q x c (max f x) l
  first_of {f} {l} h e p = dite (dec_lt f x) (λ (b : f < x). inr (omega arith, sym e)) (λ n. let q : max f x ≡ f = omega arith in rw q (inl (h (omega arith))))

  pub kept-taken : {r : Entry} → Taken a x c r → Kept (With Q x c) r
  kept-taken (taken_like e) = record {
    some = with-some;
    first = first_of k.first e;
    second = λ h. let s = k.second h in (s.0, s.1, inl s.2);
    most = λ y d. ⊎_elim (λ q. omega (arith, k.most y d q)) (λ z. omega (arith, z.0));
    others = λ y d. ⊎_elim (λ q n. k.others y d q n) (λ z n. absurd (n (z.1 ∙ e)));
  }
  kept-taken (taken_more n h) = record {
    some = with-some;
    first = λ p. inr (refl, refl);
    second = λ p. (a.letter, λ e. n (sym e), inl (k.first p));
    most = λ y d. ⊎_elim (λ q. omega (arith, k.most y d q)) (λ z. omega (arith, z.0));
    others = λ y d. ⊎_elim (λ q o. k.most y d q) (λ z o. absurd (o z.1));
  }
  kept-taken (taken_less n h) = record {
    some = with-some;
    first = λ p. inl (k.first p);
    second = λ p.
        dite (dec_lt a.second x)
        (λ (b : a.second < x). (c, n, inr (omega arith, refl)))
        (λ b.
        let q : max a.second x ≡ a.second = omega arith in
        let s = k.second (omega arith) in
        rw q (s.0, s.1, inl s.2));
    most = λ y d. ⊎_elim (λ q. k.most y d q) (λ z. omega (arith, z.0));
    others = λ y d. ⊎_elim (λ q o. omega (arith, k.others y d q o)) (λ z o. omega (arith, z.0));
  }

-- the set with the ends of another, each a gap later
abbrev pub Later : (ℕ → ℕ → Type 0) → ℕ → ℕ → ℕ → Type 0
Later P gap x c = (y : ℕ) × P y c × (x ≡ cap (y + gap))

abbrev pub Both : (ℕ → ℕ → Type 0) → (ℕ → ℕ → Type 0) → ℕ → ℕ → ℕ → Type 0
Both Q P gap x c = Q x c ⊎ Later P gap x c

module _ {Q P : ℕ → ℕ → Type 0} {a n : Entry} (k : Kept Q a) (p : Kept P n) (gap : ℕ) where
  both_some : (x c : ℕ) → Both Q P gap x c → 1 ≤ x
  both_some x c = ⊎_elim (λ q. k.some x c q) (λ l. omega (arith, p.some l.0 c l.1, l.2))

  -- the first of n is among them
  module _ {r : Entry} (h : 1 ≤ n.first) (t : Taken a (cap (n.first + gap)) n.letter r) where
    w : Kept (With Q (cap (n.first + gap)) n.letter) r
    w = kept-taken k (omega arith) t

    in_both : (x c : ℕ) → With Q (cap (n.first + gap)) n.letter x c → Both Q P gap x c
    in_both x c = ⊎_elim inl (λ (e : (x ≡ cap (n.first + gap)) × (c ≡ n.letter)). inr (n.first, rw e.1 (p.first h), e.0))

    -- and no other of n is greater
    most-both : (x c : ℕ) → Both Q P gap x c → x ≤ r.first
    most-both x c =
        ⊎_elim (λ q. w.most x c (inl q)) (λ l. omega (arith, p.most l.0 c l.1, l.2, w.most _ _ (inr (refl, refl))))

    -- of another letter than r's
    others-both : (x c : ℕ) {top : ℕ} → r.second ≤ top → (r.letter ≡ n.letter → (y : ℕ) → y ≤ n.second → 1 ≤ y → cap (y + gap) ≤ top) → Both Q P gap x c
        → (c ≡ r.letter → ⊥) → x ≤ top
    others-both x c {top} g s b o =
        ⊎_elim (λ q. omega (arith, w.others x c (inl q) o))
        (λ (l : Later P gap x c). dite (ℕ_discrete r.letter n.letter)
        (λ (e : r.letter ≡ n.letter).
        let y = p.others l.0 c l.1 (λ z. o (z ∙ sym e)) in
        omega (arith, l.2, s e l.0 y (p.some l.0 c l.1)))
        (λ d. omega (arith, p.most l.0 c l.1, l.2, w.others _ _ (inr (refl, refl)) (λ e. d (sym e)))))
        b

  pub kept-joined : {r : Entry} → Joined a n gap r → Kept (Both Q P gap) r
  kept-joined (joined_none e) =
      let none : (x c : ℕ) → P x c → ⊥ = λ x c q. omega (arith, p.some x c q, p.most x c q) in
      kept_same (λ x c q. inl q) (λ x c. ⊎_elim (λ q. q) (λ l. absurd (none l.0 c l.1))) k
  kept-joined (joined_first {r} h t z) = record {
    some = both_some;
    first = λ l. in_both h t _ _ ((w h t).first l);
    second = λ l. let s = (w h t).second l in (s.0, s.1, in_both h t _ _ s.2);
    most = most-both h t;
    others = λ x c. others-both h t x c (omega arith) (λ e y l g. absurd (omega (arith, z e)));
  }
  kept-joined (joined_both {r} h t e g) = record {
    some = both_some;
    first = λ l. in_both h t _ _ ((w h t).first l);
    second = λ l.
        dite (dec_lt r.second (cap (n.second + gap)))
        (λ (b : r.second < cap (n.second + gap)). let s = p.second g in (s.0, λ i. s.1 (i ∙ e), inr (n.second, s.2, omega arith)))
        (λ b.
        let q : max r.second (cap (n.second + gap)) ≡ r.second = omega arith in
        let s = (w h t).second (omega arith) in
        rw q (s.0, s.1, in_both h t _ _ s.2));
    most = most-both h t;
    others = λ x c. others-both h t x c (omega arith) (λ i y l o. omega arith);
  }
