-- What a look has seen.
use mathlib.Core.Path.{◌≡◌, refl, sym, ◌∙◌}
use mathlib.Core.Logic.{◌⊎◌, inl, inr, ⊎_elim, ◌↔◌, dite}
use mathlib.Core.Bool.{Bool, true, false}
use mathlib.Core.List.{List}
use Prim.Native.Nat.{ℕ, zero, suc, ◌-◌, ◌≤◌, ◌<◌}
use native.Mathlib.Omega.{arith}
use native.Mathlib.Nat.{eq-or-lt_of_le, eq-zero-or-pos}
use native.Mathlib.Decide.{dec_lt, ℕ_discrete}
use lib.Dec.{ltb}
use lib.ListN.{get_or}
use borrow.Author.Tests.{lt-ltb, le-ltb, eq-eqb, ne_eqb}
use Rattle.records.specs.declared.Pending.{Pending}
use Rattle.records.specs.declared.sweeps.Seen.{Seen}
use Rattle.records.specs.Record.{blank}
use Rattle.records.specs.Sweep.{pick, fine_of, seen_of}
use Rattle.records.proofs.SweepLaws.{seen_from}

lt-or-ge : (a b : ℕ) → (a < b) ⊎ (b ≤ a)
lt-or-ge a b = dite (dec_lt a b) inl (λ n. inr (omega arith))

no_true : ◌≡◌ {A = Bool} false true → ⊥
no_true e = let o : ◌≡◌ {A = ℕ} 0 1 = cc in omega arith

lesser-left : (a b : ℕ) → pick (ltb a b) a b ≤ a
lesser-left a b = ⊎_elim (λ h. rw (lt-ltb a b h) (omega arith)) (λ h. rw (le-ltb a b h) h) (lt-or-ge a b)

lesser-right : (a b : ℕ) → pick (ltb a b) a b ≤ b
lesser-right a b = ⊎_elim (λ h. rw (lt-ltb a b h) (omega arith)) (λ h. rw (le-ltb a b h) (omega arith)) (lt-or-ge a b)

-- the least time left is at most what it was, and at most each record's
pub least-most : (n : ℕ) (l : List Pending) (s : Seen) → (seen_from n l s).least ≤ s.least
least-most zero l s = omega arith
least-most (suc i) l s = omega (arith, least-most i l (seen_of (get_or l i blank) i s), lesser-right (get_or l i blank).left s.least)

pub least-low : (n : ℕ) (l : List Pending) (s : Seen) (j : ℕ) → j < n → (seen_from n l s).least ≤ (get_or l j blank).left
least-low zero l s j h = absurd (omega arith)
least-low (suc i) l s j h = ⊎_elim
    (λ (e : suc j ≡ suc i). let e' : j ≡ i = omega arith in rw e' (omega (
      arith,
      least-most i l (seen_of (get_or l i blank) i s),
      lesser-left (get_or l i blank).left s.least,
    )))
    (λ g. least-low i l (seen_of (get_or l i blank) i s) j (omega arith))
    (eq-or-lt_of_le h)

-- and no less than what all of these are at least
greater : (t a b : ℕ) → t ≤ a → t ≤ b → t ≤ pick (ltb a b) a b
greater t a b p q = ⊎_elim (λ h. rw (lt-ltb a b h) p) (λ h. rw (le-ltb a b h) q) (lt-or-ge a b)

pub least-high : (n : ℕ) (l : List Pending) (s : Seen) (t : ℕ) → t ≤ s.least → ((j : ℕ) → j < n → t ≤ (get_or l j blank).left) → t ≤ (seen_from n l s).least
least-high zero l s t h g = h
least-high (suc i) l s t h g =
    least-high i l (seen_of (get_or l i blank) i s) t (greater t (get_or l i blank).left s.least (g i (omega arith)) h) (λ j k. g j (omega arith))

-- the lowest place that is due, with its record; or none is due
pub record Due (n : ℕ) (l : List Pending) (r : Seen) : Type 0 where
  pub inside : r.due < n
  pub now : (get_or l r.due blank).left ≡ 0
  pub it : r.first ≡ get_or l r.due blank
  pub lowest : (j : ℕ) → j < r.due → 0 < (get_or l j blank).left

pub record NoneDue (n : ℕ) (l : List Pending) (s r : Seen) : Type 0 where
  pub later : (j : ℕ) → j < n → 0 < (get_or l j blank).left
  pub due_kept : r.due ≡ s.due
  pub first_kept : r.first ≡ s.first
  pub least_pos : 0 < s.least → 0 < r.least

module _ (i : ℕ) (l : List Pending) (s : Seen) where
  abbrev p : Pending
  p = get_or l i blank

  abbrev s' : Seen
  s' = seen_of p i s

  one_more : (r : Seen) → Due i l r ⊎ NoneDue i l s' r → (p.left ≡ 0) ⊎ (0 < p.left) → Due (suc i) l r ⊎ NoneDue (suc i) l s r
  one_more r (inl d) c = inl (record { inside = omega (arith, d.inside); now = d.now; it = d.it; lowest = d.lowest })
  one_more r (inr d) (inl z) =
      let e : r.due ≡ i = d.due_kept ∙ rw (eq-eqb p.left 0 z) in
      let g : r.first ≡ p = d.first_kept ∙ rw (eq-eqb p.left 0 z) in
      inl (record { inside = omega arith; now = rw e z; it = rw e g; lowest = λ j h. d.later j (omega arith) })
  one_more r (inr d) (inr z) =
      let n : p.left ≡ 0 → ⊥ = λ e. omega arith in
      inr (record {
        later = λ j h. ⊎_elim (λ e. let e' : j ≡ i = omega arith in rw e' z) (λ g. d.later j (omega arith)) (eq-or-lt_of_le h);
        due_kept = d.due_kept ∙ rw (ne_eqb p.left 0 n);
        first_kept = d.first_kept ∙ rw (ne_eqb p.left 0 n);
        least_pos = λ q. d.least_pos (greater 1 p.left s.least z q);
      })

pub look-due : (n : ℕ) (l : List Pending) (s : Seen) → Due n l (seen_from n l s) ⊎ NoneDue n l s (seen_from n l s)
look-due zero l s = inr (record { later = λ j h. absurd (omega arith); due_kept = refl; first_kept = refl; least_pos = λ h. h })
look-due (suc i) l s = one_more i l s (seen_from i l (seen_of (get_or l i blank) i s)) (look-due i l (seen_of (get_or l i blank) i s)) (eq-zero-or-pos
    (get_or l i blank).left)

-- steps rise, from 1 to a at most, and no time left is above 240 ticks
abbrev pub Good : ℕ → List Pending → ℕ → Type 0
Good zero l a = Unit {0}
Good (suc i) l a = (1 ≤ (get_or l i blank).step) × ((get_or l i blank).step ≤ a) × ((get_or l i blank).left ≤ 61440) × Good i l ((get_or l i blank).step - 1)

fine-one : (p : Pending) (s : Seen) → (fine_of p s ≡ true) ↔ ((1 ≤ p.step) × (p.step ≤ s.above) × (p.left ≤ 61440) × (s.fine ≡ true))
fine-one p s = dite (ℕ_discrete p.step 0)
    (λ z. (λ e. absurd (no_true (sym (rw (eq-eqb p.step 0 z)) ∙ e)), λ g. absurd (omega (arith, g.0))))
    (λ nz. dite (dec_lt s.above p.step)
    (λ h. (λ e. absurd (no_true (sym (rw (ne_eqb p.step 0 nz, lt-ltb s.above p.step h)) ∙ e)), λ g. absurd (omega (arith, g.1))))
    (λ nh. dite (dec_lt 61440 p.left)
    (λ k. (
      λ e. absurd (no_true (sym (rw (ne_eqb p.step 0 nz, le-ltb s.above p.step (omega arith), lt-ltb 61440 p.left k))
          ∙ e)),
      λ g. absurd (omega (arith, g.2)),
    ))
    (λ nk. let is : fine_of p s ≡ s.fine = rw (ne_eqb p.step 0 nz, le-ltb s.above p.step (omega arith), le-ltb 61440 p.left (omega arith)) in
    (λ e. (omega (arith, nz), omega arith, omega arith, sym is ∙ e), λ g. is ∙ g.3))))

-- refusal 15 of the list: what the look answers is exactly that
pub fine-law : (n : ℕ) (l : List Pending) (s : Seen) → ((seen_from n l s).fine ≡ true) ↔ (Good n l s.above × (s.fine ≡ true))
fine-law zero l s = (λ e. (tt, e), λ g. g.1)
fine-law (suc i) l s =
    let p : Pending = get_or l i blank in
    let ih : _ = fine-law i l (seen_of p i s) in
    let one : _ = fine-one p s in (
      λ e. let a : _ = ih.0 e in let b : _ = one.0 a.1 in ((b.0, b.1, b.2, a.0), b.3),
      λ g. ih.1 (g.0.3, one.1 (g.0.0, g.0.1, g.0.2, g.1)),
    )
