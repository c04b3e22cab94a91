-- The word that stamps make on a trace: its gaps place by place, and when it activates the trace.
use Rattle.std.proofs.Common.{◌≡◌, ℕ, zero, suc, ◌+◌, ◌<◌, List, [], ◌∷◌, length, get_or, take, refl, ap, ◌∙◌, arith}
use native.Mathlib.Nat.{suc_inj}
use Rattle.model.specs.Lists.{total}
use Rattle.model.specs.Table.{Transition, at, none}
use Rattle.model.specs.Word.{Symbol, Fits, Activates}
use Rattle.model.specs.Order.{arrival}
use Rattle.model.specs.Shown.{symbol}
use Rattle.model.specs.Stamps.{gap_of, gaps_from, spelled, word_from}
use Rattle.model.proofs.Lists.{both_by}

-- every gap inside its step's guard
abbrev pub AllFit : List Transition → List ℕ → Type 0
AllFit tr gaps = (j : ℕ) → j < length tr → Fits 256 (at tr j) (get_or gaps j 0)

-- a stamp counts 1/256 tick
pub parts-of : (tr : List Transition) (start : ℕ) (stamps : List ℕ) → (word_from tr start stamps).q ≡ 256
unfolding word_from
parts-of tr start stamps = refl

pub length-gaps : (s : ℕ) (l : List ℕ) → length (gaps_from s l) ≡ length l
length-gaps s [] = refl
length-gaps s (x ∷ l) = ap suc (length-gaps x l)

-- a gap by stamps that follow each other, the start standing before the first
pub gaps-at : (s : ℕ) (l : List ℕ) (i : ℕ) → i < length l → get_or (gaps_from s l) i 0 ≡ gap_of (get_or (s ∷ l) i 0) (get_or l i 0)
gaps-at s [] i h = absurd (omega arith)
gaps-at s (x ∷ l) zero h = refl
gaps-at s (x ∷ l) (suc i) h = gaps-at x l i (omega arith)

length-spelled : (tr : List Transition) (gs : List ℕ) → length gs ≡ length tr → length tr ≡ length (spelled tr gs)
length-spelled [] gs e = refl
length-spelled (t ∷ tr) [] e = absurd (omega arith)
length-spelled (t ∷ tr) (g ∷ gs) e = ap suc (length-spelled tr gs (suc_inj e))

spelled_at : (z : Symbol) (tr : List Transition) (gs : List ℕ) (i : ℕ) → length gs ≡ length tr → i < length tr
    → get_or (spelled tr gs) i z ≡ symbol (at tr i) (get_or gs i 0)
spelled_at z [] gs i e h = absurd (omega arith)
spelled_at z (t ∷ tr) [] i e h = absurd (omega arith)
spelled_at z (t ∷ tr) (g ∷ gs) zero e h = refl
spelled_at z (t ∷ tr) (g ∷ gs) (suc i) e h = spelled_at z tr gs i (suc_inj e) (omega arith)

total-more : {A : Type 0} (f : A → ℕ) (z : A) (l : List A) (i : ℕ) → i < length l → total f (take (suc i) l) ≡ total f (take i l) + f (get_or l i z)
total-more f z [] i h = absurd (omega arith)
total-more f z (a ∷ l) zero h = omega arith
total-more f z (a ∷ l) (suc i) h = omega (arith, total-more f z l i (omega arith))

-- when the steps before step i have arrived
abbrev pub passed : List Transition → ℕ → List ℕ → ℕ → ℕ
passed tr start stamps i = total (λ s. s.gap) (take i (spelled tr (gaps_from start stamps)))

module _ (tr : List Transition) (start : ℕ) (stamps : List ℕ) (e : length stamps ≡ length tr) where
  gaps-tr : length (gaps_from start stamps) ≡ length tr
  gaps-tr = length-gaps start stamps ∙ e

  pub fits-activates : AllFit tr (gaps_from start stamps) → Activates tr (word_from tr start stamps)
  unfolding word_from
  fits-activates f =
      both_by none (symbol none 0) tr (spelled tr (gaps_from start stamps)) (length-spelled tr (gaps_from start stamps) gaps-tr)
      (λ i h. rw (spelled_at (symbol none 0) tr (gaps_from start stamps) i gaps-tr h) (record { letter = refl; fits = f i h }))

  -- step i arrives a gap after the step before it
  pub arrival-next : (i : ℕ) → i < length tr → arrival (word_from tr start stamps) i ≡ passed tr start stamps i + get_or (gaps_from start stamps) i 0
  unfolding word_from
  arrival-next i h =
      let g : List ℕ = gaps_from start stamps in
      let m : i < length (spelled tr g) = omega (arith, length-spelled tr g gaps-tr) in
      let s : get_or (spelled tr g) i (symbol none 0) ≡ symbol (at tr i) (get_or g i 0) = spelled_at (symbol none 0) tr g i gaps-tr h in
      rw s at (total-more (λ s. s.gap) (symbol none 0) (spelled tr g) i m)

  pub passed-next : (i : ℕ) → passed tr start stamps (suc i) ≡ arrival (word_from tr start stamps) i
  unfolding word_from
  passed-next i = refl
