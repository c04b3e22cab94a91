-- Of the guard test's answers exactly one holds of a gap, and what each is worth as a test of a step.
use Rattle.std.proofs.Common.{◌≡◌, ℕ, ◌*◌, ◌≤◌, ◌⊎◌, List, ◌∷◌, refl, inl, inr, mul-le-mul_right, arith}
use mathlib.Core.Logic.{dite}
use native.Mathlib.Decide.{dec_lt}
use Rattle.model.specs.Answers.{fields}
use Rattle.model.specs.Table.{Transition}
use Rattle.model.specs.Word.{Fits, TooLate}
use Rattle.table.specs.Tests.{Test, Fails}
use Rattle.replay.specs.declared.Guard.{Guard}
use Rattle.replay.specs.declared.Guard.TheVariants.{Inside, Early, Late}
use Rattle.replay.specs.Guards.{Meets, guard_fields}
use Rattle.replay.specs.Play.{unless_met}

-- early and late are not inside
pub not-inside : (c : Guard) → (c ≡ Early) ⊎ (c ≡ Late) → c ≡ Inside → ⊥
not-inside c (inl h) e = cc
not-inside c (inr h) e = cc

module _ (q : ℕ) (t : Transition) (g : ℕ) where
  -- two answers that hold are one
  pub guard-only : (c d : Guard) → Meets c q t g → Meets d q t g → c ≡ d
  guard-only Inside Inside x y = refl
  guard-only Inside Early x y = absurd (omega (arith, x.after))
  guard-only Inside Late x y = absurd (omega (arith, x.within, y.1))
  guard-only Early Inside x y = absurd (omega (arith, y.after))
  guard-only Early Early x y = refl
  guard-only Early Late x y = absurd (y.0 x)
  guard-only Late Inside x y = absurd (omega (arith, y.within, x.1))
  guard-only Late Early x y = absurd (x.0 y)
  guard-only Late Late x y = refl

  -- and one of them holds
  pub guard-some : (c : Guard) × Meets c q t g
  guard-some =
      dite (dec_lt (t.u * q) g)
      (λ a. dite (dec_lt (t.v * q) g) (λ b. (Late, ((λ e. omega arith), b))) (λ n. (Inside, record { after = a; within = omega arith })))
      (λ n. (Early, omega arith))

  -- where u is at most v, as in every table that is read, late is all that is more than v
  pub late-plain : t.u ≤ t.v → TooLate q t g → Meets Late q t g
  late-plain h l = ((λ e. omega (arith, mul-le-mul_right q h)), l)

  -- a gap inside is neither early nor late, and the other way round
  pub fits-neither : Fits q t g → (Meets Early q t g → ⊥) × (Meets Late q t g → ⊥)
  fits-neither f = ((λ e. omega (arith, f.after)), (λ l. omega (arith, f.within, l.1)))

  pub neither-fits : (Meets Early q t g → ⊥) → (Meets Late q t g → ⊥) → Fits q t g
  neither-fits e l = record {
    after = dite (dec_lt (t.u * q) g) (λ h. h) (λ n. absurd (e (omega arith)));
    within = dite (dec_lt (t.v * q) g) (λ h. absurd (l (e, h))) (λ n. omega arith);
  }

-- outside its guard a gap is refused by its own number and step
pub guard-shape : (c : Guard) → (c ≡ Inside → ⊥) → (step : ℕ) → guard_fields c step ≡ fields (guard_fields c step).status step 0 0
guard-shape Inside n step = absurd (n refl)
guard-shape Early n step = refl
guard-shape Late n step = refl

pub guard-fails : (c : Guard) → (c ≡ Inside → ⊥) → (t : Transition) (g step : ℕ) (more : List Test) → Meets c 256 t g
    → Fails (unless_met Early step t g ∷ unless_met Late step t g ∷ more) (guard_fields c step).status step
guard-fails Inside n t g step more m = absurd (n refl)
guard-fails Early n t g step more m = inl ((λ x. x m), refl, refl)
guard-fails Late n t g step more m = inr (m.0, inl ((λ x. x m), refl, refl))
