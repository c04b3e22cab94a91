-- Tests on values and tests on bytes that decide alike.
use mathlib.Core.Path.{◌≡◌, ◌∙◌}
use mathlib.Core.Logic.{inl, inr}
use mathlib.Core.List.{List, [], ◌∷◌}
use Prim.Native.Nat.{ℕ}
use Rattle.model.specs.Table.{Machine, Valid}
use Rattle.table.specs.Tests.{Test, Passes, Fails, after_table}
use Rattle.table.proofs.TestLaws.{valid-fails}

-- one number and place each, and where all before them hold they hold together
abbrev pub Agree : List Test → List Test → Type 0
Agree [] [] = Unit {0}
Agree [] (b ∷ l) = ⊥
Agree (a ∷ k) [] = ⊥
Agree (a ∷ k) (b ∷ l) =
    (a.number ≡ b.number) × (a.place ≡ b.place) × (a.holds → b.holds) × (b.holds → a.holds) × (a.holds → Agree k l)

pub agree-passes : (k l : List Test) → Agree k l → Passes k → Passes l
agree-passes (a ∷ k) [] g p = elim g [ ]
agree-passes [] (b ∷ l) g p = elim g [ ]
agree-passes [] [] g p = tt
agree-passes (a ∷ k) (b ∷ l) g p = (g.2 p.0, agree-passes k l (g.4 p.0) p.1)

pub agree-fails : (k l : List Test) (n p : ℕ) → Agree k l → Fails k n p → Fails l n p
agree-fails (a ∷ k) [] n p g _ = elim g [ ]
agree-fails [] l n p g f = elim f [ ]
agree-fails (a ∷ k) (b ∷ l) n p g (inl f) = inl ((λ h. f.0 (g.3 h)), f.1 ∙ g.0, f.2 ∙ g.1)
agree-fails (a ∷ k) (b ∷ l) n p g (inr f) = inr (g.2 f.0, agree-fails k l n p (g.4 f.0) f.1)

-- after a valid table the other tests decide
module _ (m : Machine) (valid : Valid m) (more : List Test) where
  pub after-passes : Passes (after_table m more) → Passes more
  after-passes p = p.1.1.1

  pub after-fails : (n p : ℕ) → Fails (after_table m more) n p → Fails more n p
  after-fails n p f = (valid-fails m valid more n p).0 f
