-- What a step asks for: one mark for several steps, and where no step is what it asks for.
use mathlib.Core.Path.{◌≡◌, refl}
use mathlib.Core.Logic.{⊎_elim, dite}
use mathlib.Core.Bool.{Bool, true, false, not, ◌&&◌, ◌||◌}
use mathlib.Core.List.{List}
use Prim.Native.Nat.{ℕ, ◌+◌, ◌*◌, ◌%◌, ◌≤◌, ◌<◌}
use native.Mathlib.Omega.{arith}
use native.Mathlib.Decide.{dec_lt}
use native.Mathlib.Nat.{eq-or-lt_of_le}
use borrow.Author.Tests.{lt-ltb, le-leb, ne_eqb}
use lib.Dec.{ltb, leb, eqb}
use lib.ListN.{get_or}
use Rattle.std.proofs.lemmas.Bool.{both_ways}
use Rattle.verdict.specs.declared.marks.Mark.{Mark}
use Rattle.verdict.specs.Marks.{Fits, Clear, mark_at, Covers}

-- what the loop asks of step m
pub asked-fits : (any : Bool) {early late : List ℕ} (q : Mark) (m : ℕ)
    → any || ((ltb (get_or early m 0) q.time && leb q.late (get_or late m 0)) && not (eqb (get_or early m 0 % 256) q.letter)) ≡ false
    → (any ≡ false) × (Fits early late q m → ⊥)
asked-fits true q m e = absurd (both_ways _ e refl)
asked-fits false q m e = (refl, λ f. both_ways _ (rw (lt-ltb _ _ f.before, le-leb _ _ f.after, ne_eqb _ _ f.unlike) at e) refl)

pub covers-trans : {a b c : Mark} → Covers a b → Covers b c → Covers a c
covers-trans x y = record {
  time = omega (arith, x.time, y.time);
  late = omega (arith, x.late, y.late);
  letter = λ l h e. y.letter l h (x.letter l h e);
}

module _ {early late : List ℕ} {q : Mark} where
  pub clear-more : {a m : ℕ} → Clear early late q a m → (Fits early late q m → ⊥) → Clear early late q a (m + 1)
  clear-more c n = record { none = λ j h l f. ⊎_elim (λ e. n (rw e at f)) (λ i. c.none j h i f) (eq-or-lt_of_le (omega arith)) }

  pub clear-join : {a b c : ℕ} → Clear early late q a b → Clear early late q b c → Clear early late q a c
  clear-join {b = b} x y = record { none = λ m h l f. dite (dec_lt m b) (λ i. x.none m h i f) (λ n. y.none m (omega arith) l f) }

  pub clear-under : {r : Mark} {a b : ℕ} → Covers q r → Clear early late q a b → Clear early late r a b
  clear-under {r = r} v c = record {
    none = λ m h l f. c.none m h l (record {
      before = omega (arith, v.time, f.before);
      after = omega (arith, v.late, f.after);
      unlike = λ e. f.unlike (v.letter (get_or early m 0 % 256) (omega arith) e);
    });
  }

-- the marks of the steps of block i before k, but for the calm ones, are together in q
pub record Marked (early late : List ℕ) (calm : List Bool) (i : ℕ) (q : Mark) (k : ℕ) : Type 0 where
  pub from : 8 * i ≤ k
  pub to : k ≤ 8 * i + 8
  pub all : (j : ℕ) → 8 * i ≤ j → j < k → get_or calm j false ≡ false → Covers q (mark_at early late j)
