-- Never more than the greatest d over the least u, rounded up, wait: k waiting responses have k * u < d + u.
use mathlib.Core.Path.{◌≡◌, refl, sym, ap, ◌∙◌}
use mathlib.Core.Logic.{inl, inr}
use mathlib.Core.List.{List, [], ◌∷◌, ◌++◌, map}
use Prim.Native.Nat.{ℕ, zero, suc, ◌+◌, ◌*◌, ◌-◌, ◌/◌, ◌≤◌, ◌<◌}
use native.Mathlib.Omega.{arith}
use native.Mathlib.Nat.{mul-le-mul_right, mul_assoc, lt_of_mul-lt-mul_right, suc-mul, mul-one, mul-add, zero-mul, le-div_iff_mul-le}
use lib.ListN.{length, length-append, length-map}
use Rattle.model.specs.Lists.{In}
use Rattle.model.specs.Table.{Machine, at}
use Rattle.playing.specs.Runs.{Wait, Play, aged, Run, starts, waits, inputs, outputs}

mul-suc-one : (n k : ℕ) → n * (k + 1) ≡ n * k + n
mul-suc-one n k = mul-add n k 1 ∙ ap (λ (x : ℕ). n * k + x) (mul-one n)

below : (n low high q : ℕ) → 1 ≤ high → n * low * q + n ≤ high * q → n * low < high
below zero low high q b h = omega (arith, zero-mul low)
below (suc n) low high q b h = lt_of_mul-lt-mul_right q (omega arith)

module _ (low high q : ℕ) where
  -- one gap at least
  abbrev gap : ℕ
  gap = low * q + 1

  -- the time that is left of a waiting response, the time since the last input, and a gap for each that waits after it
  abbrev Tight : List Wait → ℕ → Type 0
  Tight [] timer = Unit {0}
  Tight (x ∷ l) timer = (x.left + timer + length l * gap ≤ high * q) × Tight l timer

  tight-time : (t : ℕ) (l : List Wait) (timer : ℕ) → ((x : Wait) → In x l → t ≤ x.left) → Tight l timer → Tight (map (aged t) l) (timer + t)
  tight-time t [] timer h s = tt
  tight-time t (x ∷ l) timer h s =
      let hx : t ≤ x.left = h x (inl refl) in
      (rw (length-map l (aged t)) (omega (arith, s.0)), tight-time t l timer (λ y m. h y (inr m)) s.1)

  tight-input : (new : Wait) (l : List Wait) (timer : ℕ) → low * q < timer → new.left ≤ high * q → Tight l timer → Tight (l ++ (new ∷ [])) 0
  tight-input new [] timer h n s = (omega (arith, zero-mul gap), tt)
  tight-input new (x ∷ l) timer h n s =
      let e : length (l ++ (new ∷ [])) ≡ suc (length l) = length-append l (new ∷ []) ∙ omega arith in
      (rw e (omega (arith, s.0, suc-mul (length l) gap)), tight-input new l timer h n s.1)

  tight-output : (xs : List Wait) (x : Wait) (ys : List Wait) (timer : ℕ) → Tight (xs ++ (x ∷ ys)) timer → Tight (xs ++ ys) timer
  tight-output [] x ys timer s = s.1
  tight-output (y ∷ xs) x ys timer s =
      let a : length (xs ++ ys) ≡ length xs + length ys = length-append xs ys in
      let b : length (xs ++ (x ∷ ys)) ≡ length xs + suc (length ys) = length-append xs (x ∷ ys) in
      let c : length (xs ++ (x ∷ ys)) ≡ suc (length (xs ++ ys)) = omega arith in
      (omega (arith, s.0, ap (λ (n : ℕ). n * gap) c, suc-mul (length (xs ++ ys)) gap), tight-output xs x ys timer s.1)

  module _ (m : Machine) (lows : (i : ℕ) → i < length m.transitions → low ≤ (at m.transitions i).u) (highs : (i : ℕ) → i < length m.transitions
      → (at m.transitions i).d ≤ high) where
    pub tight : {p : Play} → Run m q p → Tight p.waiting p.timer
    tight starts = tt
    tight (waits {p} t r h) = tight-time t p.waiting p.timer h (tight r)
    tight (inputs {p} letter i r f h) =
        tight-input (record { step = length p.owed; letter = (at m.transitions i).output; left = (at m.transitions i).d * q }) p.waiting p.timer
        (omega (arith, f.fits.after, mul-le-mul_right q (lows i f.known))) (mul-le-mul_right q (highs i f.known)) (tight r)
    tight (outputs {p} xs x ys r e d h) = tight-output xs x ys p.timer (rw (← e) (tight r))

    -- no time left is above the greatest delay
    left-of : (l : List Wait) (timer : ℕ) → Tight l timer → (x : Wait) → In x l → x.left ≤ high * q
    left-of [] timer s x h = elim h [ ]
    left-of (y ∷ l) timer s x (inl e) = let z : x.left ≡ y.left = ap (λ (v : Wait). v.left) e in omega (arith, s.0)
    left-of (y ∷ l) timer s x (inr m) = left-of l timer s.1 x m

    pub left-most : {p : Play} → Run m q p → (x : Wait) → In x p.waiting → x.left ≤ high * q
    left-most {p} r x h = left-of p.waiting p.timer (tight r) x h

    few-of : (l : List Wait) (timer : ℕ) → 1 ≤ low → 1 ≤ high → 1 ≤ q → Tight l timer → length l * low < high + low
    few-of [] timer a b c s = omega (arith, zero-mul low)
    few-of (x ∷ l) timer a b c s =
        let n : ℕ = length l in
        let e : n * gap ≡ n * low * q + n = mul-suc-one n (low * q) ∙ ap (λ (k : ℕ). k + n) (sym (mul_assoc n low q)) in
        let h : n * low < high = below n low high q b (omega (arith, s.0, e)) in
        omega (arith, suc-mul n low)

    -- at most the ceiling, without a quotient
    pub few : {p : Play} → 1 ≤ low → 1 ≤ high → 1 ≤ q → Run m q p → length p.waiting * low < high + low
    few {p} a b c r = few-of p.waiting p.timer a b c (tight r)

    -- the ceiling of high over low
    pub at_most : {p : Play} → 1 ≤ low → 1 ≤ high → 1 ≤ q → Run m q p → length p.waiting ≤ (high + low - 1) / low
    at_most {p} a b c r = (le-div_iff_mul-le a).1 (omega (arith, few a b c r))
