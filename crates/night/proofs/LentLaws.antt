-- A part of a list that is lent, and given back.
use mathlib.Core.Path.{◌≡◌, sym, ◌∙◌}
use mathlib.Core.List.{List, ◌++◌}
use Prim.Native.Nat.{ℕ, ◌+◌, ◌*◌, ◌-◌, ◌≤◌}
use native.Mathlib.Nat.{mul-le-mul_left}
use native.Mathlib.Omega.{arith}
use lib.ListN.{length, take, drop, length-take, length-drop}
use lib.Seq.{drop-drop}
use Rattle.model.specs.Answers.{Fields}
use Rattle.table.specs.declared.Row.{Row}
use Rattle.replay.specs.Laid.{WordRun}
use Rattle.night.proofs.NightLaws.{Playing}

pub grows : (k s : ℕ) → 1 ≤ s → k ≤ k * s
grows k s h = let m : k * 1 ≤ k * s = mul-le-mul_left k h in omega arith

module _ {C : Type 0} {B : Type 0} (list : List C → List ℕ) (beside : List C → B) (s : ℕ)
    (fits : (m : List C) (k : ℕ) → k ≤ length (list m) → k * s ≤ length m)
    (counts : (m : List C) (n : ℕ) → length m ≡ n * s → length (list m) ≡ n)
    (part : (m : List C) (k n : ℕ) → k + n ≤ length (list m) → list (take (n * s) (drop (k * s) m)) ≡ take n (drop k (list m)))
    (back : (m x : List C) (k n : ℕ) → k + n ≤ length (list m) → length x ≡ n * s
    → (list (take (k * s) m ++ (x ++ drop ((k + n) * s) m)) ≡ take k (list m) ++ (list x ++ drop (k + n) (list m)))
    × (beside (take (k * s) m ++ (x ++ drop ((k + n) * s) m)) ≡ beside m))
    (m : List C) (k n : ℕ) (h : k + n ≤ length (list m)) {a b : ℕ} (ea : a ≡ k * s) (eb : b ≡ (k + n) * s) where
  wide : (k + n) * s - k * s ≡ n * s
  wide = omega arith

  one : k + n - k ≡ n
  one = omega arith

  pub lent_list : list (take (b - a) (drop a m)) ≡ take (k + n - k) (drop k (list m))
  lent_list = rw (ea, eb, wide, one) (part m k n h)

  module _ (x : List C) (e : length x ≡ length (take (b - a) (drop a m))) where
    size : length x ≡ n * s
    size =
        let f : (k + n) * s ≤ length m = fits m (k + n) h in
        (rw (ea, eb, wide) at e) ∙ length-take (n * s) (drop (k * s) m) ∙ rw (length-drop (k * s) m) (omega arith)

    pub lent_count : length (list x) ≡ length (take (k + n - k) (drop k (list m)))
    lent_count = counts x n size ∙ rw one (sym (length-take n (drop k (list m)) ∙ rw (length-drop k (list m)) (omega arith)))

    pub given_list : list (take a m ++ (x ++ drop (b - a) (drop a m))) ≡ take k (list m) ++ (list x ++ drop (k + n - k) (drop k (list m)))
    given_list =
        let j : k * s + n * s ≡ (k + n) * s = omega arith in
        rw (ea, eb, wide, one, drop-drop (n * s) (k * s) m, drop-drop n k (list m), j) (back m x k n h size).0

    pub given_beside : beside (take a m ++ (x ++ drop (b - a) (drop a m))) ≡ beside m
    given_beside =
        let j : k * s + n * s ≡ (k + n) * s = omega arith in
        rw (ea, eb, wide, drop-drop (n * s) (k * s) m, j) (back m x k n h size).1

-- the same facts of equal lists
pub playing-same : {c : List Row} {trace starts stamps o₀ d₀ m₀ o d m o' d' m' : List ℕ} {at at' w : ℕ} → Playing c trace starts stamps o₀ d₀ m₀ o' d' m' at' w
    → o ≡ o' → d ≡ d' → m ≡ m' → at ≡ at' → Playing c trace starts stamps o₀ d₀ m₀ o d m at w
playing-same p a b e f = rw (a, b, e, f) p

pub run-same : {c : List Row} {trace : List ℕ} {st st' : ℕ} {s s' o d o' d' : List ℕ} {f : Fields} {x y : List ℕ} → WordRun c trace st s o d f x y
    → st ≡ st' → s ≡ s' → o ≡ o' → d ≡ d' → WordRun c trace st' s' o' d' f x y
run-same r a b e f = rw (a, b, e, f) at r
