-- A part of the places by itself, and written anew.
use mathlib.Core.Path.{◌≡◌, refl, sym, ap, ◌∙◌}
use mathlib.Core.List.{List, [], ◌++◌}
use Prim.Native.Nat.{ℕ, suc, ◌+◌, ◌*◌, ◌/◌, ◌≤◌, ◌<◌}
use native.Mathlib.Nat.{mul-div_cancel}
use native.Mathlib.Omega.{arith}
use lib.ListN.{length, take, drop, length-take, length-drop}
use Rattle.wire.specs.Bytes.{wholes}
use Rattle.parts.specs.Parts.{left_over}
use Rattle.parts.proofs.WholeLaws.{wholes_long, les-take, cut_fits, front-places, back-places, made-places, made-rest}

module _ {A : Type 0} where
  pub plain_fits : (m : List A) (k : ℕ) → k ≤ length m → k * 1 ≤ length m
  plain_fits m k h = omega arith

  pub plain_counts : (m : List A) (n : ℕ) → length m ≡ n * 1 → length m ≡ n
  plain_counts m n e = omega arith

  pub plain_part : (m : List A) (k n : ℕ) → k + n ≤ length m → take (n * 1) (drop (k * 1) m) ≡ take n (drop k m)
  plain_part m k n h =
      let e : n * 1 ≡ n = omega arith in
      let f : k * 1 ≡ k = omega arith in
      rw (e, f)

  pub plain_back : (m x : List A) (k n : ℕ) → k + n ≤ length m → length x ≡ n * 1
      → (take (k * 1) m ++ (x ++ drop ((k + n) * 1) m) ≡ take k m ++ (x ++ drop (k + n) m)) × (◌≡◌ {A = List A} [] [])
  plain_back m x k n h e =
      let f : k * 1 ≡ k = omega arith in
      let g : (k + n) * 1 ≡ k + n = omega arith in
      (rw (f, g), refl)

-- of suc p bytes each
module _ (p : ℕ) where
  abbrev w : ℕ
  w = suc p

  -- as many numbers as their bytes make
  count : (n : ℕ) (x : List ℕ) → length x ≡ n * w → length x / w ≡ n
  count n x e = rw e (mul-div_cancel n (omega arith))

  pub bytes_fits : (m : List ℕ) (k : ℕ) → k ≤ length (wholes w m) → k * w ≤ length m
  bytes_fits m k h = cut_fits w (omega arith) m k (omega (arith, wholes_long w m))

  pub bytes_counts : (m : List ℕ) (n : ℕ) → length m ≡ n * w → length (wholes w m) ≡ n
  bytes_counts m n e = wholes_long w m ∙ count n m e

  pub bytes_part : (m : List ℕ) (k n : ℕ) → k + n ≤ length (wholes w m) → wholes w (take (n * w) (drop (k * w) m)) ≡ take n (drop k (wholes w m))
  bytes_part m k n h =
      let some : 0 < w = omega arith in
      let own : List ℕ = drop (k * w) m in
      let after : wholes w own ≡ drop k (wholes w m) = back-places w some m k (omega (arith, wholes_long w m)) in
      let many : n ≤ length own / w = omega (arith, sym (wholes_long w own) ∙ ap length after ∙ length-drop k (wholes w m)) in
      let room : n * w ≤ length own = cut_fits w some own n many in
      let long : length (take (n * w) own) ≡ n * w = length-take (n * w) own ∙ omega arith in
      let c = count n (take (n * w) own) long in
      rw c (les-take w n own (n * w) 0 (omega arith) ∙ front-places w some own n many ∙ rw after)

  pub bytes_back : (m x : List ℕ) (k n : ℕ) → k + n ≤ length (wholes w m) → length x ≡ n * w
      → (wholes w (take (k * w) m ++ (x ++ drop ((k + n) * w) m)) ≡ take k (wholes w m) ++ (wholes w x ++ drop (k + n) (wholes w m)))
      × (left_over w (take (k * w) m ++ (x ++ drop ((k + n) * w) m)) ≡ left_over w m)
  bytes_back m x k n h e =
      let some : 0 < w = omega arith in
      let room : k + n ≤ length m / w = omega (arith, wholes_long w m) in
      let c = count n x e in
      (rw c (made-places w some m k n room x e refl), made-rest w some m k n room x e refl)
