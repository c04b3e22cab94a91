-- The places of a byte buffer, once for every width w: what is read in one, and what a store in one leaves.
use mathlib.Core.Path.{◌≡◌, refl, sym, ap, ◌∙◌}
use mathlib.Core.List.{List, [], ◌++◌, append_assoc, append-nil}
use Prim.Native.Nat.{ℕ, zero, suc, ◌+◌, ◌*◌, ◌-◌, ◌/◌, ◌^◌, ◌≤◌, ◌<◌}
use native.Mathlib.Nat.{mul-le-mul_right, div-mul-le_self, add-mul-div_right}
use native.Mathlib.Numerals.{add-one}
use native.Mathlib.Omega.{arith}
use lib.ListN.{length, take, drop, get_or, set, length-append, take-append-drop}
use lib.Seq.{length-take-le, take_at, drop_at, drop-drop, set_split}
use Rattle.wire.specs.Bytes.{le, digits, bytes, Bytes, les, wholes}
use Rattle.wire.proofs.Bytes.{length_digits, length-bytes, bytes-append, le-take, le-drop, le-digits, les-front, length-les}
use Rattle.parts.specs.Parts.{left_over}

-- as many places as there are whole ones
pub wholes_long : (w : ℕ) (b : List ℕ) → length (wholes w b) ≡ length b / w
wholes_long w b = length-les (le w) w (length b / w) b 0

-- x in place i of w bytes, and no other byte changed
pub record Stored (w : ℕ) (b₀ : List ℕ) (i x : ℕ) (b : List ℕ) : Type 0 where
  pub is : wholes w b ≡ set (wholes w b₀) i x
  pub rest : left_over w b ≡ left_over w b₀

module _ (w : ℕ) where
  les-at : (n : ℕ) (l : List ℕ) (k q : ℕ) → q < n → get_or (les w n l k) q 0 ≡ le w l (k + q * w)
  les-at zero l k q h = absurd (omega arith)
  les-at (suc n) l k zero h = let e : k + 0 * w ≡ k = omega arith in rw e
  les-at (suc n) l k (suc q) h = let e : k + suc q * w ≡ k + w + q * w = omega arith in rw e (les-at n l (k + w) q (omega arith))

  -- the number in place q
  pub whole-at : (b : List ℕ) (q : ℕ) → q < length (wholes w b) → get_or (wholes w b) q 0 ≡ le w b (q * w)
  whole-at b q h = let e : 0 + q * w ≡ q * w = omega arith in rw e at (les-at (length b / w) b 0 q (omega (arith, wholes_long w b)))

  -- the whole places and what follows them are all
  pub whole-bytes : (b : List ℕ) → Bytes b → bytes w (wholes w b) ++ left_over w b ≡ b
  whole-bytes b f = les-front w (length b / w) b f (div-mul-le_self (length b) w)

  -- so two buffers that agree in both are equal
  pub same_bytes : {b b' : List ℕ} → Bytes b → Bytes b' → wholes w b ≡ wholes w b' → left_over w b ≡ left_over w b' → b ≡ b'
  same_bytes {b} {b'} f g e r = sym (whole-bytes b f) ∙ rw (e, r) (whole-bytes b' g)

  -- and one that differs in its first places alone: their bytes, then what stood there
  pub over-bytes : (b b₀ : List ℕ) → Bytes b → Bytes b₀ → (n : ℕ) (xs : List ℕ) → length xs ≡ n → n ≤ length b₀ / w
      → wholes w b ≡ xs ++ drop n (wholes w b₀) → left_over w b ≡ left_over w b₀ → b ≡ bytes w xs ++ drop (w * n) b₀
  over-bytes b b₀ f g n xs l h e r =
      let all : List ℕ = wholes w b₀ in
      let more : List ℕ = bytes w (drop n all) ++ left_over w b₀ in
      let front : length (bytes w (take n all)) ≡ w * n =
      length-bytes w (take n all) ∙ ap (λ (k : ℕ). k * w) (length-take-le n all (omega (arith, wholes_long w b₀))) ∙ omega arith in
      let split : bytes w (take n all) ++ more ≡ b₀ =
      sym (append_assoc (bytes w (take n all)) (bytes w (drop n all)) (left_over w b₀))
      ∙ rw (← bytes-append w (take n all) (drop n all), take-append-drop n all) (whole-bytes b₀ g) in
      let after : drop (w * n) b₀ ≡ more = rw split at (drop_at (bytes w (take n all)) more (w * n) front) in
      sym (whole-bytes b f) ∙ rw (e, r, bytes-append w xs (drop n all), after) (append_assoc (bytes w xs) (bytes w (drop n all)) (left_over w b₀))

  les-two : (m n : ℕ) (l : List ℕ) (k : ℕ) → les w (m + n) l k ≡ les w m l k ++ les w n l (k + m * w)
  les-two zero n l k =
      let e : 0 + n ≡ n = omega arith in
      let f : k + 0 * w ≡ k = omega arith in
      rw (e, f)
  les-two (suc m) n l k =
      let e : suc m + n ≡ suc (m + n) = omega arith in
      let f : k + suc m * w ≡ k + w + m * w = omega arith in
      rw (e, f, les-two m n l (k + w))

  les-drop : (n : ℕ) (l : List ℕ) (k j i : ℕ) → i ≡ k + j → les w n (drop k l) j ≡ les w n l i
  les-drop zero l k j i e = refl
  les-drop (suc n) l k j i e = rw (le-drop w l k j i e, les-drop n l k (j + w) (i + w) (omega arith))

  pub les-take : (n : ℕ) (l : List ℕ) (j k : ℕ) → k + n * w ≤ j → les w n (take j l) k ≡ les w n l k
  les-take zero l j k h = refl
  les-take (suc n) l j k h =
      let e : suc n * w ≡ n * w + w = omega arith in
      rw (le-take w l j k (omega arith), les-take n l j (k + w) (omega arith))

  -- m whole places in front: they and the places after them are all, and what is left over is left over of the rest
  module _ (some : 0 < w) (x y : List ℕ) (m : ℕ) (is : length x ≡ m * w) where
    count : length (x ++ y) / w ≡ m + length y / w
    count =
        let e : length (x ++ y) ≡ length y + m * w = length-append x y ∙ omega (arith, is) in
        rw e (add-mul-div_right (length y) m some ∙ omega arith)

    wholes-append : wholes w (x ++ y) ≡ les w m x 0 ++ wholes w y
    wholes-append =
        let n : ℕ = length y / w in
        let front : les w m (x ++ y) 0 ≡ les w m x 0 =
        sym (les-take m (x ++ y) (m * w) 0 (omega arith)) ∙ rw (take_at x y (m * w) is) in
        let back : les w n (x ++ y) (0 + m * w) ≡ les w n y 0 =
        sym (les-drop n (x ++ y) (m * w) 0 (0 + m * w) (omega arith)) ∙ rw (drop_at x y (m * w) is) in
        rw count (les-two m n (x ++ y) 0 ∙ rw (front, back))

    rest-append : left_over w (x ++ y) ≡ left_over w y
    rest-append =
        let n : ℕ = length y / w in
        let e : (m + n) * w ≡ m * w + n * w = omega arith in
        rw (count, e) (sym (drop-drop (n * w) (m * w) (x ++ y)) ∙ ap (drop (n * w)) (drop_at x y (m * w) is))

  -- a buffer cut behind k places
  module _ (some : 0 < w) (b : List ℕ) (k : ℕ) (h : k ≤ length b / w) where
    pub cut_fits : k * w ≤ length b
    cut_fits = omega (arith, mul-le-mul_right w h, div-mul-le_self (length b) w)

    cut : length (take (k * w) b) ≡ k * w
    cut = length-take-le (k * w) b cut_fits

    parts : wholes w b ≡ les w k b 0 ++ wholes w (drop (k * w) b)
    parts =
        rw (les-take k b (k * w) 0 (omega arith), take-append-drop (k * w) b)
        at (wholes-append some (take (k * w) b) (drop (k * w) b) k cut)

    pub front-places : les w k b 0 ≡ take k (wholes w b)
    front-places = rw parts (sym (take_at (les w k b 0) (wholes w (drop (k * w) b)) k (length-les (le w) w k b 0)))

    pub back-places : wholes w (drop (k * w) b) ≡ drop k (wholes w b)
    back-places = rw parts (sym (drop_at (les w k b 0) (wholes w (drop (k * w) b)) k (length-les (le w) w k b 0)))

    pub back-rest : left_over w (drop (k * w) b) ≡ left_over w b
    back-rest = rw (take-append-drop (k * w) b) at (sym (rest-append some (take (k * w) b) (drop (k * w) b) k cut))

  -- n places' bytes new after the first k: the places around them are as they were
  module _ (some : 0 < w) (b : List ℕ) (k n : ℕ) (h : k + n ≤ length b / w) (new : List ℕ) (size : length new ≡ n * w) {now : List ℕ}
      (made : now ≡ take (k * w) b ++ (new ++ drop ((k + n) * w) b)) where
    pub made-places : wholes w now ≡ take k (wholes w b) ++ (les w n new 0 ++ drop (k + n) (wholes w b))
    made-places =
        let f : k ≤ length b / w = omega arith in
        made-is ∙ rw (front-places some b k f, back-places some b (k + n) h)
      where
        made-is : wholes w now ≡ les w k b 0 ++ (les w n new 0 ++ wholes w (drop ((k + n) * w) b))
        made-is =
            rw (made, ← les-take k b (k * w) 0 (omega arith), ← wholes-append some new (drop ((k + n) * w) b) n size)
            (wholes-append some (take (k * w) b) (new ++ drop ((k + n) * w) b) k (cut some b k (omega arith)))

    pub made-rest : left_over w now ≡ left_over w b
    made-rest =
        rw made
        (rest-append some (take (k * w) b) (new ++ drop ((k + n) * w) b) k (cut some b k (omega arith))
        ∙ rest-append some new (drop ((k + n) * w) b) n size
        ∙ back-rest some b (k + n) h)

  -- the bytes of one place, lent out and written
  pub part-stored : (b : List ℕ) (p x : ℕ) → 0 < w → p < length (wholes w b) → x < 256 ^ w → {new : List ℕ} → new ≡ digits w x
      → Stored w b p x (take (p * w) b ++ (new ++ drop (p * w + w - p * w) (drop (p * w) b)))
  part-stored b p x some h f {new} is =
      let z : p * w + w - p * w ≡ w = omega arith in
      let s : p * w + w ≡ (p + 1) * w = omega arith in
      let n : p + 1 ≤ length b / w = omega (arith, wholes_long w b) in
      let made : take (p * w) b ++ (new ++ drop (p * w + w - p * w) (drop (p * w) b)) ≡ take (p * w) b ++ (new ++ drop ((p + 1) * w) b) =
      rw (z, drop-drop w (p * w) b, s) in
      let long : length new ≡ 1 * w = rw is (length_digits w x ∙ omega arith) in
      let one : le w new 0 ≡ x = rw (is, ← append-nil (digits w x)) (le-digits w x [] f) in
      record {
        is = made-places some b p 1 n new long made ∙ rw (one, add-one p) (sym (set_split (wholes w b) p x h));
        rest = made-rest some b p 1 n new long made;
      }
