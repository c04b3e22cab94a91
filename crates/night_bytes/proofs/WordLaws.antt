-- The bytes of one word's places: they are those of its numbers, and what lies beyond the words is as it was where the numbers beyond them are.
use mathlib.Core.Path.{◌≡◌, sym, ap, ◌∙◌}
use mathlib.Core.Logic.{dite}
use mathlib.Core.List.{List, [], ◌∷◌, append-nil}
use Prim.Native.Nat.{ℕ, suc, ◌+◌, ◌*◌, ◌/◌, ◌≤◌, ◌<◌}
use native.Mathlib.Decide.{dec_lt}
use native.Mathlib.Nat.{mul_assoc, mul-div_cancel}
use native.Mathlib.Omega.{arith}
use lib.ListN.{length, drop, length-take, get_or-eq_default}
use lib.Seq.{drop-length, get_or-take}
use Rattle.wire.specs.Bytes.{Bytes, bytes, wholes}
use Rattle.wire.proofs.Bytes.{bytes_drop}
use Rattle.parts.specs.Parts.{left_over}
use Rattle.parts.proofs.WholeLaws.{wholes_long, whole-bytes, same_bytes, back-places, back-rest}
use Rattle.parts.proofs.PartLaws.{bytes_fits, bytes_part}
use Rattle.night.specs.Night.{part}
use Rattle.night.proofs.PartLaws.{length_part}

-- a part of bytes is bytes
pub bytes-part : (n w : ℕ) (l : List ℕ) → Bytes l → Bytes (part n w l)
bytes-part n w l b i =
    dite (dec_lt i n) (λ h. rw (get_or-take n (drop (w * n) l) i 0 h) (bytes_drop (w * n) l b i))
    (λ h.
    let past : length (part n w l) ≤ i = omega (arith, length-take n (drop (w * n) l)) in
    omega (arith, get_or-eq_default (part n w l) 0 past))

-- places of suc p bytes
module _ (p : ℕ) where
  abbrev w : ℕ
  w = suc p

  -- whole places leave nothing over
  no-rest : (n : ℕ) (x : List ℕ) → length x ≡ n * w → left_over w x ≡ []
  no-rest n x e =
      let z : length x / w * w ≡ length x = rw e (ap (λ (k : ℕ). k * w) (mul-div_cancel n (omega arith))) in
      rw z (drop-length x)

  module _ (n k : ℕ) (b : List ℕ) (h : k * n + n ≤ length (wholes w b)) where
    ends : k * (n * w) + n * w ≤ length b
    ends = omega (arith, mul_assoc k n w, bytes_fits p b (k * n + n) h)

    pub part-long : length (part (n * w) k b) ≡ n * w
    part-long = length_part (n * w) k b ends

    pub part-wholes : wholes w (part (n * w) k b) ≡ part n k (wholes w b)
    part-wholes = rw (← mul_assoc k n w) (bytes_part p b (k * n) n h)

    pub part-rest : left_over w (part (n * w) k b) ≡ []
    part-rest = no-rest n (part (n * w) k b) part-long

  -- one place, by its number
  pub part-one : (k x : ℕ) (b : List ℕ) → Bytes b → k < length (wholes w b) → part 1 k (wholes w b) ≡ x ∷ [] → part w k b ≡ bytes w (x ∷ [])
  part-one k x b f h e =
      let one : 1 * w ≡ w = omega arith in
      let room : k * 1 + 1 ≤ length (wholes w b) = omega arith in
      let whole : wholes w (part w k b) ≡ x ∷ [] = (rw one at (part-wholes 1 k b room)) ∙ e in
      let rest : left_over w (part w k b) ≡ [] = rw one at (part-rest 1 k b room) in
      sym (whole-bytes w (part w k b) (bytes-part w k b f)) ∙ rw (whole, rest) (append-nil (bytes w (x ∷ [])))

  -- beyond k places
  pub beyond : (k : ℕ) (b b₀ : List ℕ) → Bytes b → Bytes b₀ → k ≤ length (wholes w b) → k ≤ length (wholes w b₀)
      → drop k (wholes w b) ≡ drop k (wholes w b₀) → left_over w b ≡ left_over w b₀ → drop (k * w) b ≡ drop (k * w) b₀
  beyond k b b₀ f f₀ h h₀ e r =
      let some : 0 < w = omega arith in
      let i : k ≤ length b / w = omega (arith, wholes_long w b) in
      let j : k ≤ length b₀ / w = omega (arith, wholes_long w b₀) in
      same_bytes w (bytes_drop (k * w) b f) (bytes_drop (k * w) b₀ f₀)
      (back-places w some b k i ∙ e ∙ sym (back-places w some b₀ k j))
      (back-rest w some b k i ∙ r ∙ sym (back-rest w some b₀ k j))
