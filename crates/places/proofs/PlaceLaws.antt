-- Lists in bytes, once for every width w.
use mathlib.Core.Path.{◌≡◌, sym, ap, ◌∙◌}
use mathlib.Core.Logic.{dite}
use mathlib.Core.List.{List, [], ◌++◌}
use Prim.Native.Nat.{ℕ, ◌+◌, ◌*◌, ◌%◌, ◌/◌, min, ◌≤◌, ◌<◌}
use native.Mathlib.Decide.{dec_lt}
use native.Mathlib.Omega.{arith}
use borrow.Author.Tests.{lt-ltb, le-ltb}
use lib.ListN.{length, take, drop}
use lib.Seq.{take_at}
use Rattle.model.specs.Lists.{over}
use Rattle.model.specs.Table.{Transition}
use Rattle.model.specs.Trace.{Handed}
use Rattle.wire.specs.Bytes.{le, taken_by, bytes_by, bytes, placed, wholes}
use Rattle.wire.proofs.Bytes.{length-les, length-bytes, placed-fits, placed-none}
use Rattle.places.specs.Places.{wholes_by, fitted_by, fitted, handed_on, DecodedBy, Decoded}

pub length-wholes : (w : ℕ) (b : List ℕ) → length (wholes w b) ≡ length b / w
length-wholes w b = length-les (le w) w (length b / w) b 0

-- what fits, by its three cases
module _ {A : Type 0} (f : List ℕ → ℕ → A) (room w : ℕ) (b : List ℕ) where
  none-by : 0 < length b % w → fitted_by f room w b ≡ []
  unfolding fitted_by
  none-by h = rw (lt-ltb _ _ h)

  module _ (even : length b % w ≤ 0) where
    long-by : room < length b / w → fitted_by f room w b ≡ []
    unfolding fitted_by
    long-by h = rw (le-ltb _ _ even, lt-ltb _ _ h)

    whole-by : length b / w ≤ room → fitted_by f room w b ≡ wholes_by f w b
    unfolding fitted_by
    whole-by h = rw (le-ltb _ _ even, le-ltb _ _ h)

-- the same of plain numbers
module _ (room w : ℕ) (b : List ℕ) where
  pub rest-none : 0 < length b % w → fitted room w b ≡ []
  rest-none = none-by (le w) room w b

  module _ (even : length b % w ≤ 0) where
    pub long-none : room < length b / w → fitted room w b ≡ []
    long-none = long-by (le w) room w b even

    pub whole-all : length b / w ≤ room → fitted room w b ≡ wholes w b
    whole-all = whole-by (le w) room w b even

-- what the decoding leaves: nothing changed, or the whole list in front
module _ {A : Type 0} (f : List ℕ → ℕ → A) (w : ℕ) (b : List ℕ) (out₀ : List A) where
  decoded-none : fitted_by f (length out₀) w b ≡ [] → DecodedBy f w b out₀ 0 out₀
  decoded-none e = record { count = rw e; few = omega arith; is = rw e }

  pub decoded-rest : 0 < length b % w → DecodedBy f w b out₀ 0 out₀
  decoded-rest h = decoded-none (none-by f (length out₀) w b h)

  pub decoded-long : length b % w ≤ 0 → length out₀ < length b / w → DecodedBy f w b out₀ 0 out₀
  decoded-long e h = decoded-none (long-by f (length out₀) w b e h)

  pub decoded-all : {out : List A} → length b % w ≤ 0 → length b / w ≤ length out₀ → out ≡ taken_by f w b out₀ → DecodedBy f w b out₀ (length b / w) out
  unfolding taken_by
  decoded-all {out} e h t =
      let n : min (length out₀) (length b / w) ≡ length b / w = omega arith in
      let is : out ≡ wholes_by f w b ++ drop (length b / w) out₀ = rw n at t in
      let g = whole-by f (length out₀) w b e h in
      record { count = rw g (sym (length-les f w (length b / w) b 0)); few = h; is = rw g is }

module _ (w : ℕ) (b out₀ : List ℕ) where
  -- two outcomes that the contract allows are equal, count and content
  pub decoded-only : {n m : ℕ} {x y : List ℕ} → Decoded w b out₀ n x → Decoded w b out₀ m y → (n ≡ m) × (x ≡ y)
  decoded-only c d =
      let e = c.count ∙ sym d.count in
      (e, c.is ∙ rw e (sym d.is))

  -- the first n places are what fits
  pub decoded-take : {n : ℕ} {out : List ℕ} → Decoded w b out₀ n out → take n out ≡ fitted (length out₀) w b
  decoded-take {n} d = rw d.is (take_at (fitted (length out₀) w b) (drop n out₀) n (sym d.count))

module _ (w : ℕ) (b : List ℕ) where
  -- what is handed on and not empty is the whole list
  pub record Whole : Type 0 where
    pub even : length b % w ≡ 0
    pub few : length b / w ≤ 512
    pub is : handed_on w b ≡ wholes w b

  pub handed-whole : 1 ≤ length (handed_on w b) → Whole
  handed-whole h =
      dite (dec_lt 0 (length b % w)) (λ r. absurd (omega (arith, ap length (rest-none 512 w b r))))
      (λ e. dite (dec_lt 512 (length b / w)) (λ l. absurd (omega (arith, ap length (long-none 512 w b (omega arith) l))))
      (λ s. record { even = omega arith; few = omega arith; is = whole-all 512 w b (omega arith) (omega arith) }))

  -- a list in bytes of n numbers, 1 to 512, told by what is handed on
  pub handed-count : (n : ℕ) → 1 ≤ n → length (handed_on w b) ≡ n → (length b % w ≡ 0) × (length b / w ≡ n)
  handed-count n h e =
      let p = handed-whole (omega arith) in
      (p.even, omega (arith, ap length p.is, length-wholes w b))

  pub count-handed : (n : ℕ) → n ≤ 512 → (length b % w ≡ 0) × (length b / w ≡ n) → length (handed_on w b) ≡ n
  count-handed n h p = ap length (whole-all 512 w b (omega arith) (omega arith)) ∙ length-wholes w b ∙ p.1

-- a trace in bytes is one exactly if what is handed on is one
module _ (ts : List Transition) (trace : List ℕ) where
  pub trace-whole : Handed ts (handed_on 2 trace) → (length trace % 2 ≡ 0) × Handed ts (wholes 2 trace)
  trace-whole h = let p = handed-whole 2 trace h.some in (p.even, rw p.is at h)

  pub whole-trace : (length trace % 2 ≡ 0) × Handed ts (wholes 2 trace) → Handed ts (handed_on 2 trace)
  whole-trace h = rw (whole-all 512 2 trace (omega arith) (omega (arith, h.1.most, length-wholes 2 trace))) h.1

  pub trace-count : Handed ts (handed_on 2 trace) → length (handed_on 2 trace) ≡ length trace / 2
  trace-count h = ap length (handed-whole 2 trace h.some).is ∙ length-wholes 2 trace

-- the used places written back: xs, of which there are n, from the front of what came back
pub back-over : (w n : ℕ) (xs more l : List ℕ) → length xs ≡ n → n * w ≤ length l → placed l 0 (bytes w (take n (xs ++ more))) ≡ over (bytes w xs) l
back-over w n xs more l e h =
    let b : length (bytes w xs) ≡ n * w = length-bytes w xs ∙ ap (λ (k : ℕ). k * w) e in
    let z : 0 + length (bytes w xs) ≡ length (bytes w xs) = omega arith in
    rw (take_at xs more n e, placed-fits l 0 (bytes w xs) (omega arith), z)

-- none written back: as it was
pub back_none : (w : ℕ) (xs l : List ℕ) → placed l 0 (bytes w (take 0 xs)) ≡ l
unfolding bytes_by
back_none w xs l = placed-none l 0 (omega arith)

-- n numbers of two bytes and k of four, from the front of what a call on values left, written back over l and r
module _ (n k : ℕ) (u v l r : List ℕ) {l' r' : List ℕ} (twos : l' ≡ placed l 0 (bytes 2 (take n u))) (fours : r' ≡ placed r 0 (bytes 4 (take k v))) where
  -- none: both as they were
  pub both-none : n ≡ 0 → k ≡ 0 → (l' ≡ l) × (r' ≡ r)
  both-none e f = ((rw e at twos) ∙ back_none 2 u l, (rw f at fours) ∙ back_none 4 v r)

  -- all that the call wrote over its own places a and b: the same in bytes
  pub both-over : (xs ys a b : List ℕ) → length xs ≡ n → length ys ≡ k → n * 2 ≤ length l → k * 4 ≤ length r → (u ≡ over xs a) × (v ≡ over ys b)
      → (l' ≡ over (bytes 2 xs) l) × (r' ≡ over (bytes 4 ys) r)
  both-over xs ys a b e f g h o = (
    twos ∙ rw o.0 (back-over 2 n xs (drop (length xs) a) l e g),
    fours ∙ rw o.1 (back-over 4 k ys (drop (length ys) b) r f h),
  )
