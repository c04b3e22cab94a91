-- Words laid end to end: one word's places written, and what that leaves of the others.
use mathlib.Core.Path.{◌≡◌, refl, sym, ap, ◌∙◌}
use mathlib.Core.List.{List, [], ◌∷◌, ◌++◌}
use Prim.Native.Nat.{ℕ, suc, ◌+◌, ◌*◌, ◌≤◌, ◌<◌}
use native.Mathlib.Nat.{mul-le-mul_right}
use native.Mathlib.Numerals.{add-one}
use native.Mathlib.Omega.{arith}
use borrow.Author.Count.{below_more}
use lib.ListN.{length, take, drop, set, length-drop, take-append-drop}
use lib.Seq.{take-append-le, drop-append-le, take_at, drop_at, drop-drop, length-take-le, set_split}
use Rattle.night.specs.Night.{part, EachWord}

-- the places of one word more
pub next_fits : (w words n : ℕ) → w < words → w * n + n ≤ words * n
next_fits w words n h = let k : w + 1 ≤ words = omega arith in omega (arith, mul-le-mul_right n k)

pub next-end : (w n : ℕ) → (w + 1) * n ≡ w * n + n
next-end w n = omega arith

pub length_part : (n w : ℕ) (l : List ℕ) → w * n + n ≤ length l → length (part n w l) ≡ n
length_part n w l h = length-take-le n (drop (w * n) l) (omega (arith, length-drop (w * n) l))

part-front : (p q : List ℕ) (n v : ℕ) → v * n + n ≤ length p → part n v (p ++ q) ≡ part n v p
part-front p q n v h =
    rw (drop-append-le (v * n) p q (omega arith)) (take-append-le n (drop (v * n) p) q (omega (arith, length-drop (v * n) p)))

-- new stands at the places of word w
module _ (l new : List ℕ) (n w : ℕ) (fits : w * n + n ≤ length l) (size : length new ≡ n) where
  abbrev pub put : List ℕ
  put = take (w * n) l ++ (new ++ drop n (drop (w * n) l))

  front : length (take (w * n) l) ≡ w * n
  front = length-take-le (w * n) l (omega arith)

  skip : drop (w * n) put ≡ new ++ drop n (drop (w * n) l)
  skip = drop_at (take (w * n) l) (new ++ drop n (drop (w * n) l)) (w * n) front

  put-here : part n w put ≡ new
  put-here = rw skip (take_at new (drop n (drop (w * n) l)) n size)

  put-before : (v : ℕ) → v < w → part n v put ≡ part n v l
  put-before v h =
      let k : v * n + n ≤ length (take (w * n) l) = omega (arith, front, next_fits v w n h) in
      part-front (take (w * n) l) (new ++ drop n (drop (w * n) l)) n v k
      ∙ sym (part-front (take (w * n) l) (drop (w * n) l) n v k)
      ∙ ap (part n v) (take-append-drop (w * n) l)

  put-after : drop ((w + 1) * n) put ≡ drop ((w + 1) * n) l
  put-after =
      rw (next-end w n, ← drop-drop n (w * n) put, ← drop-drop n (w * n) l, skip) (drop_at new (drop n (drop (w * n) l)) n size)

-- what lies beyond w words is as it was, beyond one word more as well
rest_more : (n w : ℕ) (l l₀ : List ℕ) → drop (w * n) l ≡ drop (w * n) l₀ → drop ((w + 1) * n) l ≡ drop ((w + 1) * n) l₀
rest_more n w l l₀ e = rw (next-end w n, ← drop-drop n (w * n) l, ← drop-drop n (w * n) l₀) (ap (drop n) e)

-- a place of the marks written is the part of its word
pub set-put : (l : List ℕ) (x w : ℕ) (fits : w * 1 + 1 ≤ length l) → set l w x ≡ put l (x ∷ []) 1 w fits refl
set-put l x w h = let z : w * 1 ≡ w = omega arith in rw (z, set_split l w x (omega arith), drop-drop 1 w l, add-one w) refl

module _ (a b c : ℕ) (Does : (w : ℕ) (order₀ due₀ order due mark : List ℕ) → Type 0) (o₀ d₀ m₀ : List ℕ) where
  pub none-words : EachWord a b c Does 0 o₀ d₀ m₀ o₀ d₀ m₀
  none-words = record { word = λ w h. absurd (omega arith); order_rest = refl; due_rest = refl; marks_rest = refl }

  module _ (w : ℕ) (o d m o' d' m' : List ℕ) (k : EachWord a b c Does w o₀ d₀ m₀ o d m) (fo : w * a + a ≤ length o)
      (fd : w * b + b ≤ length d) (fm : w * c + c ≤ length m) (so : length o' ≡ a) (sd : length d' ≡ b) (sm : length m' ≡ c) where
    pub one_word : Does w (part a w o) (part b w d) o' d' m'
        → EachWord a b c Does (w + 1) o₀ d₀ m₀ (put o o' a w fo so) (put d d' b w fd sd) (put m m' c w fm sm)
    one_word x =
        let eo : part a w o ≡ part a w o₀ = ap (take a) k.order_rest in
        let ed : part b w d ≡ part b w d₀ = ap (take b) k.due_rest in
        let os : List ℕ = put o o' a w fo so in
        let ds : List ℕ = put d d' b w fd sd in
        let ms : List ℕ = put m m' c w fm sm in
        let s : w + 1 ≡ suc w = add-one w in
        record {
          word = below_more (λ v. Does v (part a v o₀) (part b v d₀) (part a v os) (part b v ds) (part c v ms)) w
              (λ v h. rw (put-before o o' a w fo so v h, put-before d d' b w fd sd v h, put-before m m' c w fm sm v h) (k.word v h))
              (rw (put-here o o' a w fo so, put-here d d' b w fd sd, put-here m m' c w fm sm, ← eo, ← ed) x);
          order_rest = put-after o o' a w fo so ∙ rest_more a w o o₀ k.order_rest;
          due_rest = put-after d d' b w fd sd ∙ rest_more b w d d₀ k.due_rest;
          marks_rest = put-after m m' c w fm sm ∙ rest_more c w m m₀ k.marks_rest;
        }
