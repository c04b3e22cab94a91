-- The reader's tests of one record, as the code makes them.
use Rattle.std.specs.Prelude.{Some, None, Ok, Err}
use mathlib.Core.Path.{◌≡◌, refl, sym, ◌∙◌}
use mathlib.Core.Bool.{Bool, true, false}
use mathlib.Core.List.{List}
use mathlib.Core.Logic.{dite}
use Prim.Native.Nat.{ℕ, ◌+◌, ◌-◌, ◌≤◌, ◌<◌}
use native.Mathlib.Omega.{arith}
use native.Mathlib.Decide.{dec_lt, ℕ_discrete}
use borrow.Author.Tests.{lt-ltb, le-ltb, le-leb, lt-leb, eq-eqb, ne_eqb}
use lib.Dec.{eqb}
use lib.ListN.{length, take, drop, length-drop}
use Rattle.std.proofs.Math.Bool.{and-false}
use lib.Seq.{drop-drop}
use Rattle.model.specs.Table.{Transition}
use Rattle.wire.specs.Bytes.{le, Bytes}
use Rattle.wire.proofs.Bytes.{le-drop, le-halves}
use Rattle.table.specs.declared.Refusal.{Refusal}
use Rattle.table.specs.declared.Refusal.TheVariants.{Cut, Misplaced}
use Rattle.table.specs.declared.Row.{Row}
use Rattle.table.specs.Refusal.{passing}
use Rattle.table.specs.Rows.{said}
use Rattle.table.specs.Check.{head_fine, same}
use Rattle.table.specs.Seen.{mix_of, key_of}
use Rattle.table.proofs.RangeLaws.{same_true, same_not}
use Rattle.table_file.specs.File.{Frame, Opening, length_in, kind_in, body_in, whole, row_in, frame_in, opened_in, head_in, finish_of}

module _ (n : ℕ) (rest : List ℕ) where
  pub whole-other : (length_in rest ≡ n → ⊥) → whole n rest ≡ false
  unfolding whole
  whole-other h = rw (ne_eqb (length_in rest) n h)

  pub whole-cut : length rest < 2 + n → whole n rest ≡ false
  unfolding whole
  whole-cut h = rw (lt-leb (2 + n) (length rest) h) (and-false (eqb (length_in rest) n))

  pub whole-yes : length_in rest ≡ n → 2 + n ≤ length rest → whole n rest ≡ true
  unfolding whole
  whole-yes e h = rw (eq-eqb (length_in rest) n e, le-leb (2 + n) (length rest) h)

module _ (l : List ℕ) where
  pub head-short : length l < 4 → Err (Cut 0) ≡ head_in l
  unfolding head_in
  head-short h = rw (lt-ltb (length l) 4 h)

  pub head-other : 4 ≤ length l → (kind_in l ≡ 1 → ⊥) → Err (Misplaced 0) ≡ head_in l
  unfolding head_in
  head-other h k = rw (le-ltb (length l) 4 h, ne_eqb (kind_in l) 1 k)

  pub head-cut : 4 ≤ length l → kind_in l ≡ 1 → whole 6 l ≡ false → Err (Cut 0) ≡ head_in l
  unfolding head_in
  head-cut h k w = rw (le-ltb (length l) 4 h, eq-eqb (kind_in l) 1 k, w)

  pub head-whole : 4 ≤ length l → kind_in l ≡ 1 → whole 6 l ≡ true → opened_in (body_in 4 l) ≡ head_in l
  unfolding head_in
  head-whole h k w = rw (le-ltb (length l) 4 h, eq-eqb (kind_in l) 1 k, w)

module _ (at : ℕ) (rest : List ℕ) where
  pub frame-short : length rest < 4 → Err (Cut at) ≡ frame_in at rest
  unfolding frame_in
  frame-short h = rw (lt-ltb (length rest) 4 h)

  pub frame-cut : 4 ≤ length rest → kind_in rest ≡ 2 → whole 16 rest ≡ false → Err (Cut at) ≡ frame_in at rest
  unfolding frame_in
  frame-cut h k w = rw (le-ltb (length rest) 4 h, eq-eqb (kind_in rest) 2 k, w)

  pub frame_row : 4 ≤ length rest → kind_in rest ≡ 2 → whole 16 rest ≡ true → Ok (Some (row_in (body_in 14 rest))) ≡ frame_in at rest
  unfolding frame_in
  frame_row h k w = rw (le-ltb (length rest) 4 h, eq-eqb (kind_in rest) 2 k, w)

  pub frame-other : 4 ≤ length rest → (kind_in rest ≡ 2 → ⊥) → (kind_in rest ≡ 3 → ⊥) → Err (Misplaced at) ≡ frame_in at rest
  unfolding frame_in
  frame-other h k e = rw (le-ltb (length rest) 4 h, ne_eqb (kind_in rest) 2 k, ne_eqb (kind_in rest) 3 e)

  pub frame-end-cut : 4 ≤ length rest → kind_in rest ≡ 3 → whole 2 rest ≡ false → Err (Cut at) ≡ frame_in at rest
  unfolding frame_in
  frame-end-cut h k w = rw (le-ltb (length rest) 4 h, ne_eqb (kind_in rest) 2 (λ e. omega arith), eq-eqb (kind_in rest) 3 k, w)

  pub frame-end : 4 ≤ length rest → kind_in rest ≡ 3 → whole 2 rest ≡ true → Ok None ≡ frame_in at rest
  unfolding frame_in
  frame-end h k w = rw (le-ltb (length rest) 4 h, ne_eqb (kind_in rest) 2 (λ e. omega arith), eq-eqb (kind_in rest) 3 k, w)

  pub finish-more : 4 < length rest → Err (Misplaced (at + 4)) ≡ finish_of at rest
  finish-more h = rw (lt-ltb 4 (length rest) h)

  pub finish-last : length rest ≤ 4 → passing ≡ finish_of at rest
  finish-last h = rw (le-ltb 4 (length rest) h)

-- the two numbers that were read at an offset, and what is left of the file there
pub record Begun (l : List ℕ) (at kind size : ℕ) : Type 0 where
  pub left : length (drop at l) ≡ length l - at
  pub kind_is : kind_in (drop at l) ≡ kind
  pub size_is : length_in (drop at l) ≡ size

module _ (l : List ℕ) (at : ℕ) where
  pub begun : {kind size : ℕ} → kind ≡ le 2 l (at + 2) → size ≡ le 2 l at → Begun l at kind size
  begun k s = record {
    left = length-drop at l;
    kind_is = le-drop 2 l at 2 (at + 2) refl ∙ sym k;
    size_is = le-drop 2 l at 0 at (omega arith) ∙ sym s;
  }

  pub left_body : (e : ℕ) → e ≡ at + 18 → take (e - (at + 4)) (drop (at + 4) l) ≡ body_in 14 (drop at l)
  left_body e q = let n : e - (at + 4) ≡ 14 = omega arith in rw (n, drop-drop 4 at l)

-- the key of a body by four numbers
pub body-key : (body : List ℕ) → mix_of (le 4 body 0) (le 4 body 4) (le 4 body 8) (le 2 body 12) ≡ key_of (said (row_in body))
body-key body = rw (le-halves body 0, le-halves body 4, le-halves body 8)

-- two bodies do not hold one transition if they differ in a number of it
pub body-not : (number : Transition → ℕ) (a b : List ℕ) {x y : ℕ} → x ≡ number (said (row_in a)) → y ≡ number (said (row_in b)) → (x ≡ y → ⊥)
    → false ≡ same (said (row_in a)) (said (row_in b))
body-not number a b p q h = same_not number (said (row_in a)) (said (row_in b)) (λ e. h (p ∙ e ∙ sym q))

-- they do if these numbers agree
pub body_same : (a b : List ℕ) → Bytes a → Bytes b → le 4 a 0 ≡ le 4 b 0 → le 4 a 4 ≡ le 4 b 4 → le 4 a 8 ≡ le 4 b 8 → le 2 a 12 ≡ le 2 b 12
    → true ≡ same (said (row_in a)) (said (row_in b))
body_same a b p q e f g h =
    let x = halves 0 e in
    let y = halves 4 f in
    let z = halves 8 g in
    sym ((same_true (said (row_in a)) (said (row_in b))).1 (rw (x.0, x.1, y.0, y.1, z.0, z.1, h)))
  where
    halves : (k : ℕ) → le 4 a k ≡ le 4 b k → (le 2 a k ≡ le 2 b k) × (le 2 a (k + 2) ≡ le 2 b (k + 2))
    halves k e = omega (arith, le-halves a k, le-halves b k, p k, p (k + 1), q k, q (k + 1), e)

-- what the record must have been, given the answer
pub data FrameSays (rest : List ℕ) : Frame → Type 0 where
  says_bad : {r : Refusal} → FrameSays rest (Err r)
  says_took : 18 ≤ length rest → length_in rest ≡ 16 → kind_in rest ≡ 2 → FrameSays rest (Ok (Some (row_in (body_in 14 rest))))
  says_last : 4 ≤ length rest → length_in rest ≡ 2 → kind_in rest ≡ 3 → FrameSays rest (Ok None)

pub frame-says : (at : ℕ) (rest : List ℕ) → FrameSays rest (frame_in at rest)
frame-says at rest = dite (dec_lt (length rest) 4) (λ h. rw (← frame-short at rest h) says_bad) (λ n. by_kind (omega arith) (ℕ_discrete (kind_in rest) 2))
  where
    by_row : 4 ≤ length rest → kind_in rest ≡ 2 → Dec (length_in rest ≡ 16) → FrameSays rest (frame_in at rest)
    by_row h k (no s) = rw (← frame-cut at rest h k (whole-other 16 rest s)) says_bad
    by_row h k (yes s) =
        dite (dec_lt (length rest) 18) (λ l. rw (← frame-cut at rest h k (whole-cut 16 rest l)) says_bad)
        (λ l. rw (← frame_row at rest h k (whole-yes 16 rest s (omega arith))) (says_took (omega arith) s k))

    by_end : 4 ≤ length rest → kind_in rest ≡ 3 → Dec (length_in rest ≡ 2) → FrameSays rest (frame_in at rest)
    by_end h k (no s) = rw (← frame-end-cut at rest h k (whole-other 2 rest s)) says_bad
    by_end h k (yes s) = rw (← frame-end at rest h k (whole-yes 2 rest s h)) (says_last h s k)

    by-other : 4 ≤ length rest → (kind_in rest ≡ 2 → ⊥) → Dec (kind_in rest ≡ 3) → FrameSays rest (frame_in at rest)
    by-other h k (no e) = rw (← frame-other at rest h k e) says_bad
    by-other h k (yes e) = by_end h e (ℕ_discrete (length_in rest) 2)

    by_kind : 4 ≤ length rest → Dec (kind_in rest ≡ 2) → FrameSays rest (frame_in at rest)
    by_kind h (yes k) = by_row h k (ℕ_discrete (length_in rest) 16)
    by_kind h (no k) = by-other h k (ℕ_discrete (kind_in rest) 3)

pub record RowSays (rest : List ℕ) (r : Row) : Type 0 where
  pub long : 18 ≤ length rest
  pub size : length_in rest ≡ 16
  pub kind : kind_in rest ≡ 2
  pub is : r ≡ row_in (body_in 14 rest)

pub took-says : (at : ℕ) (rest : List ℕ) (r : Row) → frame_in at rest ≡ Ok (Some r) → RowSays rest r
took-says at rest r e = by (rw e at (frame-says at rest))
  where
    by : {x : Row} → FrameSays rest (Ok (Some x)) → RowSays rest x
    by (says_took l s k) = record { long = l; size = s; kind = k; is = refl }

pub record EndSays (rest : List ℕ) : Type 0 where
  pub long : 4 ≤ length rest
  pub size : length_in rest ≡ 2
  pub kind : kind_in rest ≡ 3

pub last_says : (at : ℕ) (rest : List ℕ) → frame_in at rest ≡ Ok None → EndSays rest
last_says at rest e = by (rw e at (frame-says at rest))
  where
    by : FrameSays rest (Ok None) → EndSays rest
    by (says_last l s k) = record { long = l; size = s; kind = k }

-- the same of the head
pub record HeadSays (l : List ℕ) (states initial : ℕ) : Type 0 where
  pub long : 8 ≤ length l
  pub size : length_in l ≡ 6
  pub kind : kind_in l ≡ 1
  pub states_is : states ≡ le 2 (body_in 4 l) 0
  pub initial_is : initial ≡ le 2 (body_in 4 l) 2
  pub fine : head_fine states initial ≡ true

pub data OpeningSays (l : List ℕ) : Opening → Type 0 where
  says_shut : {r : Refusal} → OpeningSays l (Err r)
  says_opened : {s i : ℕ} → HeadSays l s i → OpeningSays l (Ok (s, i))

pub head-says : (l : List ℕ) → OpeningSays l (head_in l)
head-says l = dite (dec_lt (length l) 4) (λ h. rw (← head-short l h) says_shut) (λ n. by_kind (omega arith) (ℕ_discrete (kind_in l) 1))
  where
    by-fine : 8 ≤ length l → length_in l ≡ 6 → kind_in l ≡ 1 → (b : Bool) → head_fine (le 2 (body_in 4 l) 0) (le 2 (body_in 4 l) 2) ≡ b → OpeningSays l (opened_in (body_in 4 l))
    by-fine h s k true e = rw e (says_opened (record { long = h; size = s; kind = k; states_is = refl; initial_is = refl; fine = e }))
    by-fine h s k false e = rw e says_shut

    by_size : 4 ≤ length l → kind_in l ≡ 1 → Dec (length_in l ≡ 6) → OpeningSays l (head_in l)
    by_size h k (no s) = rw (← head-cut l h k (whole-other 6 l s)) says_shut
    by_size h k (yes s) =
        dite (dec_lt (length l) 8) (λ c. rw (← head-cut l h k (whole-cut 6 l c)) says_shut)
        (λ c. rw (← head-whole l h k (whole-yes 6 l s (omega arith))) (by-fine (omega arith) s k (head_fine (le 2 (body_in 4 l) 0) (le 2 (body_in 4 l) 2)) refl))

    by_kind : 4 ≤ length l → Dec (kind_in l ≡ 1) → OpeningSays l (head_in l)
    by_kind h (no k) = rw (← head-other l h k) says_shut
    by_kind h (yes k) = by_size h k (ℕ_discrete (length_in l) 6)

pub opened-says : (l : List ℕ) (s i : ℕ) → head_in l ≡ Ok (s, i) → HeadSays l s i
opened-says l s i e = by (rw e at (head-says l))
  where
    by : {s i : ℕ} → OpeningSays l (Ok (s, i)) → HeadSays l s i
    by (says_opened h) = h
