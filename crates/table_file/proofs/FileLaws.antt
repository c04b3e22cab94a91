-- The file rule: a valid machine's file is read as that machine, and nothing else is.
use Rattle.std.specs.Prelude.{Some, None, Ok, Err}
use mathlib.Core.Path.{◌≡◌, refl, sym, ap, ◌∙◌}
use mathlib.Core.Bool.{Bool, true, false, cond}
use mathlib.Core.List.{List, [], ◌∷◌, ◌++◌, append-nil}
use mathlib.Core.Logic.{◌⊎◌, inl, inr, dite}
use Prim.Native.Nat.{ℕ, zero, suc, ◌+◌, ◌-◌, ◌*◌, ◌≤◌}
use native.Mathlib.Omega.{arith}
use native.Mathlib.Decide.{dec_lt, dec_le}
use borrow.Author.Tests.{le-leb, lt-leb, ltb-false}
use lib.Dec.{leb, ltb, eqb}
use lib.ListN.{length, get_or, take, drop, length-append, length-take, length-drop, drop_of_length-le, get_or-append}
use Rattle.std.proofs.lemmas.Bool.{false_from_ne_true}
use lib.Seq.{append_snoc, take-nil, take-take, drop_at, get_or-append_seam}
use Rattle.model.specs.Lists.{All}
use Rattle.model.specs.Lists.All.{all_nil, all_cons}
use Rattle.model.specs.Table.{Transition, Machine, InRange, Valid, none}
use Rattle.model.proofs.Lists.{in_place}
use Rattle.wire.specs.Bytes.{bytes_by, le, bytes, Bytes, les}
use Rattle.wire.proofs.Bytes.{le-take, le-part, Held, les-front, les-bytes, bytes_drop, bytes-append, length-bytes}
use Rattle.table.specs.declared.Refusal.{Refusal}
use Rattle.table.specs.declared.Row.{Row}
use Rattle.table.specs.Refusal.{refusal_number, refusal_place}
use Rattle.table.specs.Rows.{numbers, said, flat}
use Rattle.table.specs.Check.{head_fine, in_range, has}
use Rattle.table.specs.Tests.{Sized}
use Rattle.model.specs.Table.{Unlike}
use Rattle.table_file.specs.File.{Frame, Opening, head_numbers, row_numbers, end_numbers, file_of, ValidFile, length_in, kind_in, body_in, whole, row_in, frame_in, head_in}
use Rattle.table_file.specs.File.{Listed, found, refused, ended, admitted, rows_from, Scan, machine, stopped, with_rows, with_head, read_file}
use Rattle.table.proofs.RangeLaws.{head-true, in-range, has_in}
use Rattle.table.proofs.RowLaws.{unlike-more}
use Rattle.table_file.proofs.FrameLaws.{whole-yes, head-whole, frame_row, RowSays, took-says, EndSays, last_says, HeadSays, opened-says}
use Rattle.table_file.proofs.ReadLaws.{ended_is, admitted-is, rows-bad, rows_last, rows-full, rows-took, read_found}

-- a law of the scan, shown record by record
module _
    (states : ℕ)
    (P : ℕ → ℕ → List ℕ → List Transition → Listed → Type 0)
    (bad : (room offset : ℕ) (rest : List ℕ) (ts : List Transition) (r : Refusal) → frame_in offset rest ≡ Err r
    → P room offset rest ts (refused (refusal_number r) (refusal_place r)))
    (last : (room offset : ℕ) (rest : List ℕ) (ts : List Transition) → frame_in offset rest ≡ Ok None → P room offset rest ts (ended offset rest ts))
    (full : (offset : ℕ) (rest : List ℕ) (ts : List Transition) (r : Row) → frame_in offset rest ≡ Ok (Some r) → P 0 offset rest ts (refused 3 offset))
    (more : (room offset : ℕ) (rest : List ℕ) (ts : List Transition) (r : Row) (next : Listed) → frame_in offset rest ≡ Ok (Some r)
    → P room (offset + 18) (drop 18 rest) (ts ++ (said r ∷ [])) next → P (suc room) offset rest ts (admitted states offset ts (said r) next))
  where
    rows-case : (room offset : ℕ) (rest : List ℕ) (ts : List Transition)
        → ((r : Row) → frame_in offset rest ≡ Ok (Some r) → P room offset rest ts (rows_from room states offset rest ts))
        → P room offset rest ts (rows_from room states offset rest ts)
    rows-case room offset rest ts took = by (frame_in offset rest) refl
      where
        by : (f : Frame) → frame_in offset rest ≡ f → P room offset rest ts (rows_from room states offset rest ts)
        by (Err r) e = rw (rows-bad states offset rest ts room r e) (bad room offset rest ts r e)
        by (Ok None) e = rw (rows_last states offset rest ts room e) (last room offset rest ts e)
        by (Ok (Some r)) e = took r e

    rows-rule : (room offset : ℕ) (rest : List ℕ) (ts : List Transition) → P room offset rest ts (rows_from room states offset rest ts)
    rows-rule zero offset rest ts = rows-case 0 offset rest ts (λ r e. rw (rows-full states offset rest ts r e) (full offset rest ts r e))
    rows-rule (suc room) offset rest ts =
        rows-case (suc room) offset rest ts (λ r e.
        rw (rows-took states offset rest ts room r e) (more room offset rest ts r _ e (rows-rule room (offset + 18) (drop 18 rest) (ts ++ (said r ∷ [])))))

-- a transition is its seven numbers
numbers-only : (s t : Transition) → numbers s ≡ numbers t → s ≡ t
numbers-only s t e = ap made e
  where
    made : List ℕ → Transition
    made l = record { from = get_or l 0 0; input = get_or l 1 0; output = get_or l 2 0; to = get_or l 3 0; u = get_or l 4 0; v = get_or l 5 0; d = get_or l 6 0 }

-- the numbers in the body of a record, by their places in the record
body-numbers : (rest : List ℕ) → numbers (said (row_in (body_in 14 rest))) ≡ les 2 7 rest 4
body-numbers rest =
    rw (
      le-part 2 rest 14 4 0 (omega arith),
      le-part 2 rest 14 4 2 (omega arith),
      le-part 2 rest 14 4 4 (omega arith),
      le-part 2 rest 14 4 6 (omega arith),
      le-part 2 rest 14 4 8 (omega arith),
      le-part 2 rest 14 4 10 (omega arith),
      le-part 2 rest 14 4 12 (omega arith),
    )

row_fits : (states : ℕ) (t : Transition) → states ≤ 32 → InRange states t → Held 2 (row_numbers t)
row_fits states t h r = omega arith

-- the record of a transition is taken as that transition
row-taken : (offset : ℕ) (t : Transition) (more : List ℕ) → Held 2 (row_numbers t)
    → (r : Row) × (frame_in offset (bytes 2 (row_numbers t) ++ more) ≡ Ok (Some r)) × (said r ≡ t)
row-taken offset t more f =
    let rest : List ℕ = bytes 2 (row_numbers t) ++ more in
    let e : les 2 9 rest 0 ≡ row_numbers t = les-bytes 2 (row_numbers t) more f in
    let size : length_in rest ≡ 16 = ap (λ (l : List ℕ). get_or l 0 0) e in
    let kind : kind_in rest ≡ 2 = ap (λ (l : List ℕ). get_or l 1 0) e in
    let long : 18 ≤ length rest = omega (arith, length-append (bytes 2 (row_numbers t)) more, length-bytes 2 (row_numbers t)) in
    let body : les 2 7 rest 4 ≡ numbers t = ap (drop 2) e in (
      row_in (body_in 14 rest),
      sym (frame_row offset rest (omega arith) kind (whole-yes 16 rest size long)),
      numbers-only (said (row_in (body_in 14 rest))) t (body-numbers rest ∙ body),
    )

end-taken : (offset : ℕ) → frame_in offset (bytes 2 end_numbers) ≡ Ok None
unfolding bytes_by frame_in whole
end-taken offset = refl

-- one that stands behind others is none of them
unlike-has : (done ts : List Transition) (t : Transition) → Unlike (done ++ (t ∷ ts)) → has t done ≡ false
unlike-has done ts t u =
    false_from_ne_true (has t done) (λ e.
    let p = in_place none t done ((has_in t done).0 e) in
    u p.0 (length done) p.1 (omega (arith, length-append done (t ∷ ts)))
    (get_or-append done (t ∷ ts) none p.0 p.1 ∙ p.2 ∙ sym (get_or-append_seam done t ts none)))

-- the records of transitions are read as these transitions
rows-complete : (states : ℕ) → states ≤ 32 → (room offset : ℕ) (done ts : List Transition) → length ts ≤ room → All (InRange states) ts → Unlike (done ++ ts)
    → rows_from room states offset (bytes 2 (flat row_numbers ts ++ end_numbers)) done ≡ found (done ++ ts)
unfolding flat
rows-complete states h room offset done [] few a u =
    rows_last states offset (bytes 2 end_numbers) done room (end-taken offset) ∙ rw (length-bytes 2 end_numbers, append-nil done)
rows-complete states h zero offset done (t ∷ ts) few a u = absurd (omega arith)
rows-complete states h (suc room) offset done (t ∷ ts) few (all_cons r a) u =
    let more : List ℕ = bytes 2 (flat row_numbers ts ++ end_numbers) in
    let split : bytes 2 ((row_numbers t ++ flat row_numbers ts) ++ end_numbers) ≡ bytes 2 (row_numbers t) ++ more =
    bytes-append 2 (row_numbers t) (flat row_numbers ts ++ end_numbers) in
    let k = row-taken offset t more (row_fits states t h r) in
    let next : drop 18 (bytes 2 (row_numbers t) ++ more) ≡ more = drop_at (bytes 2 (row_numbers t)) more 18 (length-bytes 2 (row_numbers t)) in
    let fine : in_range states t ≡ true = (in-range states t).1 r in
    let new : has t done ≡ false = unlike-has done ts t u in
    let snoc : (done ++ (t ∷ [])) ++ ts ≡ done ++ (t ∷ ts) = append_snoc done t ts in
    rw (split, rows-took states offset (bytes 2 (row_numbers t) ++ more) done room k.0 k.1, k.2, fine, new, next)
    (rows-complete states h room (offset + 18) (done ++ (t ∷ [])) ts (omega arith) a (rw snoc u) ∙ ap found snoc)

-- the head is read as its two numbers
head-taken : (states initial : ℕ) (more : List ℕ) → Sized states initial → head_in (bytes 2 (head_numbers states initial) ++ more) ≡ Ok (states, initial)
head-taken states initial more h =
    let l : List ℕ = bytes 2 (head_numbers states initial) ++ more in
    let e : les 2 4 l 0 ≡ head_numbers states initial = les-bytes 2 (head_numbers states initial) more (omega arith) in
    let size : length_in l ≡ 6 = ap (λ (x : List ℕ). get_or x 0 0) e in
    let kind : kind_in l ≡ 1 = ap (λ (x : List ℕ). get_or x 1 0) e in
    let a : le 2 (body_in 4 l) 0 ≡ states = le-part 2 l 4 4 0 (omega arith) ∙ ap (λ (x : List ℕ). get_or x 2 0) e in
    let b : le 2 (body_in 4 l) 2 ≡ initial = le-part 2 l 4 4 2 (omega arith) ∙ ap (λ (x : List ℕ). get_or x 3 0) e in
    let long : 8 ≤ length l = omega (arith, length-append (bytes 2 (head_numbers states initial)) more, length-bytes 2 (head_numbers states initial)) in
    sym (head-whole l (omega arith) kind (whole-yes 6 l size long)) ∙ rw (a, b, (head-true states initial).1 h)

pub complete : (m : Machine) → Valid m → read_file (file_of m) ≡ machine m
unfolding file_of
complete m v =
    let head : List ℕ = head_numbers m.states m.initial in
    let more : List ℕ = flat row_numbers m.transitions ++ end_numbers in
    let split : bytes 2 (head ++ more) ≡ bytes 2 head ++ bytes 2 more = bytes-append 2 head more in
    let next : drop 8 (bytes 2 head ++ bytes 2 more) ≡ bytes 2 more = drop_at (bytes 2 head) (bytes 2 more) 8 (length-bytes 2 head) in
    rw split
    (read_found (bytes 2 head ++ bytes 2 more) m.states m.initial
    (head-taken m.states m.initial (bytes 2 more) (record { some = v.some; most = v.most; starts = v.starts })) m.transitions
    (rw next (rows-complete m.states v.most 256 8 [] m.transitions v.few v.ranged v.distinct)))

-- what was taken is what stood there
row-was : (rest : List ℕ) (r : Row) → RowSays rest r → les 2 9 rest 0 ≡ row_numbers (said r)
row-was rest r s = rw (s.size, s.kind, s.is, body-numbers rest)

end-was : (rest : List ℕ) → EndSays rest → les 2 2 rest 0 ≡ end_numbers
end-was rest s = rw (s.size, s.kind)

head-was : (l : List ℕ) (states initial : ℕ) → HeadSays l states initial → les 2 4 l 0 ≡ head_numbers states initial
head-was l states initial s =
    rw (s.size, s.kind, s.states_is, s.initial_is, le-part 2 l 4 4 0 (omega arith), le-part 2 l 4 4 2 (omega arith))

-- a choice between a refusal and what was found
found-then : (b : Bool) (n p : ℕ) (x : Listed) (ts : List Transition) → cond b x (refused n p) ≡ found ts → (b ≡ true) × (x ≡ found ts)
found-then true n p x ts e = (refl, e)
found-then false n p x ts e = let z : ◌≡◌ {A = ℕ} 0 1 = cc in absurd (omega arith)

found-else : (b : Bool) (n p : ℕ) (x : Listed) (ts : List Transition) → cond b (refused n p) x ≡ found ts → (b ≡ false) × (x ≡ found ts)
found-else true n p x ts e = let z : ◌≡◌ {A = ℕ} 0 1 = cc in absurd (omega arith)
found-else false n p x ts e = (refl, e)

-- what is left of a file is the records of more transitions and the end
record Tail (states room : ℕ) (ts all : List Transition) (rest : List ℕ) : Type 0 where
  more : List Transition
  joined : all ≡ ts ++ more
  is : rest ≡ bytes 2 (flat row_numbers more ++ end_numbers)
  few : length more ≤ room
  ranged : All (InRange states) more
  unlike : Unlike all

module _ (states : ℕ) where
  tail-end : (room offset : ℕ) (rest : List ℕ) (ts all : List Transition) → Bytes rest → Unlike ts → EndSays rest
      → ended offset rest ts ≡ found all → Tail states room ts all rest
  unfolding flat
  tail-end room offset rest ts all b u s e =
      let k = found-else (ltb 4 (length rest)) _ _ (found ts) all (sym (ended_is offset rest ts) ∙ e) in
      let short : length rest ≤ 4 = ltb-false 4 (length rest) k.0 in
      let none_left : drop 4 rest ≡ [] = drop_of_length-le rest short in
      let same : all ≡ ts = cc in
      record {
        more = [];
        joined = same ∙ sym (append-nil ts);
        is = sym (les-front 2 2 rest b s.long) ∙ rw (end-was rest s, none_left, append-nil (bytes 2 end_numbers));
        few = omega arith;
        ranged = all_nil;
        unlike = rw same u;
      }

  tail_more : (room : ℕ) (rest : List ℕ) (ts all : List Transition) (r : Row) → Bytes rest → InRange states (said r) → RowSays rest r
      → Tail states room (ts ++ (said r ∷ [])) all (drop 18 rest) → Tail states (suc room) ts all rest
  unfolding flat
  tail_more room rest ts all r b i s t =
      record {
        more = said r ∷ t.more;
        joined = t.joined ∙ append_snoc ts (said r) t.more;
        is = sym (les-front 2 9 rest b s.long)
            ∙ rw (row-was rest r s, t.is) (sym (bytes-append 2 (row_numbers (said r)) (flat row_numbers t.more ++ end_numbers)));
        few = omega arith;
        ranged = all_cons i t.ranged;
        unlike = t.unlike;
      }

  rows-sound : (room offset : ℕ) (rest : List ℕ) (ts all : List Transition) → Bytes rest → Unlike ts
      → rows_from room states offset rest ts ≡ found all → Tail states room ts all rest
  rows-sound room offset rest ts all =
      rows-rule states (λ room offset rest ts f. Bytes rest → Unlike ts → f ≡ found all → Tail states room ts all rest)
      (λ room offset rest ts r q b u e. absurd (clash e))
      (λ room offset rest ts q b u e. tail-end room offset rest ts all b u (last_says offset rest q) e)
      (λ offset rest ts r q b u e. absurd (clash e))
      (λ room offset rest ts r next q tail b u e.
      let f = found-then (in_range states (said r)) _ _ _ all (sym (admitted-is states offset ts (said r) next) ∙ e) in
      let g = found-else (has (said r) ts) _ _ _ all f.1 in
      tail_more room rest ts all r b ((in-range states (said r)).0 f.0) (took-says offset rest r q)
      (tail (bytes_drop 18 rest b) (unlike-more ts (said r) u g.0) g.1))
      room offset rest ts
    where
      clash : {n p : ℕ} → refused n p ≡ found all → ⊥
      clash e = let z : ◌≡◌ {A = ℕ} 0 1 = cc in omega arith

-- what is read is the machine of the file
whole-file : (l : List ℕ) (s i : ℕ) (ts : List Transition) → Bytes l → HeadSays l s i → Tail s 256 [] ts (drop 8 l)
    → Valid (record { states = s; initial = i; transitions = ts }) × (l ≡ file_of (record { states = s; initial = i; transitions = ts }))
unfolding file_of
whole-file l s i ts b k t =
    let f = (head-true s i).0 k.fine in
    let same : ts ≡ t.more = t.joined in (
      record { some = f.some; most = f.most; starts = f.starts; few = rw same t.few; ranged = rw same t.ranged; distinct = t.unlike },
      sym (les-front 2 4 l b k.long) ∙ rw (head-was l s i k, t.is, same) (sym (bytes-append 2 (head_numbers s i) (flat row_numbers t.more ++ end_numbers))),
    )

pub sound : (l : List ℕ) (m : Machine) → Bytes l → read_file l ≡ machine m → Valid m × (l ≡ file_of m)
unfolding read_file
sound l m b e = by-head (head_in l) refl e
  where
    by_rows : (s i : ℕ) → head_in l ≡ Ok (s, i) → (f : Listed) → rows_from 256 s 8 (drop 8 l) [] ≡ f → with_rows s i f ≡ machine m → Valid m × (l ≡ file_of m)
    by_rows s i h (refused n p) q e = let z : ◌≡◌ {A = ℕ} 0 1 = cc in absurd (omega arith)
    by_rows s i h (found ts) q e =
        let same : record { states = s; initial = i; transitions = ts } ≡ m = cc in
        rw (← same) (whole-file l s i ts b (opened-says l s i h) (rows-sound s 256 8 (drop 8 l) [] ts (bytes_drop 8 l b) (λ i j p q. absurd (omega arith)) q))

    by-head : (o : Opening) → head_in l ≡ o → with_head l o ≡ machine m → Valid m × (l ≡ file_of m)
    by-head (Ok (s, i)) q e = by_rows s i q (rows_from 256 s 8 (drop 8 l) []) refl e
    by-head (Err r) q e = let z : ◌≡◌ {A = ℕ} 0 1 = cc in absurd (omega arith)

-- a file is valid or refused, and not both
pub valid-read : (l : List ℕ) (f : ValidFile l) → read_file l ≡ machine f.machine
valid-read l f = rw f.is (complete f.machine f.valid)

pub either-or : (l : List ℕ) → Bytes l → ValidFile l ⊎ ((n : ℕ) × (p : ℕ) × (read_file l ≡ stopped n p))
either-or l b = by (read_file l) refl
  where
    by : (s : Scan) → read_file l ≡ s → ValidFile l ⊎ ((n : ℕ) × (p : ℕ) × (read_file l ≡ stopped n p))
    by (machine m) e = let k = sound l m b e in inl (record { machine = m; valid = k.0; is = k.1 })
    by (stopped n p) e = inr (n, p, e)

pub not-both : (l : List ℕ) (n p : ℕ) → ValidFile l → read_file l ≡ stopped n p → ⊥
not-both l n p f e = let k = valid-read l f in let z : ◌≡◌ {A = ℕ} 0 1 = cc in omega arith

-- the file tells the machine
pub one-machine : (m n : Machine) → Valid m → Valid n → file_of m ≡ file_of n → m ≡ n
one-machine m n v w e =
    let p : read_file (file_of m) ≡ machine m = complete m v in
    let q : read_file (file_of n) ≡ machine n = complete n w in
    cc

drop-take : (k n : ℕ) (l : List ℕ) → drop k (take n l) ≡ take (n - k) (drop k l)
drop-take zero n l = let e : n - 0 ≡ n = omega arith in rw e
drop-take (suc k) zero l = let e : 0 - suc k ≡ 0 = omega arith in rw e
drop-take (suc k) (suc n) [] = sym (take-nil (suc n - suc k))
drop-take (suc k) (suc n) (a ∷ l) = let e : suc n - suc k ≡ n - k = omega arith in rw e (drop-take k n l)

-- two tests that come out alike
leb-same : (a b c d : ℕ) → (a ≤ b → c ≤ d) → (c ≤ d → a ≤ b) → leb a b ≡ leb c d
leb-same a b c d f g =
    dite (dec_le a b) (λ h. le-leb a b h ∙ sym (le-leb c d (f h)))
    (λ h. lt-leb a b (omega arith) ∙ sym (lt-leb c d (dite (dec_lt d c) (λ k. k) (λ k. absurd (h (g (omega arith)))))))

-- a record is at most 18 bytes: the first 18 decide
module _ (l : List ℕ) (n : ℕ) where
  size-near : (k : ℕ) → k ≤ n → leb k (length (take n l)) ≡ leb k (length l)
  size-near k h = leb-same k (length (take n l)) k (length l) (λ p. omega (arith, length-take n l)) (λ p. omega (arith, length-take n l))

  short-near : (k : ℕ) → k ≤ n → ltb (length (take n l)) k ≡ ltb (length l) k
  short-near k h =
      leb-same (suc (length (take n l))) k (suc (length l)) k (λ p. omega (arith, length-take n l)) (λ p. omega (arith, length-take n l))

  body_near : (k : ℕ) → 4 + k ≤ n → body_in k (take n l) ≡ body_in k l
  body_near k h = rw (drop-take 4 n l, take-take k (n - 4) (drop 4 l) (omega arith))

  whole-near : (k : ℕ) → 2 ≤ n → 2 + k ≤ n → whole k (take n l) ≡ whole k l
  unfolding whole
  whole-near k g h = rw (le-take 2 l n 0 g, size-near (2 + k) h)

  frame-near : (offset : ℕ) → 18 ≤ n → frame_in offset (take n l) ≡ frame_in offset l
  unfolding frame_in
  frame-near offset h =
      rw (
        short-near 4 (omega arith),
        le-take 2 l n 2 (omega arith),
        whole-near 16 (omega arith) (omega arith),
        whole-near 2 (omega arith) (omega arith),
        body_near 14 (omega arith),
      )

  head_near : 18 ≤ n → head_in (take n l) ≡ head_in l
  unfolding head_in
  head_near h = rw (short-near 4 (omega arith), le-take 2 l n 2 (omega arith), whole-near 6 (omega arith) (omega arith), body_near 4 (omega arith))

rows-near : (states room offset : ℕ) (rest : List ℕ) (ts : List Transition) (n : ℕ) → (room + 1) * 18 ≤ n
    → rows_from room states offset (take n rest) ts ≡ rows_from room states offset rest ts
rows-near states =
    rows-rule states (λ room offset rest ts f. (n : ℕ) → (room + 1) * 18 ≤ n → rows_from room states offset (take n rest) ts ≡ f)
    (λ room offset rest ts r q n h. rows-bad states offset (take n rest) ts room r (frame-near rest n offset (omega arith) ∙ q))
    (λ room offset rest ts q n h.
    rows_last states offset (take n rest) ts room (frame-near rest n offset (omega arith) ∙ q) ∙ rw (size-near rest n 5 (omega arith)))
    (λ offset rest ts r q n h. rows-full states offset (take n rest) ts r (frame-near rest n offset (omega arith) ∙ q))
    (λ room offset rest ts r next q more n h.
    rows-took states offset (take n rest) ts room r (frame-near rest n offset (omega arith) ∙ q) ∙ rw (drop-take 18 n rest, more (n - 18) (omega arith)))

-- later bytes change no answer: one head, 256 transitions and one record more decide
pub near : (l : List ℕ) (n : ℕ) → 4634 ≤ n → read_file (take n l) ≡ read_file l
unfolding read_file
near l n h = rw (head_near l n (omega arith)) (by (head_in l))
  where
    by : (o : Opening) → with_head (take n l) o ≡ with_head l o
    by (Ok (s, i)) = rw (drop-take 8 n l, rows-near s 256 8 (drop 8 l) [] (n - 8) (omega arith))
    by (Err r) = refl

-- a refusal of a file: its number is one of 1 to 5, its place is inside the file or at its end
pub record Named (size n p : ℕ) : Type 0 where
  pub inside : p ≤ size
  pub first : 1 ≤ n
  pub last : n ≤ 5

-- what holds of both holds of the choice
cond_both : {A : Type 0} (P : A → Type 0) (b : Bool) (x y : A) → P x → P y → P (cond b x y)
cond_both P true x y p q = p
cond_both P false x y p q = q

module _ (size : ℕ) where
  abbrev FrameNamed : Frame → Type 0
  FrameNamed (Err r) = Named size (refusal_number r) (refusal_place r)
  FrameNamed (Ok (Some r)) = Unit {0}
  FrameNamed (Ok None) = Unit {0}

  abbrev OpeningNamed : Opening → Type 0
  OpeningNamed (Ok h) = Unit {0}
  OpeningNamed (Err r) = Named size (refusal_number r) (refusal_place r)

  abbrev ListedNamed : Listed → Type 0
  ListedNamed (found ts) = Unit {0}
  ListedNamed (refused n p) = Named size n p

  abbrev ScanNamed : Scan → Type 0
  ScanNamed (machine m) = Unit {0}
  ScanNamed (stopped n p) = Named size n p

  frame-named : (offset : ℕ) (rest : List ℕ) → offset ≤ size → FrameNamed (frame_in offset rest)
  unfolding frame_in
  frame-named offset rest h =
      cond_both FrameNamed (ltb (length rest) 4) _ _ (omega arith)
      (cond_both FrameNamed (eqb (kind_in rest) 2) _ _ (cond_both FrameNamed (whole 16 rest) _ _ tt (omega arith))
      (cond_both FrameNamed (eqb (kind_in rest) 3) _ _ (cond_both FrameNamed (whole 2 rest) _ _ tt (omega arith))
      (omega arith)))

  head-named : (l : List ℕ) → OpeningNamed (head_in l)
  unfolding head_in
  head-named l =
      cond_both OpeningNamed (ltb (length l) 4) _ _ (omega arith)
      (cond_both OpeningNamed (eqb (kind_in l) 1) _ _
      (cond_both OpeningNamed (whole 6 l) _ _
      (cond_both OpeningNamed (head_fine (le 2 (body_in 4 l) 0) (le 2 (body_in 4 l) 2)) _ _ tt (omega arith))
      (omega arith))
      (omega arith))

  scan-named : (s i : ℕ) (f : Listed) → ListedNamed f → ScanNamed (with_rows s i f)
  scan-named s i (found ts) p = tt
  scan-named s i (refused k j) p = p

rows_named : (states room offset : ℕ) (rest : List ℕ) (ts : List Transition) → ListedNamed (offset + length rest) (rows_from room states offset rest ts)
rows_named states =
    rows-rule states (λ room offset rest ts f. ListedNamed (offset + length rest) f)
    (λ room offset rest ts r q. rw q at (frame-named (offset + length rest) offset rest (omega arith)))
    (λ room offset rest ts q.
    let h = (last_says offset rest q).long in
    rw (ended_is offset rest ts) (cond_both (ListedNamed (offset + length rest)) (ltb 4 (length rest)) _ _ (omega arith) tt))
    (λ offset rest ts r q. omega arith)
    (λ room offset rest ts r next q p.
    let h = (took-says offset rest r q).long in
    let e : offset + 18 + length (drop 18 rest) ≡ offset + length rest = omega (arith, length-drop 18 rest) in
    rw (admitted-is states offset ts (said r) next)
    (cond_both (ListedNamed (offset + length rest)) (in_range states (said r)) _ _
    (cond_both (ListedNamed (offset + length rest)) (has (said r) ts) _ _ (omega arith) (rw e at p))
    (omega arith)))

read_named : (l : List ℕ) → ScanNamed (length l) (read_file l)
unfolding read_file
read_named l = by (head_in l) refl
  where
    by : (o : Opening) → head_in l ≡ o → ScanNamed (length l) (with_head l o)
    by (Ok (s, i)) q =
        let h = (opened-says l s i q).long in
        let e : 8 + length (drop 8 l) ≡ length l = omega (arith, length-drop 8 l) in
        scan-named (length l) s i (rows_from 256 s 8 (drop 8 l) []) (rw e at (rows_named s 256 8 (drop 8 l) []))
    by (Err r) q = rw q at (head-named (length l) l)

-- a refused record begins inside the file or at its end
pub places : (l : List ℕ) (n p : ℕ) → read_file l ≡ stopped n p → Named (length l) n p
places l n p e = rw e at (read_named l)
