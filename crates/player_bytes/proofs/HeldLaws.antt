-- Records out of bytes and back, one after the other.
use mathlib.Core.Path.{◌≡◌, refl, sym, ap, ◌∙◌, subst}
use mathlib.Core.List.{List, [], ◌∷◌, ◌++◌, append_assoc, append-nil}
use Prim.Native.Nat.{ℕ, zero, suc, ◌+◌, ◌*◌, ◌-◌, ◌≤◌, ◌<◌}
use native.Mathlib.Omega.{arith}
use native.Mathlib.Numerals.{add-one}
use lib.ListN.{length, take, drop, get_or, set, length-set, length-append}
use lib.Seq.{length-take-le, set_at, drop-cons, take-suc, take-length, take-append-le}
use Rattle.wire.specs.Bytes.{le, bytes, placed}
use Rattle.wire.proofs.Bytes.{length-bytes, placed-fits, length-placed, placed-none, placed-more}
use Rattle.records.specs.declared.Pending.{Pending}
use Rattle.records.specs.Record.{blank}
use Rattle.player.specs.declared.Config.{Config}
use Rattle.player_bytes.specs.Records.{config_in, config_bytes, record_at, record_bytes, records_to, records_bytes}

pub config_is : (b : List ℕ) {s i w t : ℕ} → s ≡ le 2 b 0 → i ≡ le 2 b 2 → w ≡ le 2 b 4 → t ≡ le 4 b 6
    → record { state = s; inputs = i; waiting = w; timer = t } ≡ config_in b
config_is b e f g h = λ j. record { state = e j; inputs = f j; waiting = g j; timer = h j }

pub record_is : (b : List ℕ) (k : ℕ) {s r t : ℕ} → s ≡ le 2 b k → r ≡ le 2 b (k + 2) → t ≡ le 4 b
    (k + 4) → record { step = s; letter = r; left = t } ≡ record_at b k
record_is b k e f g = λ j. record { step = e j; letter = f j; left = g j }

pub length_to : (n : ℕ) (b : List ℕ) → length (records_to n b) ≡ n
unfolding records_to
length_to zero b = refl
length_to (suc n) b = length-append (records_to n b) (record_at b (n * 8) ∷ []) ∙ rw (length_to n b) (add-one n)

take_more : (k n : ℕ) (b : List ℕ) → take k (records_to (k + n) b) ≡ records_to k b
unfolding records_to
take_more k zero b =
    let z : k + 0 ≡ k = omega arith in
    rw z (ap (λ (j : ℕ). take j (records_to k b)) (sym (length_to k b)) ∙ take-length (records_to k b))
take_more k (suc n) b =
    let z : k + suc n ≡ suc (k + n) = omega arith in
    let l = length_to (k + n) b in
    rw z (take-append-le k (records_to (k + n) b) (record_at b ((k + n) * 8) ∷ []) (omega arith) ∙ take_more k n b)

-- the first of them are the first of the bytes
pub take-to : (k n : ℕ) (b : List ℕ) → k ≤ n → take k (records_to n b) ≡ records_to k b
take-to k n b h = let e : k + (n - k) ≡ n = omega arith in subst (λ (j : ℕ). take k (records_to j b) ≡ records_to k b) e (take_more k (n - k) b)

pub drop_all : (n : ℕ) (xs : List Pending) → length xs ≤ n → drop n xs ≡ []
drop_all zero [] k = refl
drop_all zero (x ∷ xs) k = absurd (omega (arith, k))
drop_all (suc n) [] k = refl
drop_all (suc n) (x ∷ xs) k = drop_all n xs (omega (arith, k))

-- i records are read into a list that held l
pub record Reading (b : List ℕ) (l o : List Pending) (i : ℕ) : Type 0 where
  pub upto : i ≤ 240
  pub size : length l ≡ 240
  pub long : length o ≡ 240
  pub is : o ≡ records_to i b ++ drop i l

pub reading-none : {b : List ℕ} {l : List Pending} → length l ≡ 240 → Reading b l l 0
unfolding records_to
reading-none e = record { upto = omega arith; size = e; long = e; is = refl }

module _ {b : List ℕ} {l o : List Pending} {i : ℕ} (s : Reading b l o i) where
  pub reading-more : (p : Pending) → i < 240 → p ≡ record_at b (i * 8) → Reading b l (set o i p) (i + 1)
  unfolding records_to
  reading-more p h e =
      let old : List Pending = records_to i b in
      let now : set o i p ≡ records_to (i + 1) b ++ drop (i + 1) l =
      rw
      (s.is, drop-cons l i blank (omega (arith, s.size)), set_at old (get_or l i blank) (drop (suc i) l) p i (length_to i b), add-one i, e)
      (sym (append_assoc old (record_at b (i * 8) ∷ []) (drop (suc i) l))) in
      record { upto = omega arith; size = s.size; long = length-set o i p ∙ s.long; is = now }

  pub reading-all : 240 ≤ i → o ≡ records_to 240 b
  reading-all h =
      let e : i ≡ 240 = omega (arith, s.upto) in
      let d : drop i l ≡ [] = drop_all i l (omega (arith, s.size)) in
      rw (s.is, d, e) (append-nil (records_to 240 b))

-- ten bytes of a configuration, eight of a record
module _ (c : Config) where
  pub config-put : (l o r : List ℕ) → 10 ≤ length l → o ≡ placed l 0 (bytes 2 (c.state ∷ c.inputs ∷ c.waiting ∷ [])) → r ≡ placed o 6 (bytes 4
      (c.timer ∷ []))
      → r ≡ config_bytes c ++ drop 10 l
  config-put l o r h e f =
      let x : List ℕ = bytes 2 (c.state ∷ c.inputs ∷ c.waiting ∷ []) in
      let y : List ℕ = bytes 4 (c.timer ∷ []) in
      let lx : length x ≡ 6 = length-bytes 2 (c.state ∷ c.inputs ∷ c.waiting ∷ []) in
      let ly : length y ≡ 4 = length-bytes 4 (c.timer ∷ []) in
      let lz : length (x ++ y) ≡ 10 = length-append x y ∙ omega arith in
      let g : 0 + length (x ++ y) ≤ length l = omega arith in
      let n : 0 + length (x ++ y) ≡ 10 = omega arith in
      f ∙ ap (λ (z : List ℕ). placed z 6 y) e ∙ placed-more l 0 6 x y (omega arith) (omega arith) ∙ placed-fits l 0 (x ++ y) g
      ∙ ap (λ (k : ℕ). (x ++ y) ++ drop k l) n

length-record : (p : Pending) → length (record_bytes p) ≡ 8
length-record p =
    let x : List ℕ = bytes 2 (p.step ∷ p.letter ∷ []) in
    let y : List ℕ = bytes 4 (p.left ∷ []) in
    let lx : length x ≡ 4 = length-bytes 2 (p.step ∷ p.letter ∷ []) in
    let ly : length y ≡ 4 = length-bytes 4 (p.left ∷ []) in
    length-append x y ∙ omega arith

pub record-put : (p : Pending) (l o r : List ℕ) (k : ℕ) → k + 8 ≤ length l → o ≡ placed l k (bytes 2 (p.step ∷ p.letter ∷ []))
    → r ≡ placed o (k + 4) (bytes 4 (p.left ∷ [])) → r ≡ placed l k (record_bytes p)
record-put p l o r k h e f =
    let x : List ℕ = bytes 2 (p.step ∷ p.letter ∷ []) in
    let y : List ℕ = bytes 4 (p.left ∷ []) in
    let lx : length x ≡ 4 = length-bytes 2 (p.step ∷ p.letter ∷ []) in
    let ly : length y ≡ 4 = length-bytes 4 (p.left ∷ []) in
    f ∙ ap (λ (z : List ℕ). placed z (k + 4) y) e ∙ placed-more l k (k + 4) x y (omega arith) (omega arith)

pub records-append : (xs ys : List Pending) → records_bytes (xs ++ ys) ≡ records_bytes xs ++ records_bytes ys
unfolding records_bytes
records-append [] ys = refl
records-append (x ∷ xs) ys = rw (records-append xs ys) (sym (append_assoc (record_bytes x) (records_bytes xs) (records_bytes ys)))

pub length-records : (xs : List Pending) → length (records_bytes xs) ≡ length xs * 8
unfolding records_bytes
length-records [] = refl
length-records (x ∷ xs) =
    let a = length-record x in
    let b = length-records xs in
    length-append (record_bytes x) (records_bytes xs) ∙ omega arith

-- i records are written over l
pub record Writing (l : List ℕ) (xs : List Pending) (o : List ℕ) (i : ℕ) : Type 0 where
  pub upto : i ≤ 240
  pub size : length xs ≡ 240
  pub room : 1920 ≤ length l
  pub long : length o ≡ length l
  pub is : o ≡ placed l 0 (records_bytes (take i xs))

pub writing-none : {l : List ℕ} {xs : List Pending} → length xs ≡ 240 → 1920 ≤ length l → Writing l xs l 0
unfolding records_bytes
writing-none {l} e h = record { upto = omega arith; size = e; room = h; long = refl; is = sym (placed-none l 0 (omega arith)) }

module _ {l : List ℕ} {xs : List Pending} {o : List ℕ} {i : ℕ} (s : Writing l xs o i) where
  pub writing_more : (r : List ℕ) → i < 240 → r ≡ placed o (i * 8) (record_bytes (get_or xs i blank)) → Writing l xs r (i + 1)
  unfolding records_bytes
  writing_more r h e =
      let p : Pending = get_or xs i blank in
      let old : List ℕ = records_bytes (take i xs) in
      let z = s.size in
      let room = s.room in
      let long = s.long in
      let lt : length (take i xs) ≡ i = length-take-le i xs (omega arith) in
      let lo : length old ≡ i * 8 = length-records (take i xs) ∙ rw lt in
      let lp : length (record_bytes p) ≡ 8 = length-record p in
      let more : records_bytes (take (i + 1) xs) ≡ old ++ record_bytes p =
      rw (add-one i, take-suc xs i blank (omega arith)) (records-append (take i xs) (p ∷ []) ∙ ap (λ (q : List ℕ). old ++ q) (append-nil (record_bytes p))) in
      let all : placed o (i * 8) (record_bytes p) ≡ placed l 0 (old ++ record_bytes p) =
      rw s.is (placed-more l 0 (i * 8) old (record_bytes p) (omega arith) (omega arith)) in
      record {
        upto = omega arith;
        size = z;
        room = room;
        long = ap length e ∙ length-placed o (i * 8) (record_bytes p) (omega arith) ∙ long;
        is = e ∙ all ∙ ap (placed l 0) (sym more);
      }

  pub writing-all : 240 ≤ i → o ≡ records_bytes xs ++ drop 1920 l
  writing-all h =
      let z = s.size in
      let room = s.room in
      let e : i ≡ length xs = omega (arith, s.upto) in
      let n : length (records_bytes xs) ≡ 1920 = length-records xs ∙ omega arith in
      let t : take i xs ≡ xs = ap (λ (k : ℕ). take k xs) e ∙ take-length xs in
      let m : 0 + length (records_bytes xs) ≡ 1920 = omega arith in
      s.is ∙ ap (λ (q : List Pending). placed l 0 (records_bytes q)) t ∙ placed-fits l 0 (records_bytes xs) (omega arith)
      ∙ ap (λ (k : ℕ). records_bytes xs ++ drop k l) m
