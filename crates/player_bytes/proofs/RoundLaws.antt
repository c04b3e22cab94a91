-- What is written in bytes is read back as it was, and what was read is written back as it stood.
use mathlib.Core.Path.{◌≡◌, refl, sym, ap, ◌∙◌}
use mathlib.Core.List.{List, [], ◌∷◌, ◌++◌, append-nil}
use Prim.Native.Nat.{ℕ, zero, suc, ◌+◌, ◌*◌, ◌/◌, ◌≤◌, ◌<◌}
use native.Mathlib.Omega.{arith}
use lib.ListN.{length, take, drop, length-append, length-drop, take-append-drop}
use lib.Seq.{take-add, drop-drop}
use Rattle.model.specs.Lists.{All, all_nil, all_cons}
use Rattle.model.proofs.Lists.{all_append}
use Rattle.wire.specs.Bytes.{bytes_by, le, bytes, Bytes}
use Rattle.wire.proofs.Bytes.{le-drop, bytes-les, bytes-bytes, bytes_drop}
use Rattle.records.specs.declared.Pending.{Pending}
use Rattle.player.specs.declared.Config.{Config}
use Rattle.player_bytes.specs.Records.{config_in, config_bytes, record_at, record_bytes, records_to, lent_in, records_in, records_bytes}
use Rattle.player_bytes.proofs.HeldLaws.{config_is, record_is, length-records, records-append}

-- the numbers of a record within their bytes
abbrev pub Narrow : Pending → Type 0
Narrow p = (p.step < 65536) × (p.letter < 65536) × (p.left < 4294967296)

-- and of a configuration
abbrev pub Slim : Config → Type 0
Slim c = (c.state < 65536) × (c.inputs < 65536) × (c.waiting < 65536) × (c.timer < 4294967296)

module _ (b : List ℕ) (bytes : Bytes b) where
  two-small : (k : ℕ) → le 2 b k < 65536
  two-small k = omega (arith, bytes k, bytes (k + 1))

  four-small : (k : ℕ) → le 4 b k < 4294967296
  four-small k = omega (arith, bytes k, bytes (k + 1), bytes (k + 1 + 1), bytes (k + 1 + 1 + 1))

  record-small : (k : ℕ) → Narrow (record_at b k)
  record-small k = (two-small k, two-small (k + 2), four-small (k + 4))

  pub records-small : (n : ℕ) → All Narrow (records_to n b)
  unfolding records_to
  records-small zero = all_nil
  records-small (suc n) = all_append (records-small n) (all_cons {a = record_at b (n * 8)} (record-small (n * 8)) all_nil)

pub config-back : (c : Config) (rest : List ℕ) → Slim c → config_in (config_bytes c ++ rest) ≡ c
unfolding bytes_by
config-back c rest s =
    sym (config_is (config_bytes c ++ rest) (omega (arith, s.0)) (omega (arith, s.1)) (omega (arith, s.2)) (omega (arith, s.3)))

pub length-config : (c : Config) (rest : List ℕ) → length (config_bytes c ++ rest) ≡ 10 + length rest
unfolding bytes_by
length-config c rest = omega arith

record-back : (p : Pending) (rest : List ℕ) → Narrow p → record_at (record_bytes p ++ rest) 0 ≡ p
unfolding bytes_by
record-back p rest s = sym (record_is (record_bytes p ++ rest) 0 (omega (arith, s.0)) (omega (arith, s.1)) (omega (arith, s.2)))

-- the first record, and those after it
records-front : (n : ℕ) (b : List ℕ) → records_to (suc n) b ≡ record_at b 0 ∷ records_to n (drop 8 b)
unfolding records_to
records-front zero b = refl
records-front (suc n) b =
    let e : record_at (drop 8 b) (n * 8) ≡ record_at b (suc n * 8) =
    record_is b (suc n * 8) (le-drop 2 b 8 (n * 8) (suc n * 8) (omega arith)) (le-drop 2 b 8 (n * 8 + 2) (suc n * 8 + 2) (omega arith))
    (le-drop 4 b 8 (n * 8 + 4) (suc n * 8 + 4) (omega arith)) in
    rw (e, records-front n b)

pub records-back : (l : List Pending) (rest : List ℕ) → All Narrow l → records_to (length l) (records_bytes l ++ rest) ≡ l
unfolding records_to records_bytes bytes_by
records-back [] rest all_nil = refl
records-back (p ∷ l) rest (all_cons s t) =
    let b : List ℕ = record_bytes p ++ (records_bytes l ++ rest) in
    records-front (length l) b ∙ rw (record-back p (records_bytes l ++ rest) s, records-back l rest t)

-- a buffer of 240 records or more after they were written
module _ (l : List Pending) (long : length l ≡ 240) (w : List ℕ) (room : 240 ≤ length w / 8) where
  pub length-written : length (records_bytes l ++ drop 1920 w) ≡ length w
  length-written = length-append (records_bytes l) (drop 1920 w) ∙ omega (arith, length-records l, length-drop 1920 w)

  pub written_back : All Narrow l → records_in (records_bytes l ++ drop 1920 w) ≡ l
  written_back s =
      let n : lent_in (records_bytes l ++ drop 1920 w) ≡ length l = omega (arith, length-written) in
      ap (λ (k : ℕ). records_to k (records_bytes l ++ drop 1920 w)) n ∙ records-back l (drop 1920 w) s

both_bytes : (a b : List ℕ) → Bytes a → Bytes b → Bytes (a ++ b)
both_bytes [] b x y i = y i
both_bytes (n ∷ a) b x y zero = x 0
both_bytes (n ∷ a) b x y (suc i) = both_bytes a b (λ j. x (suc j)) y i

records-bytes : (l : List Pending) → Bytes (records_bytes l)
unfolding records_bytes
records-bytes [] = λ i. omega arith
records-bytes (p ∷ l) =
    let x : List ℕ = bytes 2 (p.step ∷ p.letter ∷ []) in
    let y : List ℕ = bytes 4 (p.left ∷ []) in
    both_bytes (x ++ y) (records_bytes l) (both_bytes x y (bytes-bytes 2 (p.step ∷ p.letter ∷ [])) (bytes-bytes 4 (p.left ∷ []))) (records-bytes l)

pub written-bytes : (l : List Pending) (w : List ℕ) → Bytes w → Bytes (records_bytes l ++ drop 1920 w)
written-bytes l w b = both_bytes (records_bytes l) (drop 1920 w) (records-bytes l) (bytes_drop 1920 w b)

module _ (b : List ℕ) (are : Bytes b) where
  record-stood : (k : ℕ) → k + 8 ≤ length b → record_bytes (record_at b k) ≡ take 8 (drop k b)
  record-stood k h =
      rw (bytes-les 2 2 b k are (omega arith), bytes-les 4 1 b (k + 4) are (omega arith)) (rw (← drop-drop 4 k b) (sym (take-add 4 4 (drop k b))))

  records-stood : (n : ℕ) → n * 8 ≤ length b → records_bytes (records_to n b) ≡ take (n * 8) b
  unfolding records_to records_bytes
  records-stood zero h = refl
  records-stood (suc n) h =
      let e : suc n * 8 ≡ n * 8 + 8 = omega arith in
      records-append (records_to n b) (record_at b (n * 8) ∷ [])
      ∙ rw (records-stood n (omega arith), append-nil (record_bytes (record_at b (n * 8))), record-stood (n * 8) (omega arith), e)
      (sym (take-add (n * 8) 8 b))

  -- the first 240 records and what follows them are the whole
  pub written-as-stood : 240 ≤ length b / 8 → records_bytes (records_in b) ++ drop 1920 b ≡ b
  written-as-stood h =
      let n : lent_in b ≡ 240 = omega arith in
      rw (n, records-stood 240 (omega arith)) (take-append-drop 1920 b)

-- two lists with the same records from n on, in bytes
pub same-beyond : (n : ℕ) (l l' : List Pending) (r : List ℕ) → length l ≡ length l' → drop n l ≡ drop n l'
    → drop (n * 8) (records_bytes l ++ r) ≡ drop (n * 8) (records_bytes l' ++ r)
unfolding records_bytes bytes_by
same-beyond zero l l' r k e = ap (λ (x : List Pending). records_bytes x ++ r) e
same-beyond (suc n) [] [] r k e = refl
same-beyond (suc n) [] (q ∷ l') r k e = absurd (omega arith)
same-beyond (suc n) (p ∷ l) [] r k e = absurd (omega arith)
same-beyond (suc n) (p ∷ l) (q ∷ l') r k e =
    let s : suc n * 8 ≡ 8 + n * 8 = omega arith in
    let a : List ℕ = record_bytes p ++ (records_bytes l ++ r) in
    let b : List ℕ = record_bytes q ++ (records_bytes l' ++ r) in
    rw s (sym (drop-drop (n * 8) 8 a) ∙ same-beyond n l l' r (omega arith) e ∙ drop-drop (n * 8) 8 b)
