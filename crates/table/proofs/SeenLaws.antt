-- What the places say of the transitions that were met.
use mathlib.Core.Path.{◌≡◌, refl, sym, ◌∙◌}
use mathlib.Core.Bool.{Bool, true, false}
use mathlib.Core.Logic.{◌⊎◌, inl, inr, ⊎_elim, dite}
use mathlib.Core.List.{List, [], ◌∷◌, ◌++◌}
use Prim.Native.Nat.{ℕ, ◌+◌, ◌%◌, ◌/◌, ◌≤◌, ◌<◌}
use native.Mathlib.Decide.{ℕ_discrete, dec_lt}
use native.Mathlib.Omega.{arith}
use borrow.Author.Tests.{eq-eqb, ne_eqb, lt-ltb, le-ltb}
use lib.Dec.{eqb}
use lib.ListN.{length, get_or, set, length-set, get_or-eq_default}
use Rattle.std.proofs.lemmas.Bool.{false_from_ne_true, both_ways, or_from}
use lib.Seq.{set_out, get_or-set_same, get_or-set_other}
use Rattle.model.specs.Lists.{In}
use Rattle.model.specs.Table.{Transition}
use Rattle.model.proofs.Lists.{in-append}
use Rattle.table.specs.Rows.{listed}
use Rattle.table.specs.Check.{has}
use Rattle.table.specs.Seen.{key_of, place_of, mark_of, mark_at, Stands, suspect, noted, Marked}
use Rattle.table.proofs.RowLaws.{listed_more}
use Rattle.table.proofs.RangeLaws.{has_in, or_right}

-- a place is among those that there are
module _ (size key : ℕ) where
  pub place-few : size < 2048 → key / 4194304 % 256 ≡ place_of size key
  unfolding place_of
  place-few h = rw (lt-ltb size 2048 h)

  pub place-many : 2048 ≤ size → key / 4194304 % 2048 ≡ place_of size key
  unfolding place_of
  place-many h = rw (le-ltb size 2048 h)

  place_inside : 256 ≤ size → place_of size key < size
  place_inside h = dite (dec_lt size 2048) (λ (g : size < 2048). omega (arith, place-few g)) (λ n. omega (arith, place-many (omega arith)))

-- what a place says of a key, and what is put there
module _ (seen : List ℕ) (key : ℕ) where
  pub suspect-other : (mark_at seen key ≡ mark_of key → ⊥) → (mark_at seen key ≡ 255 → ⊥) → suspect seen key ≡ false
  unfolding suspect
  suspect-other a b = or_from (eqb (mark_at seen key) (mark_of key)) _ (ne_eqb _ _ a) (ne_eqb _ _ b)

  pub suspect-own : Stands seen key → suspect seen key ≡ true
  unfolding suspect
  suspect-own (inl e) = rw (eq-eqb (mark_at seen key) (mark_of key) e)
  suspect-own (inr e) = or_right (eqb (mark_at seen key) (mark_of key)) _ (eq-eqb _ _ e)

  -- another's mark stands there, or none that tells
  pub suspect-full : (mark_at seen key ≡ mark_of key → ⊥) → suspect seen key ≡ eqb (mark_at seen key) 255
  unfolding suspect
  suspect-full n = rw (ne_eqb (mark_at seen key) (mark_of key) n)

  pub noted-first : mark_at seen key ≡ 0 → set seen (place_of (length seen) key) (mark_of key) ≡ noted seen key
  unfolding noted
  noted-first e = rw (eq-eqb (mark_at seen key) 0 e)

  pub noted-again : (mark_at seen key ≡ 0 → ⊥) → set seen (place_of (length seen) key) 255 ≡ noted seen key
  unfolding noted
  noted-again n = rw (ne_eqb (mark_at seen key) 0 n)

  -- where there is no such place, nothing stands and nothing is put
  pub noted-nowhere : length seen ≤ place_of (length seen) key → seen ≡ noted seen key
  noted-nowhere h = sym (set_out seen _ (mark_of key) h) ∙ noted-first (get_or-eq_default seen 0 h)

  -- the mark where nothing stood, else 255
  noted-is : (x : ℕ) × (noted seen key ≡ set seen (place_of (length seen) key) x) × (((x ≡ mark_of key) × (mark_at seen key ≡ 0)) ⊎ (x ≡ 255))
  noted-is =
      dite (ℕ_discrete (mark_at seen key) 0)
      (λ e. (mark_of key, sym (noted-first e), inl (refl, e)))
      (λ n. (255, sym (noted-again n), inr refl))

-- a loop over transitions: before the first, and one more
pub marked_start : (f : ℕ → Transition) (seen : List ℕ) → 256 ≤ length seen → Marked seen (listed f 0)
unfolding listed
marked_start f seen e = record { size = e; each = λ t m. absurd m }

pub marked-listed : (f : ℕ → Transition) (i : ℕ) {seen : List ℕ} {t : Transition} → t ≡ f i → Marked seen (listed f i ++ (t ∷ [])) → Marked seen (listed f (i + 1))
marked-listed f i e m = rw (listed_more f i, ← e) m

-- t comes next
module _ {seen : List ℕ} {ts : List Transition} (p : Marked seen ts) (t : Transition) where
  abbrev k : ℕ
  k = place_of (length seen) (key_of t)

  -- its own mark where nothing stood, or 255
  put-marked : (x : ℕ) → ((x ≡ mark_of (key_of t)) × (get_or seen k 0 ≡ 0)) ⊎ (x ≡ 255) → Marked (set seen k x) (ts ++ (t ∷ []))
  put-marked x w =
      record {
        size = rw (length-set seen k x) p.size;
        each = λ s i. rw (length-set seen k x) (⊎_elim (old s) (⊎_elim (own s) (λ z. absurd z)) ((in-append s ts (t ∷ [])).0 i));
      }
    where
      put : get_or (set seen k x) k 0 ≡ x
      put = get_or-set_same seen k x 0 (place_inside (length seen) (key_of t) p.size)

      -- a key by what stands at its place now
      Now : Transition → Type 0
      Now s = (get_or (set seen k x) (place_of (length seen) (key_of s)) 0 ≡ mark_of (key_of s)) ⊎ (get_or (set seen k x) (place_of (length seen) (key_of s)) 0 ≡ 255)

      here : Now t
      here = ⊎_elim (λ y. inl (put ∙ y.0)) (λ y. inr (put ∙ y)) w

      own : (s : Transition) → s ≡ t → Now s
      own s q = rw q here

      full : (s : Transition) → In s ts → place_of (length seen) (key_of s) ≡ k → get_or seen k 0 ≡ 0 → ⊥
      full s i q z = ⊎_elim (λ a. omega arith) (λ a. omega arith) (rw (q, z) at (p.each s i))

      old : (s : Transition) → In s ts → Now s
      old s i =
          dite (ℕ_discrete (place_of (length seen) (key_of s)) k)
          (λ q. rw (q, put) (⊎_elim (λ y. absurd (full s i q y.1)) (λ y. inr y) w))
          (λ n. rw (get_or-set_other seen k (place_of (length seen) (key_of s)) x 0 n) (p.each s i))

  marked-noted : Marked (noted seen (key_of t)) (ts ++ (t ∷ []))
  marked-noted = let n = noted-is seen (key_of t) in rw n.1 (put-marked n.0 n.2)

  -- by its key
  module _ {key : ℕ} (e : key ≡ key_of t) where
    -- what the marks rule out was not met
    pub marked-not : {b : Bool} → b ≡ suspect seen key → b ≡ false → has t ts ≡ false
    marked-not s n =
        let q : suspect seen (key_of t) ≡ false = rw e at (sym s ∙ n) in
        false_from_ne_true (has t ts) (λ h. both_ways _ q (suspect-own seen (key_of t) (p.each t ((has_in t ts).0 h))))

    pub marked_next : {seen' : List ℕ} → seen' ≡ noted seen key → Marked seen' (ts ++ (t ∷ []))
    marked_next s = rw (s, e) marked-noted
