-- The stamps of the two words, put into the lent bytes one after the other.
use Rattle.std.proofs.Common.{◌≡◌, ℕ, ◌-◌, ◌*◌, ◌/◌, ◌<◌, ◌≤◌, List, [], ◌++◌, length, take, drop, sym, ap, ◌∙◌, append-nil, take-append-drop, arith, length-append, length-take, length-drop, take_all, drop_of_length-le, take_at, drop_at}
use Rattle.model.specs.Shown.{early_word}
use Rattle.model.specs.Stamps.{stamps_of}
use Rattle.model.proofs.StampLaws.{early-stamps}
use Rattle.wire.specs.Bytes.{les, wholes}
use Rattle.parts.specs.Parts.{left_over}
use Rattle.parts.proofs.WholeLaws.{wholes_long, les-take, front-places, back-places, back-rest, cut_fits}
use Rattle.table.specs.declared.Row.{Row}
use Rattle.table.specs.Rows.{named}
use Rattle.table.proofs.NamedLaws.{length-named}
use Rattle.words.specs.Left.{wrapped, word_left, words_left}
use Rattle.words.proofs.WordLaws.{length-wrapped, word_fits, both-written}

some : 0 < 4
some = omega arith

-- the part from the n-th number on was lent out of b and came back as part
module _ (b part : List ℕ) (n : ℕ) (h : n ≤ length b / 4) where
  back : List ℕ
  back = part ++ drop (length b - n * 4) (drop (n * 4) b)

  lent : take (length b - n * 4) (drop (n * 4) b) ≡ drop (n * 4) b
  lent = take_all (length b - n * 4) (drop (n * 4) b) (simp length-drop (omega arith))

  front : length (take (n * 4) b) ≡ n * 4
  front = simp length-take (omega (arith, cut_fits 4 some b n h))

  whole : back ≡ part
  unfolding back
  whole = rw (drop_of_length-le (drop (n * 4) b) {i = length b - n * 4} (simp length-drop (omega arith))) (append-nil part)

  now : List ℕ
  now = take (n * 4) b ++ back

  cut : n ≤ length now / 4
  unfolding now
  cut = omega (arith, front, length-append (take (n * 4) b) back)

  after : drop (n * 4) now ≡ part
  unfolding now
  after = drop_at (take (n * 4) b) back (n * 4) front ∙ whole

  before : les 4 n now 0 ≡ take n (wholes 4 b)
  unfolding now
  before =
      sym (les-take 4 n (take (n * 4) b ++ back) (n * 4) 0 (omega arith))
      ∙ rw (take_at (take (n * 4) b) back (n * 4) front) (les-take 4 n b (n * 4) 0 (omega arith))
      ∙ front-places 4 some b n h

  numbers : wholes 4 now ≡ take n (wholes 4 b) ++ wholes 4 part
  numbers =
      sym (take-append-drop n (wholes 4 now))
      ∙ rw (← front-places 4 some now n cut, ← back-places 4 some now n cut, before, after)

  beside : left_over 4 now ≡ left_over 4 part
  beside = sym (back-rest 4 some now n cut) ∙ rw after

  lent-numbers : wholes 4 (take (length b - n * 4) (drop (n * 4) b)) ≡ drop n (wholes 4 b)
  lent-numbers = rw lent (back-places 4 some b n h)

  lent-beside : left_over 4 (take (length b - n * 4) (drop (n * 4) b)) ≡ left_over 4 b
  lent-beside = rw lent (back-rest 4 some b n h)

-- what one call left: its word in the numbers, and nothing beside them
pub record Left (c : List Row) (l : List ℕ) (k m : ℕ) (out₀ out : List ℕ) : Type 0 where
  pub is : wholes 4 out ≡ word_left c l k m (wholes 4 out₀)
  pub rest : left_over 4 out ≡ left_over 4 out₀

-- what both left, the early word put back as the part that was lent
module _ (c : List Row) (l : List ℕ) (k m : ℕ) (out₀ out part : List ℕ) (room : length l * 8 ≤ length out₀) (first : Left c l k k out₀ out)
    (second : Left c l k m (take (length out - length l * 4) (drop (length l * 4) out)) part) where
  abbrev n : ℕ
  n = length l

  fits : n ≤ length out / 4
  fits =
      let w : List ℕ = wrapped (stamps_of (early_word (named c l) k k)) in
      let size : length w ≡ n = length-wrapped (stamps_of (early_word (named c l) k k)) ∙ early-stamps (named c l) k k ∙ length-named c l in
      let e : wholes 4 out ≡ w ++ drop n (wholes 4 out₀) = first.is ∙ word_fits c l k k (wholes 4 out₀) (omega (arith, wholes_long 4 out₀)) in
      omega (arith, wholes_long 4 out, ap length e ∙ length-append w (drop n (wholes 4 out₀)), size)

  pub both-is : wholes 4 (take (n * 4) out ++ (part ++ drop (length out - n * 4) (drop (n * 4) out))) ≡ words_left c l k m (wholes 4 out₀)
  unfolding now back
  both-is =
      let a : List ℕ = wholes 4 out in
      let all : take (length a - n) (drop n a) ≡ drop n a = take_all (length a - n) (drop n a) (simp length-drop (omega arith)) in
      let none : drop (length a - n) (drop n a) ≡ [] = drop_of_length-le (drop n a) {i = length a - n} (simp length-drop (omega arith)) in
      let part-is : wholes 4 part ≡ word_left c l k m (take (length a - n) (drop n a)) =
      rw all (rw (lent-numbers out part n fits) at second.is) in
      let both : take n a ++ (wholes 4 part ++ drop (length a - n) (drop n a)) ≡ words_left c l k m (wholes 4 out₀) =
      both-written c l k m (wholes 4 out₀) a (wholes 4 part) (omega (arith, wholes_long 4 out₀)) first.is part-is in
      numbers out part n fits ∙ rw (none, append-nil (wholes 4 part)) at both

  pub both-rest : left_over 4 (take (n * 4) out ++ (part ++ drop (length out - n * 4) (drop (n * 4) out))) ≡ left_over 4 out₀
  unfolding now back
  both-rest = beside out part n fits ∙ second.rest ∙ lent-beside out part n fits ∙ first.rest
