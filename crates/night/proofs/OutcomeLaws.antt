-- Two outcomes that the contract of a night allows are equal, and what is said of a word.
use mathlib.Core.Path.{◌≡◌, refl, sym, ap, ◌∙◌}
use mathlib.Core.Logic.{◌⊎◌, inl, inr, ⊎_elim}
use mathlib.Core.List.{List, [], ◌∷◌, ◌++◌}
use Prim.Native.Nat.{ℕ, zero, suc, ◌+◌, ◌*◌, ◌≤◌, ◌<◌}
use native.Mathlib.Omega.{arith}
use lib.ListN.{length, get_or, take, drop, take-append-drop}
use lib.Seq.{take-add}
use Rattle.model.specs.Answers.{Fields, fields}
use Rattle.model.specs.Table.{Transition, Machine}
use Rattle.model.specs.Trace.{steps}
use Rattle.model.specs.Stamps.{gaps_from}
use Rattle.model.proofs.Paths.{length-steps}
use Rattle.table.specs.declared.Row.{Row}
use Rattle.table.specs.Tests.{Test, Passes, Answered, refuses, answers}
use Rattle.table.proofs.RefusalLaws.{refusal-some, refused-only}
use Rattle.table.proofs.TestLaws.{fails-back, answered-only}
use Rattle.replay.specs.Play.{gap_tests, ReplayOutcome}
use Rattle.replay.proofs.GapLaws.{gaps-refuse}
use Rattle.replay.proofs.ReplayLaws.{first}
use Rattle.replay.proofs.OutcomeLaws.{fields-only, word-run-only}
use Rattle.std.specs.Prelude.{Ok, Err}
use Rattle.night.specs.Night.{Words, words_fields, part, words_tests, EachWord, WordPlays, WordsOutcome, ListsWords}
use Rattle.night.proofs.NightLaws.{word_first}

-- equal fields: equal answers
pub words-said : (a b : Words) → words_fields a ≡ words_fields b → a ≡ b
words-said (Ok w) (Ok v) e = ap Ok (ap (λ f. f.first) e)
words-said (Ok w) (Err s) e = absurd (omega (arith, refusal-some s, ap (λ f. f.status) e))
words-said (Err r) (Ok v) e = absurd (omega (arith, refusal-some r, ap (λ f. f.status) e))
words-said (Err r) (Err s) e = ap Err (refused-only r s e)

-- lists are equal whose words are, and what lies beyond them
parts-front : (n words : ℕ) (l k : List ℕ) → ((w : ℕ) → w < words → part n w l ≡ part n w k) → take (words * n) l ≡ take (words * n) k
parts-front n zero l k e = let z : 0 * n ≡ 0 = omega arith in rw z refl
parts-front n (suc w) l k e =
    let z : suc w * n ≡ w * n + n = omega arith in
    rw (z, take-add (w * n) n l, take-add (w * n) n k, parts-front n w l k (λ v h. e v (omega arith)), e w (omega arith)) refl

parts-only : (n words : ℕ) (l k : List ℕ) → ((w : ℕ) → w < words → part n w l ≡ part n w k) → drop (words * n) l ≡ drop (words * n) k → l ≡ k
parts-only n words l k e r =
    sym (take-append-drop (words * n) l) ∙ rw (parts-front n words l k e, r) (take-append-drop (words * n) k)

-- what the words do decides all three buffers
pub each-only : (a b c : ℕ) {Does Does' : (w : ℕ) (order₀ due₀ order due mark : List ℕ) → Type 0} (words : ℕ) (o₀ d₀ m₀ o d k o' d' k' : List ℕ)
    → ((w : ℕ) → w < words → (x y z x' y' z' : List ℕ) → Does w (part a w o₀) (part b w d₀) x y z → Does' w (part a w o₀) (part b w d₀) x' y' z'
    → (x ≡ x') × (y ≡ y') × (z ≡ z'))
    → EachWord a b c Does words o₀ d₀ m₀ o d k → EachWord a b c Does' words o₀ d₀ m₀ o' d' k' → (o ≡ o') × (d ≡ d') × (k ≡ k')
each-only a b c words o₀ d₀ m₀ o d k o' d' k' one p q = (
  parts-only a words o o' (λ w h. (same w h).0) (p.order_rest ∙ sym q.order_rest),
  parts-only b words d d' (λ w h. (same w h).1) (p.due_rest ∙ sym q.due_rest),
  parts-only c words k k' (λ w h. (same w h).2) (p.marks_rest ∙ sym q.marks_rest),
)
  where
    same : (w : ℕ) → w < words → (part a w o ≡ part a w o') × (part b w d ≡ part b w d') × (part c w k ≡ part c w k')
    same w h = one w h (part a w o) (part b w d) (part c w k) (part a w o') (part b w d') (part c w k') (p.word w h) (q.word w h)

-- after the tests of the call a word is played or refused with 9 or 12, and with nothing else
abbrev pub PlayedOrMissed : ℕ → Fields → Type 0
PlayedOrMissed n f =
    (f ≡ fields 0 0 0 0) ⊎ (((f ≡ fields 9 f.first 0 0) ⊎ (f ≡ fields 12 f.first 0 0)) × (1 ≤ f.first) × (f.first ≤ n))

pub played-or-missed : (tests : List Test) (tr : List Transition) (gaps : List ℕ) {Done : Fields → Type 0} {Kept : Type 0} {f : Fields} → Passes tests
    → (Done f → f ≡ fields 0 0 0 0) → Answered (tests ++ gap_tests 0 tr gaps) Done Kept f → PlayedOrMissed (length tr) f
played-or-missed tests tr gaps p done (answers passes d) = inl (done d)
played-or-missed tests tr gaps p done (refuses {n = i} {p = at} e fails kept) =
    let r = gaps-refuse gaps 0 tr i at ((fails-back tests (gap_tests 0 tr gaps) i at p).0 fails) in
    inr (⊎_elim (λ (z : i ≡ 9). inl (rw (e, z) refl)) (λ (z : i ≡ 12). inr (rw (e, z) refl)) r.0, rw e (omega arith), rw e (omega arith))

module _ (m : Machine) (trace starts stamps o₀ d₀ m₀ : List ℕ) where
  abbrev n : ℕ
  n = length trace

  abbrev Single : (w : ℕ) (o₀ d₀ o d mark : List ℕ) → Type 0
  Single w o₀ d₀ o d mark = WordPlays (λ f. ReplayOutcome m trace (get_or starts w 0) (part n w stamps) o₀ d₀ f o d) (λ step. mark ≡ step ∷ [])

  -- two outcomes that the contract allows for one input are equal, answer and all three buffers
  pub words-only : (r s : Words) (o d k o' d' k' : List ℕ) → WordsOutcome m trace starts stamps o₀ d₀ m₀ (words_fields r) o d k
      → WordsOutcome m trace starts stamps o₀ d₀ m₀ (words_fields s) o' d' k' → (r ≡ s) × (o ≡ o') × (d ≡ d') × (k ≡ k')
  words-only r s o d k o' d' k' a b =
      answered-only {R = (r ≡ s) × (o ≡ o') × (d ≡ d') × (k ≡ k')}
      (λ e x y. (words-said r s e, x.0 ∙ sym y.0, x.1 ∙ sym y.1, x.2 ∙ sym y.2))
      (λ x y.
      let e = each-only n n 1 (length starts) o₀ d₀ m₀ o d k o' d' k' one x.1 y.1 in
      (words-said r s (x.0 ∙ sym y.0), e.0, e.1, e.2))
      a b
    where
      one : (w : ℕ) → w < length starts → (x y z x' y' z' : List ℕ) → Single w (part n w o₀) (part n w d₀) x y z
          → Single w (part n w o₀) (part n w d₀) x' y' z' → (x ≡ x') × (y ≡ y') × (z ≡ z')
      one w h x y z x' y' z' p q =
          let e = fields-only m trace (get_or starts w 0) (part n w stamps) (part n w o₀) (part n w d₀) x y x' y' p.outcome q.outcome in
          (e.1, e.2, p.marked ∙ ap (λ (f : Fields). f.first ∷ []) e.0 ∙ sym q.marked)

  -- so the mark is 0 or names a step of the trace
  pub word-said : Passes (words_tests m trace starts stamps o₀ d₀ m₀) → (w : ℕ) (o d : List ℕ) {Marked : ℕ → Type 0} → w < length starts
      → (x : WordPlays (λ f. ReplayOutcome m trace (get_or starts w 0) (part n w stamps) (part n w o₀) (part n w d₀) f o d) Marked)
      → PlayedOrMissed n x.said
  word-said p w o d h x =
      rw (← length-steps m.transitions trace)
      (played-or-missed (first m trace (get_or starts w 0) (part n w stamps) (part n w o₀) (part n w d₀)) (steps m.transitions trace)
      (gaps_from (get_or starts w 0) (part n w stamps)) (word_first m trace starts stamps o₀ d₀ m₀ p w h) (λ d. d.0) x.outcome)

-- the same over lists however they stand in memory: answer and all three
module _ (c : List Row) (T A S : Type 0) (trace starts stamps o₀ d₀ m₀ : List ℕ) where
  abbrev Lists : Fields → List ℕ → List ℕ → List ℕ → Type 0
  Lists f o d k = ListsWords c T A S trace starts stamps o₀ d₀ m₀ f o d k

  pub lists-words-only : (f g : Fields) (o d k o' d' k' : List ℕ) → Lists f o d k → Lists g o' d' k' → (f ≡ g) × (o ≡ o') × (d ≡ d') × (k ≡ k')
  lists-words-only f g o d k o' d' k' a b =
      answered-only {R = (f ≡ g) × (o ≡ o') × (d ≡ d') × (k ≡ k')} (λ e x y. (e, x.0 ∙ sym y.0, x.1 ∙ sym y.1, x.2 ∙ sym y.2))
      (λ x y.
      let e = each-only (length trace) (length trace) 1 (length starts) o₀ d₀ m₀ o d k o' d' k'
      (λ w h x y z x' y' z' p q.
      let r = word-run-only p.outcome q.outcome in
      (r.1, r.2, p.marked ∙ ap (λ (f : Fields). f.first ∷ []) r.0 ∙ sym q.marked)) x.1 y.1 in
      (x.0 ∙ sym y.0, e.0, e.1, e.2))
      a b
