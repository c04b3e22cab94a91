-- Two outcomes that a call's contract allows are equal: answer, configuration and list.
use mathlib.Core.Path.{◌≡◌, refl, sym, ap, ◌∙◌}
use mathlib.Core.List.{List, [], ◌∷◌, ◌++◌}
use Prim.Native.Nat.{ℕ, zero, suc, ◌*◌, ◌-◌, ◌<◌}
use native.Mathlib.Omega.{arith}
use lib.ListN.{get_or, drop}
use Rattle.std.specs.Prelude.{Ok, Err}
use Rattle.model.specs.Answers.{Fields, fields}
use Rattle.model.specs.Lists.{All, all_cons}
use Rattle.model.specs.Table.{Machine, at}
use Rattle.table.specs.declared.Refusal.TheVariants.{Cut, Misplaced, Full, OutOfRange, Repeated, NoTrace, Uneven, NoRoom, Early, Late}
use Rattle.table.proofs.TestLaws.{answered-only}
use Rattle.records.specs.declared.Pending.{Pending}
use Rattle.player.specs.declared.Config.{Config}
use Rattle.player.specs.declared.Move.{Move}
use Rattle.player.specs.declared.Move.TheVariants.{Time, Input, Output}
use Rattle.player.specs.declared.Denial.{Denial}
use Rattle.player.specs.declared.Denial.TheVariants.{Refused, Closed, Untimely, Split, Spent, Damaged}
use Rattle.player.specs.Answer.{Answer, answer_fields}
use Rattle.player.specs.Moves.{waiting_in, InputDone, OutputDone, MoveDone, PlayOutcome, StartOutcome}

-- the answer of a number and two values
denied : ℕ → ℕ → Denial
denied n a =
    get_or (Damaged ∷ Refused (Cut a) ∷ Refused (Misplaced a) ∷ Refused (Full a) ∷ Refused (OutOfRange a) ∷ Refused (Repeated a) ∷ Refused NoTrace
    ∷ Refused Uneven ∷ Refused NoRoom ∷ Refused (Early a) ∷ Closed ∷ Untimely ∷ Refused (Late a) ∷ Split ∷ Spent ∷ Damaged ∷ []) n Damaged

made : ℕ → ℕ → ℕ → Answer
made zero a b = Ok (record { first = a; second = b })
made (suc n) a b = Err (denied (suc n) a)

made-is : (a : Answer) → made (answer_fields a).status (answer_fields a).first (answer_fields a).second ≡ a
unfolding made denied
made-is (Ok d) = refl
made-is (Err (Refused (Cut p))) = refl
made-is (Err (Refused (Misplaced p))) = refl
made-is (Err (Refused (Full p))) = refl
made-is (Err (Refused (OutOfRange p))) = refl
made-is (Err (Refused (Repeated p))) = refl
made-is (Err (Refused NoTrace)) = refl
made-is (Err (Refused Uneven)) = refl
made-is (Err (Refused NoRoom)) = refl
made-is (Err (Refused (Early p))) = refl
made-is (Err (Refused (Late p))) = refl
made-is (Err Closed) = refl
made-is (Err Untimely) = refl
made-is (Err Split) = refl
made-is (Err Spent) = refl
made-is (Err Damaged) = refl

-- equal fields: equal answers
pub answer-only : (a b : Answer) → answer_fields a ≡ answer_fields b → a ≡ b
answer-only a b e = sym (made-is a) ∙ ap (λ (f : Fields). made f.status f.first f.second) e ∙ made-is b

abbrev head_or : Pending → List Pending → Pending
head_or z [] = z
head_or z (x ∷ l) = x

abbrev tail_of : List Pending → List Pending
tail_of [] = []
tail_of (x ∷ l) = l

-- there is one first record that is due
pub record SameFirst (xs : List Pending) (x : Pending) (ys xs' : List Pending) (x' : Pending) (ys' : List Pending) : Type 0 where
  pub before : xs ≡ xs'
  pub it : x ≡ x'
  pub after : ys ≡ ys'

first-only : (xs : List Pending) (x : Pending) (ys xs' : List Pending) (x' : Pending) (ys' : List Pending) → xs ++ (x ∷ ys) ≡ xs' ++ (x' ∷ ys')
    → x.left ≡ 0 → x'.left ≡ 0 → All (λ p. 0 < p.left) xs → All (λ p. 0 < p.left) xs' → SameFirst xs x ys xs' x' ys'
first-only [] x ys [] x' ys' e d d' a a' = record { before = refl; it = ap (head_or x) e; after = ap tail_of e }
first-only [] x ys (y ∷ xs') x' ys' e d d' a (all_cons k b) = absurd (omega (arith, k, d, ap (λ (l : List Pending). (head_or x l).left) e))
first-only (y ∷ xs) x ys [] x' ys' e d d' (all_cons k b) a' = absurd (omega (arith, k, d', ap (λ (l : List Pending). (head_or x l).left) e))
first-only (y ∷ xs) x ys (y' ∷ xs') x' ys' e d d' (all_cons k b) (all_cons k' b') =
    let r = first-only xs x ys xs' x' ys' (ap tail_of e) d d' b b' in
    let h : y ≡ y' = ap (head_or x) e in
    record { before = rw (h, r.before); it = r.it; after = r.after }

module _ (m : Machine) (c : Config) (l : List Pending) where
  input-only : (letter : ℕ) (f g : Fields) (c' c'' : Config) (l' l'' : List Pending) → InputDone m c l letter f c' l' → InputDone m c l letter g c'' l''
      → (f ≡ g) × (c' ≡ c'') × (l' ≡ l'')
  input-only letter f g c' c'' l' l'' x y =
      let e : x.i ≡ y.i = omega (arith, x.lowest y.i y.opened, y.lowest x.i x.opened) in (
        x.says ∙ ap (λ (i : ℕ). fields 0 i 0 0) e ∙ sym y.says,
        x.config ∙ ap (λ (i : ℕ). record { state = (at m.transitions i).to; inputs = suc c.inputs; waiting = suc c.waiting; timer = 0 }) e
            ∙ sym y.config,
        x.list ∙ ap (λ (i : ℕ). waiting_in c l ++ (record {
          step = suc c.inputs;
          letter = (at m.transitions i).output;
          left = (at
              m.transitions i).d * 256;
        }
            ∷ drop (suc c.waiting) l)) e ∙ sym y.list,
      )

  output-only : (f g : Fields) (c' c'' : Config) (l' l'' : List Pending) → OutputDone c l f c' l' → OutputDone c l g c'' l'' → (f ≡ g) × (c' ≡ c'') × (l' ≡ l'')
  output-only f g c' c'' l' l'' x y =
      let a = x.first in
      let b = y.first in
      let s = first-only a.before a.it a.after b.before b.it b.after (sym a.stands
      ∙ b.stands) a.due b.due a.later b.later in (
        x.says ∙ ap (λ (p : Pending). fields 0 p.step p.letter 0) s.it ∙ sym y.says,
        x.config ∙ sym y.config,
        x.list ∙ ap (λ (k : List Pending). (k ++ a.after) ++ drop (c.waiting - 1) l) s.before
            ∙ ap (λ (k : List Pending). (b.before ++ k) ++ drop (c.waiting - 1) l) s.after ∙ sym y.list,
      )

  pub done-only : (mv : Move) (f g : Fields) (c' c'' : Config) (l' l'' : List Pending) → MoveDone m c l mv f c' l' → MoveDone m c l mv g c'' l''
      → (f ≡ g) × (c' ≡ c'') × (l' ≡ l'')
  done-only (Time t) f g c' c'' l' l'' x y = (x.says ∙ sym y.says, x.config ∙ sym y.config, x.list ∙ sym y.list)
  done-only (Input letter) f g c' c'' l' l'' x y = input-only letter f g c' c'' l' l'' x y
  done-only Output f g c' c'' l' l'' x y = output-only f g c' c'' l' l'' x y

  pub play-only : (mv : Move) (a b : Answer) (c' c'' : Config) (l' l'' : List Pending) → PlayOutcome m c l mv (answer_fields a) c' l'
      → PlayOutcome m c l mv (answer_fields b) c'' l''
      → (a ≡ b) × (c' ≡ c'') × (l' ≡ l'')
  play-only mv a b c' c'' l' l'' x y =
      let r : (answer_fields a ≡ answer_fields b) × (c' ≡ c'') × (l' ≡ l'') =
      answered-only (λ e k n. (e, k.0 ∙ sym n.0, k.1 ∙ sym n.1)) (done-only mv (answer_fields a) (answer_fields b) c' c'' l' l'') x y in
      (answer-only a b r.0, r.1, r.2)

pub start-only : (m : Machine) (lent : ℕ) (a b : Answer) (c c' : Config) → StartOutcome m lent (answer_fields a) c → StartOutcome m lent (answer_fields b) c'
    → (a ≡ b) × (c ≡ c')
start-only m lent a b c c' x y =
    let r : (answer_fields a ≡ answer_fields b) × (c ≡ c') =
    answered-only (λ e k n. (e, k ∙ sym n)) (λ d e. (d.0 ∙ sym e.0, d.1 ∙ sym e.1)) x y in
    (answer-only a b r.0, r.1)
