-- Two answers on one table agree in all but the trace that is shown, and in everything if they show one trace.
use Rattle.std.specs.Prelude.{Err}
use mathlib.Core.Path.{◌≡◌, refl, sym, ap, ◌∙◌}
use mathlib.Core.Logic.{dite}
use mathlib.Core.List.{List}
use Prim.Native.Nat.{ℕ, suc, ◌-◌, ◌≤◌, ◌<◌}
use native.Mathlib.Decide.{dec_lt}
use native.Mathlib.Omega.{arith}
use lib.ListN.{length, take, drop, get_or}
use lib.Seq.{take_at}
use Rattle.model.specs.Answers.{Fields, fields}
use Rattle.model.specs.Lists.{over}
use Rattle.model.specs.Table.{Transition, Machine}
use Rattle.model.specs.Verdict.{StepOf, ShowsLowest}
use Rattle.table.specs.Refusal.{Checked}
use Rattle.table.specs.declared.Refusal.{Refusal}
use Rattle.table.specs.Refusal.{refused_fields, checked_fields}
use Rattle.table.specs.Tests.{Test, Tested, Answered, refuses, answers}
use Rattle.table.specs.Showing.{Showing, says_none, says_shown, ShownOn, shown_in, Agree, at_step, ByTrace}
use Rattle.table.proofs.TestLaws.{Numbered, fails-numbered, passes-fails, fails-only, answered-only, answered-done, tested-fails}

-- the values of an answer
pub values : {f : Fields} {a b c d : ℕ} → f ≡ fields a b c d → (f.status ≡ a) × (f.first ≡ b) × (f.second ≡ c) × (f.steps ≡ d)
values e = (ap (λ x. x.status) e, ap (λ x. x.first) e, ap (λ x. x.second) e, ap (λ x. x.steps) e)

-- what is written over lent memory stands first in it
pub over-front : (l old : List ℕ) → take (length l) (over l old) ≡ l
over-front l old = take_at l (drop (length l) old) (length l) refl

-- what is proved of a kind of answer once, for values and for bytes: its number, its steps, what its trace leaves open
pub record Pinned (Quiet : Type 0) (Shows : Fields → List ℕ → List ℕ → Type 0) (Same : Fields → List ℕ → Fields → List ℕ → Type 0) : Type 0 where
  pub number : (f : Fields) (l s : List ℕ) → Shows f l s → 256 ≤ f.status
  pub steps : (f : Fields) (l s : List ℕ) → Shows f l s → f.steps ≡ length l
  pub apart : Quiet → (f : Fields) (l s : List ℕ) → Shows f l s → ⊥
  pub kind : (f g : Fields) (l s l' s' : List ℕ) → Shows f l s → Shows g l' s' → f.status ≡ g.status
  pub same : (f g : Fields) (l s l' s' : List ℕ) → Shows f l s → Shows g l' s' → Same f l g l'
  pub only : (f g : Fields) (l s s' : List ℕ) → Shows f l s → Shows g l s' → (f ≡ g) × (s ≡ s')

module _ {Quiet : Type 0} {Shows : Fields → List ℕ → List ℕ → Type 0} where
  -- the same answer over other memory
  pub showing-map : {Kept Kept' : Type 0} {Left Left' : List ℕ → List ℕ → Type 0} {f : Fields} → (Kept → Kept')
      → ((l s : List ℕ) → Shows f l s → Left l s → Left' l s) → Showing Quiet Shows Kept Left f → Showing Quiet Shows Kept' Left' f
  showing-map kept left (says_none e q k) = says_none e q (kept k)
  showing-map kept left (says_shown {trace = l} {stamps = s} x p) = says_shown x (left l s x p)

  module _ {Same : Fields → List ℕ → Fields → List ℕ → Type 0} (pinned : Pinned Quiet Shows Same) where
    -- one answer: the shown trace stands first in the trace places
    shown-is : {Left : List ℕ → List ℕ → Type 0} {f : Fields} {places : List ℕ} → ((l s : List ℕ) → Left l s → take (length l) places ≡ l)
        → (l s : List ℕ) → Shows f l s → Left l s → shown_in f places ≡ l
    shown-is {f = f} reads l s x p = rw (pinned.steps f l s x) (reads l s p)

    -- what is so of every shown trace
    showing-is : {Kept : Type 0} {Left : List ℕ → List ℕ → Type 0} {f : Fields} {places : List ℕ} → ((l s : List ℕ) → Left l s → take (length l) places ≡ l)
        → (P : List ℕ → Type 0) → ((l s : List ℕ) → Shows f l s → P l) → 256 ≤ f.status → Showing Quiet Shows Kept Left f → P (shown_in f places)
    showing-is reads P h n (says_none e q k) = absurd (omega (arith, ap (λ x. x.status) e))
    showing-is reads P h n (says_shown {trace = l} {stamps = s} x p) = rw (shown-is reads l s x p) (h l s x)

    showing-plain : {Kept : Type 0} {Left : List ℕ → List ℕ → Type 0} {f : Fields} → f.status < 256 → Showing Quiet Shows Kept Left f → f.steps ≡ 0
    showing-plain h (says_none e q k) = ap (λ x. x.steps) e
    showing-plain {f = f} h (says_shown {trace = l} {stamps = s} x p) = absurd (omega (arith, pinned.number f l s x))

    -- two answers
    module _ {Kept Kept' : Type 0} {Left Left' : List ℕ → List ℕ → Type 0} {f g : Fields} {places places' : List ℕ}
        (reads : (l s : List ℕ) → Left l s → take (length l) places ≡ l) (reads' : (l s : List ℕ) → Left' l s → take (length l) places' ≡ l) where
      pub showing-agree : Showing Quiet Shows Kept Left f → Showing Quiet Shows Kept' Left' g → Agree Same f places g places'
      showing-agree (says_none e q k) (says_none e' q' k') = record {
        kind = ap (λ x. x.status) (e ∙ sym e');
        plain = λ h. e ∙ sym e';
        shown = λ h. absurd (omega (arith, ap (λ x. x.status) e));
      }
      showing-agree (says_none e q k) (says_shown {trace = l} {stamps = s} x p) = absurd (pinned.apart q g l s x)
      showing-agree (says_shown {trace = l} {stamps = s} x p) (says_none e q k) = absurd (pinned.apart q f l s x)
      showing-agree (says_shown {trace = l} {stamps = s} x p) (says_shown {trace = l'} {stamps = s'} y p') = record {
        kind = pinned.kind f g l s l' s' x y;
        plain = λ h. absurd (omega (arith, pinned.number f l s x));
        shown = λ h. rw (shown-is reads l s x p, shown-is reads' l' s' y p') (pinned.same f g l s l' s' x y);
      }

      -- if they show one trace: one number and its values, and the same memory where kept and left memory are the same
      pub showing-only : {R : Type 0} → (Kept → Kept' → R) → ((l s : List ℕ) → Left l s → Left' l s → R)
          → Showing Quiet Shows Kept Left f → Showing Quiet Shows Kept' Left' g → shown_in f places ≡ shown_in g places' → (f ≡ g) × R
      showing-only kept left (says_none e q k) (says_none e' q' k') h = (e ∙ sym e', kept k k')
      showing-only kept left (says_none e q k) (says_shown {trace = l} {stamps = s} x p) h = absurd (pinned.apart q g l s x)
      showing-only kept left (says_shown {trace = l} {stamps = s} x p) (says_none e q k) h = absurd (pinned.apart q f l s x)
      showing-only kept left (says_shown {trace = l} {stamps = s} x p) (says_shown {trace = l'} {stamps = s'} y p') h =
          let w : l' ≡ l = sym (shown-is reads' l' s' y p') ∙ sym h ∙ shown-is reads l s x p in
          let o = pinned.only f g l s s' x (rw w at y) in
          (o.0, left l s p (rw (w, sym o.1) at p'))

    -- and with the tests before them: equal fields over equal memory, as two refusals leave them
    module _ {tests : List Test} {Kept Kept' : Type 0} {Left Left' : List ℕ → List ℕ → Type 0} {f g : Fields} {places places' : List ℕ}
        (reads : (l s : List ℕ) → Left l s → take (length l) places ≡ l) (reads' : (l s : List ℕ) → Left' l s → take (length l) places' ≡ l)
        (x : Answered tests (Showing Quiet Shows Kept Left) Kept f) (y : Answered tests (Showing Quiet Shows Kept' Left') Kept' g) where
      pub told-only : {R : Type 0} → (Kept → Kept' → R) → ((l s : List ℕ) → Left l s → Left' l s → R) → shown_in f places ≡ shown_in g places' → (f ≡ g) × R
      told-only kept left h = answered-only (λ e k l. (e, kept k l)) (λ d e. showing-only reads reads' kept left d e h) x y

    module _ {tests : List Test} (numbered : Numbered tests) where
      -- what is so of every shown trace
      pub told_is : {Kept : Type 0} {Left : List ℕ → List ℕ → Type 0} {f : Fields} {places : List ℕ} → ((l s : List ℕ) → Left l s → take (length l) places ≡ l)
          → (P : List ℕ → Type 0) → ((l s : List ℕ) → Shows f l s → P l) → 256 ≤ f.status → Answered tests (Showing Quiet Shows Kept Left) Kept f
          → P (shown_in f places)
      told_is reads P h n x = showing-is reads P h n (answered-done numbered (λ a b. omega arith) x).1

      -- a quiet answer and a refusal show no trace
      pub told-plain : {Kept : Type 0} {Left : List ℕ → List ℕ → Type 0} {f : Fields} → f.status < 256 → Answered tests (Showing Quiet Shows Kept Left) Kept f
          → f.steps ≡ 0
      told-plain h (refuses e b k) = ap (λ x. x.steps) e
      told-plain h (answers p d) = showing-plain h d

      -- whatever traces they show
      pub told-agree : {Kept Kept' : Type 0} {Left Left' : List ℕ → List ℕ → Type 0} {f g : Fields} {places places' : List ℕ}
          → ((l s : List ℕ) → Left l s → take (length l) places ≡ l) → ((l s : List ℕ) → Left' l s → take (length l) places' ≡ l)
          → Answered tests (Showing Quiet Shows Kept Left) Kept f → Answered tests (Showing Quiet Shows Kept' Left') Kept' g → Agree Same f places g places'
      told-agree reads reads' (answers p d) (answers q e) = showing-agree reads reads' d e
      told-agree reads reads' (answers p d) (refuses {n = n} {p = i} e b k) = absurd (passes-fails tests n i p b)
      told-agree reads reads' (refuses {n = n} {p = i} e b k) (answers p d) = absurd (passes-fails tests n i p b)
      told-agree {f = f} {g = g} reads reads' (refuses {n = n} {p = i} e b k) (refuses {n = m} {p = j} c d l) =
          let o = fails-only tests n i m j b d in
          let q : f ≡ g = e ∙ rw (o.0, o.1) (sym c) in
          record {
            kind = ap (λ x. x.status) q;
            plain = λ h. q;
            shown = λ h. absurd (omega (arith, fails-numbered tests n i numbered b, ap (λ x. x.status) e));
          }

-- a call on values
module _ {Quiet : Type 0} {Shows : Fields → List ℕ → List ℕ → Type 0} {Same : Fields → List ℕ → Fields → List ℕ → Type 0} (pinned : Pinned Quiet Shows Same)
    (tests : List Test) (numbered : Numbered tests) (trace₀ stamps₀ : List ℕ) where
  read : (trace stamps : List ℕ) (l s : List ℕ) → (trace ≡ over l trace₀) × (stamps ≡ over s stamps₀) → take (length l) trace ≡ l
  read trace stamps l s p = rw p.0 (over-front l trace₀)

  pub values-is : {f : Fields} {trace stamps : List ℕ} (P : List ℕ → Type 0) → ((l s : List ℕ) → Shows f l s → P l) → 256 ≤ f.status
      → ShownOn tests Quiet Shows trace₀ stamps₀ f trace stamps → P (shown_in f trace)
  values-is {trace = trace} {stamps = stamps} = told_is pinned numbered (read trace stamps)

  module _ {f g : Fields} {trace stamps trace' stamps' : List ℕ} (x : ShownOn tests Quiet Shows trace₀ stamps₀ f trace stamps)
      (y : ShownOn tests Quiet Shows trace₀ stamps₀ g trace' stamps') where
    -- whatever traces they show
    pub values_agree : Agree Same f trace g trace'
    values_agree = told-agree pinned numbered (read trace stamps) (read trace' stamps') x y

    -- two outcomes that show one trace are equal: answer, trace places and stamp places
    pub values-only : shown_in f trace ≡ shown_in g trace' → (f ≡ g) × (trace ≡ trace') × (stamps ≡ stamps')
    values-only h =
        let o : (f ≡ g) × ((trace ≡ trace') × (stamps ≡ stamps')) = told-only pinned (read trace stamps) (read trace' stamps') x y
        (λ k l. (k.0 ∙ sym l.0, k.1 ∙ sym l.1)) (λ a b k l. (k.0 ∙ sym l.0, k.1 ∙ sym l.1)) h in
        (o.0, o.1.0, o.1.1)

    -- two outcomes that show nothing are equal
    pub values-plain-only : f.status < 256 → (f ≡ g) × (trace ≡ trace') × (stamps ≡ stamps')
    values-plain-only h =
        let e : f ≡ g = values_agree.plain h in
        let n : f.steps ≡ 0 = told-plain pinned numbered h x in
        values-only (rw (← e, n) refl)

-- a call whose tests were made before it
module _ (tests : List Test) {Quiet : Type 0} {Shows : Fields → List ℕ → List ℕ → Type 0} (trace₀ stamps₀ : List ℕ) where
  pub shown-refused : {a : Checked} {x : Refusal} → a ≡ Err x → Tested tests (checked_fields a)
      → ShownOn tests Quiet Shows trace₀ stamps₀ (refused_fields x) trace₀ stamps₀
  shown-refused e h = refuses refl (tested-fails tests e h) (refl, refl)

-- a pair shown by the lowest transition that starts one
module _ {Pair : List Transition → ℕ → ℕ → Type 0} {m : Machine} where
  -- the transition at K is one
  lowest-is : {shown : List ℕ} {k last : ℕ} → ShowsLowest Pair m shown k last → StepOf Pair m (get_or shown k 0)
  lowest-is {shown} {k} {last} a = record { trace = shown; end = a.end; path = a.path; k = k; later = last; here = refl; pair = a.pair }

  module _ {shown shown' : List ℕ} {k last k' last' : ℕ} (a : ShowsLowest Pair m shown k last) (b : ShowsLowest Pair m shown' k' last') where
    -- two of them have one transition at K
    pub lowest-same : get_or shown k 0 ≡ get_or shown' k' 0
    lowest-same = omega (arith, a.lowest _ (lowest-is b), b.lowest _ (lowest-is a))

    -- and in one trace one K and one M
    pub lowest-only : shown ≡ shown' → (k ≡ k') × (last ≡ last')
    lowest-only w =
        let t : get_or shown k 0 ≡ get_or shown k' 0 = lowest-same ∙ ap (λ (x : List ℕ). get_or x k' 0) (sym w) in
        let c : k ≡ k' =
        dite (dec_lt k k') (λ h. absurd (b.earliest k h (ap (λ (x : List ℕ). get_or x k 0) (sym w) ∙ lowest-same)))
        (λ h. dite (dec_lt k' k) (λ i. absurd (a.earliest k' i (sym t))) (λ i. omega arith)) in
        (c, omega (arith, a.ends, b.ends, ap length w))

  -- K is the first place of its transition in the shown trace, and M the trace's length
  pub lowest_by : {shown : List ℕ} {k last : ℕ} → ShowsLowest Pair m shown k last → k < last → ByTrace shown (suc k) (suc last)
  lowest_by {shown} {k} a h = record {
    whole = sym a.ends;
    some = omega arith;
    inside = omega arith;
    first = λ x s l e. a.earliest (x - 1) (omega arith) (e ∙ (let z : suc k - 1 ≡ k = omega arith in ap (λ (y : ℕ). get_or shown y 0) z));
  }

-- K and M are functions of the shown trace and the transition at K
pub by-trace-only : {shown : List ℕ} {k m x n : ℕ} → ByTrace shown k m → ByTrace shown x n → at_step shown k ≡ at_step shown x → (k ≡ x) × (m ≡ n)
by-trace-only {shown} {k} {m} {x} {n} a b e =
    dite (dec_lt k x) (λ h. absurd (b.first k a.some h e))
    (λ h. dite (dec_lt x k) (λ g. absurd (a.first x b.some g (sym e))) (λ g. (omega arith, a.whole ∙ sym b.whole)))
