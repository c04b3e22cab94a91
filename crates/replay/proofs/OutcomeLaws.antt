-- Two outcomes that replay's contract allows are equal, and how late a response can be due.
use Rattle.table.specs.Refusal.{Checked, passing, checked_fields}
use Rattle.table.proofs.RefusalLaws.{checked-only}
use Rattle.std.proofs.Common.{◌≡◌, ℕ, ◌<◌, ◌≤◌, List, ◌++◌, map, length, get_or, drop, sym, ap, ◌∙◌, subst, arith}
use lib.ListN.{length-map, get_or-append}
use Rattle.table.specs.declared.Row.{Row}
use Rattle.model.specs.Answers.{Fields}
use Rattle.model.specs.Table.{Transition, Machine}
use Rattle.model.specs.Trace.{steps}
use Rattle.model.specs.Word.{Word}
use Rattle.model.specs.Order.{Response, response}
use Rattle.model.specs.Stamps.{word_from}
use Rattle.model.proofs.Lists.{in-at, get_or-map}
use Rattle.model.proofs.Conversion.{ordered-only, conversion-only}
use Rattle.model.proofs.Limits.{due-512}
use Rattle.model.proofs.Paths.{length-steps}
use Rattle.table.specs.declared.Table.{Table}
use Rattle.table.specs.Rows.{machine_of}
use Rattle.table.specs.Tests.{Test, Passes}
use Rattle.table.proofs.TestLaws.{Numbered, answered-done, answered-only}
use Rattle.replay.specs.Play.{replay_tests, Plays, PlayOutcome, ReplayOutcome}
use Rattle.replay.specs.Laid.{Laid, WordRun, ListsRun}
use Rattle.replay.proofs.WordLaws.{parts-of}
use Rattle.replay.proofs.LaidLaws.{conversion-length}
use Rattle.replay.proofs.ReplayLaws.{replay-numbered, all_first, passed-handed, passed-ranged}

-- on values and on bytes: what the answer tells, and that it tells one thing
module _ {tests : List Test} {tr : List Transition} {w : Word} {order due : List ℕ → Type 0} {Kept : Type 0} where
  pub played : Numbered tests → PlayOutcome tests tr w order due Kept (checked_fields passing) → Passes tests × Plays tr w order due
  played n x = let r = answered-done n (λ h k. omega arith) x in (r.0, r.1.1)

  -- one number and its values, and the same memory where it is kept, and where the same numbers stand in it
  pub play-only : {order' due' : List ℕ → Type 0} {Kept' R : Type 0} {f g : Fields} → (Kept → Kept' → R)
      → ((l k : List ℕ) → order l → due k → order' l → due' k → R)
      → PlayOutcome tests tr w order due Kept f → PlayOutcome tests tr w order' due' Kept' g → (f ≡ g) × R
  play-only {order' = order'} {due' = due'} kept left x y =
      answered-only (λ e k l. (e, kept k l))
      (λ d e.
      let p : Plays tr w order due = d.1 in
      let q : Plays tr w order' due' = e.1 in
      let s : q.responses ≡ p.responses = conversion-only tr w q.converts p.converts in (
        d.0 ∙ sym e.0,
        left (map (λ r. r.step) p.responses) (map (λ r. r.time) p.responses) p.orders p.dues (rw s at q.orders) (rw s at q.dues),
      ))
      x y

module _ (m : Machine) (trace : List ℕ) (start : ℕ) (stamps o₀ d₀ : List ℕ) where
  pub fields-only : {f g : Fields} (o d o' d' : List ℕ) → ReplayOutcome m trace start stamps o₀ d₀ f o d
      → ReplayOutcome m trace start stamps o₀ d₀ g o' d' → (f ≡ g) × (o ≡ o') × (d ≡ d')
  fields-only o d o' d' a b =
      let x = play-only {R = (o ≡ o') × (d ≡ d')} (λ p q. (p.0 ∙ sym q.0, p.1 ∙ sym q.1))
      (λ l k p q p' q'. (p ∙ sym p', q ∙ sym q')) a b in
      (x.0, x.1.0, x.1.1)

  -- two outcomes that the contract allows for one input are equal, answer and memory
  pub outcome-only : (r s : Checked) (o d o' d' : List ℕ) → ReplayOutcome m trace start stamps o₀ d₀ (checked_fields r) o d
      → ReplayOutcome m trace start stamps o₀ d₀ (checked_fields s) o' d' → (r ≡ s) × (o ≡ o') × (d ≡ d')
  outcome-only r s o d o' d' a b =
      let x = fields-only o d o' d' a b in
      (checked-only r s x.0, x.1, x.2)

-- two table values of one machine are replayed alike
pub same-replay : (t u : Table) (trace : List ℕ) (start : ℕ) (stamps o₀ d₀ : List ℕ) → machine_of t ≡ machine_of u → (r s : Checked) (o d o' d' : List ℕ)
    → ReplayOutcome (machine_of t) trace start stamps o₀ d₀ (checked_fields r) o d
    → ReplayOutcome (machine_of u) trace start stamps o₀ d₀ (checked_fields s) o' d' → (r ≡ s) × (o ≡ o') × (d ≡ d')
same-replay t u trace start stamps o₀ d₀ e r s o d o' d' a b =
    outcome-only (machine_of u) trace start stamps o₀ d₀ r s o d o' d'
    (subst (λ m. ReplayOutcome m trace start stamps o₀ d₀ (checked_fields r) o d) e a) b

-- what a replayed word leaves in the two buffers
module _ (m : Machine) (trace : List ℕ) (start : ℕ) (stamps o₀ d₀ o d : List ℕ)
    (outcome : ReplayOutcome m trace start stamps o₀ d₀ (checked_fields passing) o d) where
  abbrev tr : List Transition
  tr = steps m.transitions trace

  abbrev word : Word
  word = word_from tr start stamps

  both : Passes (replay_tests m trace start stamps o₀ d₀)
      × Plays tr word (λ l. o ≡ l ++ drop (length trace) o₀) (λ l. d ≡ l ++ drop (length trace) d₀)
  both = played (replay-numbered m trace start stamps o₀ d₀) outcome

  pub plays-tested : Passes (replay_tests m trace start stamps o₀ d₀)
  plays-tested = both.0

  pub plays : Plays tr word (λ l. o ≡ l ++ drop (length trace) o₀) (λ l. d ≡ l ++ drop (length trace) d₀)
  plays = both.1

  pub plays-length : length plays.responses ≡ length trace
  plays-length = conversion-length plays.converts ∙ length-steps m.transitions trace

  abbrev order : List ℕ
  order = plays.converts.order

  length-order : length order ≡ length trace
  length-order = sym (ap length plays.converts.lists ∙ length-map order (response tr word)) ∙ plays-length

  known : (i : ℕ) → i < length trace → get_or order i 0 < length tr
  known i h = (plays.converts.ordered.exact (get_or order i 0)).0 (in-at 0 order i (omega (arith, length-order)))

  -- place i of a buffer that was filled with g of the responses
  filled : (g : Response → ℕ) (b b₀ : List ℕ) → b ≡ map g plays.responses ++ drop (length trace) b₀ → (i : ℕ) → i < length trace
      → get_or b i 0 ≡ g (response tr word (get_or order i 0))
  filled g b b₀ e i h =
      let z : Response = response tr word 0 in
      let m : length (map g plays.responses) ≡ length trace = length-map plays.responses g ∙ plays-length in
      let r : get_or plays.responses i z ≡ response tr word (get_or order i 0) =
      ap (λ (l : List Response). get_or l i z) plays.converts.lists ∙ get_or-map (response tr word) 0 z order i (omega (arith, length-order)) in
      rw e
      (get_or-append (map g plays.responses) (drop (length trace) b₀) 0 i (omega arith)
      ∙ get_or-map g z 0 plays.responses i (omega (arith, plays-length)) ∙ ap g r)

  -- the steps that replay lists count from 1
  pub steps-within : (i : ℕ) → i < length trace → (1 ≤ get_or o i 0) × (get_or o i 0 ≤ length trace)
  steps-within i h = omega (arith, filled (λ x. x.step) o o₀ plays.orders i h, known i h, length-steps m.transitions trace)

  -- a due time, in 1/256 tick since the start: 512 gaps of 4,095 ticks and 240 ticks at most
  pub dues-within : (i : ℕ) → i < length trace → get_or d i 0 ≤ 536801280
  dues-within i h =
      rw (filled (λ x. x.time) d d₀ plays.dues i h)
      (due-512 (passed-ranged m trace start stamps o₀ d₀ (all_first m trace start stamps o₀ d₀ plays-tested)) word plays.activates (get_or order i 0) (parts-of tr start stamps)
      (omega (arith, (passed-handed m trace start stamps o₀ d₀ (all_first m trace start stamps o₀ d₀ plays-tested)).most, length-steps m.transitions trace)) (known i h))

-- there is one layout
laid-only : {time : ℕ → ℕ} {n : ℕ} {o₀ d₀ o d o' d' : List ℕ} → Laid time n o₀ d₀ o d → Laid time n o₀ d₀ o' d' → (o ≡ o') × (d ≡ d')
laid-only {time} {n} x y =
    let e : x.steps ≡ y.steps = ordered-only time n (record { sorted = x.sorted; exact = x.exact })
    ∙ sym (ordered-only time n (record { sorted = y.sorted; exact = y.exact })) in
    (x.orders ∙ rw e (sym y.orders), x.dues ∙ rw e (sym y.dues))

-- two runs of one word are equal: its answer, the order and the due times
pub word-run-only : {cells : List Row} {trace : List ℕ} {start : ℕ} {stamps o₀ d₀ : List ℕ} {f g : Fields} {o d o' d' : List ℕ} → WordRun cells trace start stamps o₀ d₀ f o d
    → WordRun cells trace start stamps o₀ d₀ g o' d' → (f ≡ g) × (o ≡ o') × (d ≡ d')
word-run-only {f = f} {g = g} {o} {d} {o'} {d'} x y =
    answered-only {R = (f ≡ g) × (o ≡ o') × (d ≡ d')} (λ e k l. (e, k.0 ∙ sym l.0, k.1 ∙ sym l.1))
    (λ p q. let l = laid-only p.1 q.1 in (p.0 ∙ sym q.0, l.0, l.1)) x.says y.says

-- and two answers over lists however they stand in memory
pub lists-run-only : (cells : List Row) (T S : Type 0) (trace : List ℕ) (start : ℕ) (stamps o₀ d₀ : List ℕ) (f g : Fields) (o d o' d' : List ℕ)
    → ListsRun cells T S trace start stamps o₀ d₀ f o d → ListsRun cells T S trace start stamps o₀ d₀ g o' d' → (f ≡ g) × (o ≡ o') × (d ≡ d')
lists-run-only cells T S trace start stamps o₀ d₀ f g o d o' d' x y =
    answered-only {R = (f ≡ g) × (o ≡ o') × (d ≡ d')} (λ e k l. (e, k.0 ∙ sym l.0, k.1 ∙ sym l.1))
    (λ p q. let l = laid-only p.1 q.1 in (p.0 ∙ sym q.0, l.0, l.1)) x y
