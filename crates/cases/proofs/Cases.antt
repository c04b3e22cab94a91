-- Every marked case holds.
use mathlib.Core.Path.{◌≡◌, refl}
use mathlib.Core.Logic.{inl, inr}
use mathlib.Core.List.{List, [], ◌∷◌}
use Prim.Native.Nat.{ℕ, zero, suc, ◌≤◌, ◌<◌}
use native.Mathlib.Omega.{arith}
use native.Mathlib.Decide.{dec_lt, ℕ_discrete}
use lib.ListN.{length}
use Rattle.model.specs.Lists.{All, all_nil, all_cons}
use Rattle.model.specs.Table.{Machine, Valid, at}
use Rattle.model.specs.Trace.{Trace, steps}
use Rattle.model.specs.Shown.{late_gap, early_gap, early_gap_at, late_word, early_word}
use Rattle.model.specs.Stamps.{word_from}
use Rattle.model.specs.Verdict.{Turning}
use Rattle.model.proofs.CriterionLaws.{InTicks}
use Rattle.model.proofs.Lists.{all_map, each_all}
use Rattle.model.proofs.Letters.{one-letter-table}
use Rattle.model.proofs.Conversion.{ordering, before-linear, before-dec}
use Rattle.table.specs.Tests.{refuses, answers}
use Rattle.cases.specs.Cases.{source, two, one, bare, short, one_letter, cases, Holds}
use Rattle.cases.proofs.CaseLaws.{Chain, leads, chain-valid, chain-unsplit, Prepared, responses_of, OnlyOne, computed-holds}
use Rattle.cases.proofs.CaseLaws.{only-pair, only-least, two-steady, two-least, alike-steady, alike_strict}

-- a trace from state 0
ready : {m : Machine} {trace : List ℕ} (e : ℕ) → Valid m → (1 ≤ length trace) × (length trace ≤ 512) × Trace m.transitions 0 trace e → Prepared m trace
ready e v (some, most, path) = record { valid = v; handed = record { some = some; most = most; start = 0; end = e; path = path } }

on-source : Prepared source (0 ∷ 1 ∷ 2 ∷ [])
on-source = ready 3 (chain-valid source (omega arith) (omega arith) (omega arith)) (omega arith)

on_one : Prepared one (0 ∷ [])
on_one = ready 1 (chain-valid one (omega arith) (omega arith) (omega arith)) (omega arith)

on-two : (d : ℕ) → (1 ≤ d) × (d ≤ 240) → Prepared (two d) (0 ∷ 1 ∷ [])
on-two d (low, high) = ready 2 (chain-valid (two d) (omega arith) (omega arith) (omega arith)) (omega arith)

short-chain : Chain short.states 0 short.transitions
short-chain = omega arith

-- transition i leads from state i to the next
onward : (i : ℕ) → i < 2 → ((at short.transitions i).from ≡ i) × ((at short.transitions i).to ≡ suc i)
onward = leads short short-chain

short-one : OnlyOne short (0 ∷ 1 ∷ []) 1
unfolding steps
short-one [] e k n p t = absurd (omega arith)
short-one (a ∷ []) e k n p t = absurd (omega arith)
short-one (a ∷ b ∷ []) e k n p t =
    let i : a ≡ 0 = omega (arith, onward a p.0, p.1) in
    let j : b ≡ 1 = omega (arith, onward a p.0, onward b p.2.0, p.2.1) in
    (rw (i, j), omega arith, omega arith)
short-one (a ∷ b ∷ c ∷ l) e k n p t =
    absurd (omega (arith, onward a p.0, onward b p.2.0, onward c p.2.2.0, p.2.1, p.2.2.1))

source-chain : Chain source.states 0 source.transitions
source-chain = omega arith

-- of the whole trace only the first and the last step turn
source-pair : (k m : ℕ) → InTicks source.transitions k m → (k ≡ 0) × (m ≡ 2)
source-pair zero zero t = absurd (omega arith)
source-pair zero (suc zero) t = absurd (omega arith)
source-pair zero (suc (suc zero)) t = (refl, refl)
source-pair (suc zero) (suc (suc zero)) t = absurd (omega arith)
source-pair (suc (suc k)) (suc (suc zero)) t = absurd (omega arith)
source-pair (suc k) zero t = absurd (omega arith)
source-pair (suc k) (suc zero) t = absurd (omega arith)
source-pair k (suc (suc (suc m))) t = absurd (omega arith)

along : (i : ℕ) → i < 3 → ((at source.transitions i).from ≡ i) × ((at source.transitions i).to ≡ suc i)
along = leads source source-chain

source_one : OnlyOne source (0 ∷ 1 ∷ 2 ∷ []) 2
unfolding steps
source_one [] e k n p t = absurd (omega arith)
source_one (a ∷ []) e k n p t = absurd (omega arith)
source_one (a ∷ b ∷ []) e k n p t =
    let i : a ≡ 0 = omega (arith, along a p.0, p.1) in
    let j : b ≡ 1 = omega (arith, along a p.0, along b p.2.0, p.2.1) in
    let s : InTicks (at source.transitions 0 ∷ at source.transitions 1 ∷ []) k n = rw (i, j) at t in
    let o = only-pair k n s in
    absurd (omega (arith, rw (o.0, o.1) at s))
source_one (a ∷ b ∷ c ∷ []) e k n p t =
    let i : a ≡ 0 = omega (arith, along a p.0, p.1) in
    let j : b ≡ 1 = omega (arith, along a p.0, along b p.2.0, p.2.1) in
    let h : c ≡ 2 = omega (arith, along a p.0, along b p.2.0, along c p.2.2.0, p.2.1, p.2.2.1) in
    let o = source-pair k n (rw (i, j, h) at t) in
    (rw (i, j, h), o.0, o.1)
source_one (a ∷ b ∷ c ∷ d ∷ l) e k n p t =
    absurd (omega (arith, along a p.0, along b p.2.0, along c p.2.2.0, along d p.2.2.2.0, p.2.1, p.2.2.1, p.2.2.2.1))

-- one letter in every transition
alike-source : Prepared (one_letter source) (0 ∷ 1 ∷ 2 ∷ [])
alike-source = ready 3 (chain-valid (one_letter source) (omega arith) (omega arith) (omega arith)) (omega arith)

alike-two : (d : ℕ) → (1 ≤ d) × (d ≤ 240) → Prepared (one_letter (two d)) (0 ∷ 1 ∷ [])
alike-two d (low, high) = ready 2 (chain-valid (one_letter (two d)) (omega arith) (omega arith) (omega arith)) (omega arith)

-- two steps that don't turn, of any table of the two
steady-two : (d : ℕ) → (1 ≤ d) × (d ≤ 240) → (InTicks (two d).transitions 0 1 → ⊥) → Turning (two d).transitions → ⊥
steady-two d (low, high) = two-steady {n = 3} (each_all (two d).transitions (omega arith))

pub all_hold : All Holds cases
unfolding steps word_from responses_of ordering before-linear before-dec dec_lt ℕ_discrete late_gap early_gap early_gap_at late_word early_word
all_hold =
    all_map computed-holds
    (all_cons (on-source, refl, answers (omega arith) (refl, refl, refl))
    (all_cons (on-source, refl, answers (omega arith) (refl, refl, refl))
    (all_cons (on-source, refl, refuses refl (inr ((λ e. omega arith), inl ((λ n. n ((λ e. omega arith), omega arith)), refl, refl))) (refl, refl))
    (all_cons (on-two _ (omega arith), inl (refl, steady-two _ (omega arith) (λ t. omega arith)))
    (all_cons (on-two _ (omega arith), inl (refl, steady-two _ (omega arith) (λ t. omega arith)))
    (all_cons (on-two _ (omega arith), inl (refl, steady-two _ (omega arith) (λ t. omega arith)))
    (all_cons (on-two _ (omega arith), inr (0, 1, refl, two-least (omega arith)))
    (all_cons (on-two _ (omega arith), inr (0, 1, refl, two-least (omega arith)))
    (all_cons (on-two _ (omega arith), inl (refl, steady-two _ (omega arith) (λ t. omega arith)))
    (all_cons (on_one, refl, answers (omega arith) (refl, refl, refl))
    (all_cons (λ states initial h. (
      chain-valid (bare states initial) tt h (omega arith),
      λ i j p. omega arith,
      inl (refl, refl, refl, one-letter-table (bare states initial) {o = 0} all_nil),
    ))
    (all_cons (
      chain-valid short short-chain (omega arith) (omega arith),
      chain-unsplit short short-chain,
      inr (1, refl, refl, (2, omega arith), refl, omega arith, omega arith, short-one),
    )
    (all_cons (on-source, inr (0, 2, refl, only-least (omega arith) source-pair))
    (all_cons (
      chain-valid source source-chain (omega arith) (omega arith),
      chain-unsplit source source-chain,
      inr (2, refl, refl, (3, omega arith), refl, omega arith, omega arith, source_one),
    )
    (all_cons (alike-source, inl (refl, alike-steady source _ alike-source))
    (all_cons (
      alike-source.valid,
      chain-unsplit (one_letter source) (omega arith),
      inl (refl, refl, refl, alike_strict source),
    )
    (all_cons (alike-two _ (omega arith), inl (refl, alike-steady (two 14) _ (alike-two 14 (omega arith))))
    (all_cons (alike-two _ (omega arith), inl (refl, alike-steady (two 15) _ (alike-two 15 (omega arith))))
    (all_cons (
      chain-valid (one_letter short) (omega arith) (omega arith) (omega arith),
      chain-unsplit (one_letter short) (omega arith),
      inl (refl, refl, refl, alike_strict short),
    )
    all_nil)))))))))))))))))))
