-- What has been: a run's transitions are a trace, its inputs activate it, and what is owed for each step is that step's response.
use mathlib.Core.Path.{◌≡◌, refl, sym, ◌∙◌}
use mathlib.Core.Logic.{◌⊎◌, inl, inr, ⊎_elim}
use mathlib.Core.List.{List, [], ◌∷◌, ◌++◌}
use Prim.Native.Nat.{ℕ, suc, ◌+◌, ◌*◌, ◌≤◌, ◌<◌}
use native.Mathlib.Omega.{arith}
use native.Mathlib.Nat.{eq-or-lt_of_le}
use lib.ListN.{length, take, length-append, get_or-append}
use lib.Seq.{get_or_at, take-append-le, take_all}
use Rattle.model.specs.Lists.{Both, both_nil, both_cons, total}
use Rattle.model.specs.Table.{Transition, Machine, at, none}
use Rattle.model.specs.Trace.{Trace, steps}
use Rattle.model.specs.Word.{Word, Symbol, Fits, Takes}
use Rattle.model.specs.Order.{Response, response}
use Rattle.model.proofs.Lists.{total-append, both-append, both-length}
use Rattle.model.proofs.Paths.{steps-last, trace-append}
use Rattle.playing.specs.Runs.{Play, taken, Run, starts, waits, inputs, outputs, played}
use Rattle.playing.proofs.Kept.{owe, no_response}

abbrev gap_of : Symbol → ℕ
gap_of s = s.gap

pub record Past (m : Machine) (q : ℕ) (f : 1 ≤ q) (p : Play) : Type 0 where
  pub path : Trace m.transitions m.initial p.trace p.state
  pub takes : Both (Takes q) (steps m.transitions p.trace) p.symbols
  pub clock : p.now ≡ total gap_of p.symbols + p.timer
  pub count : length p.owed ≡ length (steps m.transitions p.trace)
  pub means : (i : ℕ) → i < length p.owed → owe p.owed i ≡ response (steps m.transitions p.trace) (played q f p) i

steps-nil : (ts : List Transition) → steps ts [] ≡ []
unfolding steps
steps-nil ts = refl

-- the response of a step is the same in a longer word
module _ (q : ℕ) (f : 1 ≤ q) (tr : List Transition) (a : Transition) (ss : List Symbol) (s : Symbol) (even : length tr ≡ length ss) where
  abbrev word : List Symbol → Word
  word l = record { q = q; fine = f; symbols = l }

  response-old : (i : ℕ) → i < length tr → response (tr ++ (a ∷ [])) (word (ss ++ (s ∷ []))) i ≡ response tr (word ss) i
  response-old i h =
      let e1 : at (tr ++ (a ∷ [])) i ≡ at tr i = get_or-append tr (a ∷ []) none i h in
      let e2 : take (suc i) (ss ++ (s ∷ [])) ≡ take (suc i) ss = take-append-le (suc i) ss (s ∷ []) (omega arith) in
      rw (e1, e2)

  response-new : response (tr ++ (a ∷ [])) (word (ss ++ (s ∷ []))) (length tr) ≡ record {
    step = suc (length tr);
    output = a.output;
    time =
        (total gap_of ss + s.gap) + a.d * q;
  }
  response-new =
      let e1 : at (tr ++ (a ∷ [])) (length tr) ≡ a = get_or_at tr a [] none (length tr) refl in
      let e2 : take (suc (length tr)) (ss ++ (s ∷ [])) ≡ ss ++ (s ∷ []) = take_all (suc (length tr)) (ss ++ (s ∷ [])) (omega (
        arith,
        length-append ss (s ∷ []),
      )) in
      let e3 : total gap_of (ss ++ (s ∷ [])) ≡ total gap_of ss + s.gap = total-append gap_of ss (s ∷ []) ∙ omega arith in
      rw (e1, e2, e3)

module _ (m : Machine) (q : ℕ) (f : 1 ≤ q) where
  abbrev ts : List Transition
  ts = m.transitions

  module _ (p : Play) (k : Past m q f p) (i : ℕ) (l : i < length ts) (g : (at ts i).from ≡ p.state) (h : Fits q (at ts i) p.timer) where
    abbrev a : Transition
    a = at ts i

    abbrev tr : List Transition
    tr = steps ts p.trace

    abbrev s : Symbol
    s = record { letter = a.input; gap = p.timer }

    abbrev new : Response
    new = record { step = suc (length p.owed); output = a.output; time = a.d * q + p.now }

    even : length tr ≡ length p.symbols
    even = both-length k.takes

    means' : (j : ℕ) → (j ≡ length p.owed) ⊎ (j < length p.owed) → owe (p.owed ++ (new ∷ [])) j ≡ response (tr ++ (a ∷ []))
        (record { q = q; fine = f; symbols = p.symbols ++ (s ∷ []) }) j
    means' j (inl e) =
        let c : length p.owed ≡ length tr = k.count in
        let t : a.d * q + p.now ≡ (total gap_of p.symbols + p.timer) + a.d * q = omega (arith, k.clock) in
        rw (e, get_or_at p.owed new [] no_response (length p.owed) refl, c, response-new q f tr a p.symbols s even, t)
    means' j (inr lt) =
        let o : owe (p.owed ++ (new ∷ [])) j ≡ owe p.owed j = get_or-append p.owed (new ∷ []) no_response j lt in
        o ∙ k.means j lt ∙ sym (response-old q f tr a p.symbols s even j (omega (arith, k.count)))

    longer : length (p.owed ++ (new ∷ [])) ≡ suc (length p.owed)
    longer = length-append p.owed (new ∷ []) ∙ omega arith

    pub input-past : Past m q f (taken q i a p)
    input-past = record {
      path = trace-append ts m.initial p.state (at ts i).to p.trace (i ∷ []) k.path (l, g, refl);
      takes = rw (steps-last ts p.trace i) (both-append k.takes (both_cons (record { letter = refl; fits = h }) both_nil));
      clock = omega (arith, k.clock, total-append gap_of p.symbols (s ∷ []));
      count = rw (steps-last ts p.trace i) (omega (arith, longer, k.count, length-append tr (a ∷ [])));
      means = λ j lt. rw (steps-last ts p.trace i) (means' j (⊎_elim (λ e. inl (omega (arith, longer))) (λ b. inr (omega (
        arith,
        longer,
      ))) (eq-or-lt_of_le lt)));
    }

  pub past : {p : Play} → Run m q p → Past m q f p
  past starts = record { path = refl; takes = rw (steps-nil ts) both_nil; clock = refl; count = rw (steps-nil ts); means = λ i h. absurd (omega arith) }
  past (waits {p} t r h) = let k : Past m q f p = past r in record {
    path = k.path;
    takes = k.takes;
    clock = omega (
      arith,
      k.clock,
    );
    count = k.count;
    means = k.means;
  }
  past (inputs {p} letter i r f n) = input-past p (past r) i f.known f.leaves f.fits
  past (outputs {p} xs x ys r e d h) = let k : Past m q f p = past r in record {
    path = k.path;
    takes = k.takes;
    clock = k.clock;
    count = k.count;
    means
        = k.means;
  }
