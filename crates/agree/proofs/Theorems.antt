-- The theorems on chains of the player's accepted calls.
use mathlib.Core.Path.{◌≡◌, refl, sym, ap, ◌∙◌, subst}
use mathlib.Core.Logic.{inl, inr}
use mathlib.Core.List.{List, [], ◌∷◌, ◌++◌, map, map-map}
use Prim.Native.Nat.{ℕ, zero, suc, ◌*◌, ◌≤◌, ◌<◌}
use native.Mathlib.Omega.{arith}
use lib.ListN.{length, get_or, drop, length-append}
use Rattle.model.specs.Answers.{Fields, fields}
use Rattle.model.specs.Lists.{In, All, all_nil, all_cons, Both, both_cons}
use Rattle.model.specs.Table.{Transition, Machine, InRange, at, none}
use Rattle.model.specs.Trace.{Trace, Handed, steps}
use Rattle.model.specs.Word.{Word, Symbol, Fits, Takes, Activates}
use Rattle.model.specs.Order.{Conversion}
use Rattle.model.specs.Stamps.{gaps_from, spelled, word_from, stamps_of}
use Rattle.model.proofs.Lists.{all-at, both-length, sorted-map}
use Rattle.model.proofs.Paths.{length-steps, trace-ranged}
use Rattle.model.proofs.StampLaws.{symbols-back, length-stamps}
use Rattle.table.specs.Tests.{unless, Fails, refuses, answers}
use Rattle.table.proofs.TestLaws.{passes_append, valid-passes, valid-fails}
use Rattle.replay.specs.Play.{own_tests, gap_tests, ReplayOutcome}
use Rattle.replay.proofs.GapLaws.{gaps-law}
use Rattle.replay.proofs.OutcomeLaws.{fields-only}
use Rattle.records.specs.declared.Pending.{Pending}
use Rattle.player.specs.declared.Config.{Config}
use Rattle.player.specs.declared.Move.{Move}
use Rattle.player.specs.declared.Move.TheVariants.{Time, Input, Output}
use Rattle.records.specs.Record.{Sane}
use Rattle.player.specs.Moves.{waiting_in, Whole, move_tests, MoveDone, PlayOutcome}
use Rattle.playing.specs.Runs.{Wait, Play, Run, Open, taken}
use Rattle.playing.specs.Most.{most_waiting}
use Rattle.playing.proofs.Kept.{Kept, kept, step_of}
use Rattle.playing.proofs.Past.{Past, past}
use Rattle.playing.proofs.Plays.{Replays}
use Rattle.playing.proofs.Replayed.{fine, quick, done}
use Rattle.playing.proofs.Most.{at-most-waiting, at-most-240, left-most-240}
use Rattle.agree.specs.Chain.{Call, Chain, trace_of, symbols_of, word_of, issued_of}
use Rattle.agree.specs.Holds.{coded}
use Rattle.agree.proofs.Moves.{input-runs}
use Rattle.agree.proofs.Chains.{Ran, ran, even}

-- a trace stays within the states
trace-ends : (n : ℕ) (ts : List Transition) → All (InRange n) ts → (s e : ℕ) (l : List ℕ) → s < n → Trace ts s l e → e < n
trace-ends n ts r s e [] h p = omega arith
trace-ends n ts r s e (i ∷ l) h p = trace-ends n ts r (at ts i).to e l (all-at none r i p.0).arrives p.2

-- the gaps of an activating word fit
fit_all : (tr : List Transition) (gaps : List ℕ) → Both (Takes 256) tr (spelled tr gaps) → (i : ℕ) → i < length tr → Fits 256 (at tr i) (get_or gaps i 0)
fit_all [] gaps _ i h = absurd (omega arith)
fit_all (t ∷ tr) [] b i h = elim b [ ]
fit_all (t ∷ tr) (g ∷ gs) (both_cons f b) zero h = f.fits
fit_all (t ∷ tr) (g ∷ gs) (both_cons f b) (suc i) h = fit_all tr gs b i (omega arith)

pub all-code : {P : Pending → Type 0} (ws : List Wait) → ((x : Wait) → In x ws → P (coded x)) → All P (map coded ws)
all-code [] f = all_nil
all-code (x ∷ ws) f = all_cons (f x (inl refl)) (all-code ws (λ y m. f y (inr m)))

module _ {m : Machine} {c : Config} {l : List Pending} {h : List Call} (chain : Chain m c l h) where
  abbrev p : Play
  p = (ran chain).0

  r : Ran m c l h p
  r = (ran chain).1

  abbrev ts : List Transition
  ts = m.transitions

  g : Past m 256 fine p
  g = past m 256 fine r.run

  k : Kept p
  k = kept (quick m r.valid) r.run

  -- Theorem 2: never more wait than the ceiling of greatest d over least u, or none in an empty table
  pub never-more : c.waiting ≤ most_waiting ts
  never-more = omega (arith, r.holds.count, at-most-waiting m r.valid r.run)

  pub never-241 : c.waiting ≤ 240
  never-241 = omega (arith, r.holds.count, at-most-240 m r.valid r.run)

  long : c.inputs ≡ length p.owed
  long = r.holds.inputs ∙ sym (even r.run)

  -- a configuration that calls have reached is not damaged
  pub chain-whole : Whole m c l
  chain-whole = record {
    state = subst (λ (s : ℕ). s < m.states) (sym r.holds.state) (trace-ends m.states ts r.valid.ranged m.initial p.state p.trace
        r.valid.starts g.path);
    timer = omega (arith, r.holds.timer);
    inputs = r.most;
    few = never-241;
    lent = r.holds.lent;
    rises = rw (r.holds.records, map-map (λ (x : Pending). x.step) coded p.waiting, ← map-map suc step_of p.waiting)
        (sorted-map ◌<◌ ◌<◌ suc (map step_of p.waiting) (λ i j a b z. omega arith) k.rises);
    sane = subst (All (Sane c.inputs)) (sym r.holds.records) (all-code p.waiting
        (λ x i. record { some = omega arith; most = omega (arith, long, k.here x i); soon = left-most-240 m r.valid r.run x i }));
  }

  -- Theorem 1, the trace and the word
  module _ (none_waits : c.waiting ≡ 0) where
    empty : p.waiting ≡ []
    empty = no_length p.waiting (omega (arith, r.holds.count))
      where
        no_length : (w : List Wait) → length w ≡ 0 → w ≡ []
        no_length [] e = refl
        no_length (x ∷ w) e = absurd (omega arith)

    few-steps : length (steps ts p.trace) ≤ 512
    few-steps = omega (arith, length-steps ts p.trace, r.holds.inputs, r.most)

    d : Replays m 256 fine p
    d = done m r.valid p r.run empty few-steps

    abbrev tr : List Transition
    tr = steps ts (trace_of h)

    pub takes-trace : Trace ts m.initial (trace_of h) c.state
    takes-trace = subst (λ (e : ℕ). Trace ts m.initial (trace_of h) e) (sym r.holds.state) (subst (λ (x : List ℕ). Trace ts m.initial x p.state)
        r.told.trace d.path)

    abbrev as-word : List Symbol → Word
    as-word s = record { q = 256; fine = fine; symbols = s }

    pub activates : Activates tr (word_of h)
    activates =
        subst (λ (s : List Symbol). Activates tr (as-word s)) r.told.symbols
        (subst (λ (x : List ℕ). Activates (steps ts x) (as-word p.symbols)) r.told.trace d.activates)

    -- Theorem 1: what was issued is what replay lists, with the times
    pub converts : Conversion tr (word_of h) (issued_of h)
    converts =
        subst (Conversion tr (word_of h)) r.told.issued
        (subst (λ (s : List Symbol). Conversion tr (as-word s) p.issued) r.told.symbols
        (subst (λ (x : List ℕ). Conversion (steps ts x) (as-word p.symbols) p.issued) r.told.trace d.converts))

    steps-512 : length tr ≤ 512
    steps-512 = subst (λ (x : List ℕ). length (steps ts x) ≤ 512) r.told.trace few-steps

    same_word : spelled tr (gaps_from 0 (stamps_of (word_of h))) ≡ symbols_of h
    same_word = symbols-back (trace-ranged ts r.valid.ranged m.initial c.state (trace_of h) takes-trace) steps-512 (word_of h) refl activates

    pub back : word_from tr 0 (stamps_of (word_of h)) ≡ word_of h
    unfolding word_from
    back = rw same_word

    -- the same in replay's words: whatever its contract allows on these stamps, with room, is that it plays them, and issues the same
    module _ (some : 1 ≤ length (trace_of h)) (o₀ d₀ : List ℕ) (roomy : (length (trace_of h) ≤ length o₀) × (length (trace_of h) ≤ length d₀)) where
      abbrev stamps : List ℕ
      stamps = stamps_of (word_of h)

      stamped : length stamps ≡ length (trace_of h)
      stamped = length-stamps 0 (symbols_of h) ∙ sym (both-length activates) ∙ length-steps ts (trace_of h)

      fits : (i : ℕ) → i < length tr → Fits 256 (at tr i) (get_or (gaps_from 0 stamps) i 0)
      fits = fit_all tr (gaps_from 0 stamps) (subst (λ (s : List Symbol). Both (Takes 256) tr s) (sym same_word) activates)

      handed : Handed ts (trace_of h)
      handed = record { some = some; most = omega (arith, steps-512, length-steps ts (trace_of h)); start = m.initial; end = c.state; path = takes-trace }

      abbrev issued_steps : List ℕ
      issued_steps = map (λ x. x.step) (issued_of h) ++ drop (length (trace_of h)) o₀

      abbrev issued_times : List ℕ
      issued_times = map (λ x. x.time) (issued_of h) ++ drop (length (trace_of h)) d₀

      pub plays : ReplayOutcome m (trace_of h) 0 stamps o₀ d₀ (fields 0 0 0 0) issued_steps issued_times
      plays = answers
          (valid-passes m r.valid (own_tests m (trace_of h) stamps o₀ d₀ ++ gap_tests 0 tr (gaps_from 0 stamps))
          ((passes_append (own_tests m (trace_of h) stamps o₀ d₀) (gap_tests 0 tr (gaps_from 0 stamps))).1
          ((handed, (stamped, (roomy, tt))), (gaps-law (gaps_from 0 stamps) tr).1 fits))) (
            refl,
            record {
              activates = subst (Activates tr) (sym back) activates;
              responses = issued_of h;
              converts = subst (λ (w : Word). Conversion tr w (issued_of h)) (sym back) converts;
              orders = refl;
              dues = refl;
            },
          )

      pub as-replayed : {f : Fields} (o d : List ℕ) → ReplayOutcome m (trace_of h) 0 stamps o₀ d₀ f o d
          → (f ≡ fields 0 0 0 0) × (o ≡ issued_steps) × (d ≡ issued_times)
      as-replayed o d x = fields-only m (trace_of h) 0 stamps o₀ d₀ o d issued_steps issued_times x plays

  -- only a forged configuration is refused with the last 15, or with the first
  pub never-15 : (mv : Move) (f : Fields) (c' : Config) (l' : List Pending) → PlayOutcome m c l mv f c' l' → f.status ≡ 15 → ⊥
  never-15 mv f c' l' (answers q z) e = done-15 mv f c' l' z e
    where
      done-15 : (mv : Move) (f : Fields) (c' : Config) (l' : List Pending) → MoveDone m c l mv f c' l' → f.status ≡ 15 → ⊥
      done-15 (Time t) f c' l' z e = omega (arith, e, ap (λ (f : Fields). f.status) z.says)
      done-15 (Input a) f c' l' z e = omega (arith, e, ap (λ (f : Fields). f.status) z.says)
      done-15 Output f c' l' z e = omega (arith, e, ap (λ (f : Fields). f.status) z.says)
  never-15 mv f c' l' (refuses {n = n} {p = i} s b kept) e =
      fails-15 mv n i (omega (arith, e, ap (λ (f : Fields). f.status) s)) ((valid-fails m r.valid (unless 15 (Whole m c l) ∷ unless 8
      (240 ≤ length l) ∷ move_tests m c l mv) n i).0 b)
    where
      one_more : (a i : ℕ) → Open 256 ts c.state a c.timer i → All (λ x. 0 < x.left) (waiting_in c l) → c.waiting < 240
      one_more a i o q =
          let run : Run m 256 (taken 256 i (at ts i) p) = input-runs r.holds r.run r.valid (even r.run) a i o q in
          let n : Wait = record { step = length p.owed; letter = (at ts i).output; left = (at ts i).d * 256 } in
          omega (arith, at-most-240 m r.valid run, length-append p.waiting (n ∷ []), r.holds.count)

      fails-15 : (mv : Move) (n i : ℕ) → n ≡ 15 → Fails (unless 15 (Whole m c l) ∷ unless 8 (240 ≤ length l) ∷ move_tests m c l mv) n i → ⊥
      fails-15 mv n i e (inl f) = f.0 chain-whole
      fails-15 mv n i e (inr (w, inl f)) = omega (arith, e, f.1)
      fails-15 (Time t) n i e (inr (w, inr (room, inl f))) = omega (arith, e, f.1)
      fails-15 Output n i e (inr (w, inr (room, inl f))) = omega (arith, e, f.1)
      fails-15 (Input a) n i e (inr (w, inr (room, inl f))) = omega (arith, e, f.1)
      fails-15 (Input a) n i e (inr (w, inr (room, inr (o, inl f)))) = omega (arith, e, f.1)
      fails-15 (Input a) n i e (inr (w, inr (room, inr (o, inr (q, inl f))))) = omega (arith, e, f.1)
      fails-15 (Input a) n i e (inr (w, inr (room, inr (o, inr (q, inr (u, inl f)))))) = omega (arith, e, f.1)
      fails-15 (Input a) n i e (inr (w, inr (room, inr (o, inr (q, inr (u, inr (x, inl f))))))) = f.0 (one_more a o.0 o.1 q)
      fails-15 (Time t) n i e (inr (w, inr (room, inr z))) = absurd z.1
      fails-15 Output n i e (inr (w, inr (room, inr z))) = absurd z.1
      fails-15 (Input a) n i e (inr (w, inr (room, inr (o, inr (q, inr (u, inr (x, inr z))))))) = absurd z.1
