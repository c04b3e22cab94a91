-- What it takes that a case holds: the outcome that it expects is allowed, and no other.
use mathlib.Core.Path.{◌≡◌, refl, sym, ap, ◌∙◌}
use mathlib.Core.Logic.{◌⊎◌, inl, inr}
use mathlib.Core.List.{List, [], ◌∷◌, map}
use Prim.Native.Nat.{ℕ, zero, suc, ◌+◌, ◌≤◌, ◌<◌}
use native.Mathlib.Omega.{arith}
use lib.ListN.{length, drop, get_or, length-map}
use Rattle.model.specs.Answers.{Fields, fields}
use Rattle.model.specs.Lists.{All, all_nil, all_cons, over, LeastPair}
use Rattle.model.specs.Table.{Transition, Machine, InRange, Valid, at}
use Rattle.model.specs.Trace.{Trace, Handed, steps}
use Rattle.model.specs.Order.{Response, response, Conversion}
use Rattle.model.specs.Criterion.{Criterion}
use Rattle.model.specs.Verdict.{Turns, Turning, TableTurns, SplitPair, Splits, OnlyTurns}
use Rattle.model.specs.Stamps.{gaps_from, word_from, shown_stamps}
use Rattle.model.proofs.Conversion.{order, conversion-exists}
use Rattle.model.proofs.CriterionLaws.{InTicks, criterion-is}
use Rattle.model.proofs.Pair.{turns-law, turning-law}
use Rattle.model.proofs.Letters.{one-letter, one-letter-table}
use Rattle.model.proofs.Paths.{trace-all, trace-ranged, length-steps}
use Rattle.model.proofs.Split.{split-law}
use Rattle.model.proofs.Words.{words-show}
use Rattle.table.specs.Tests.{Test, Passes, Answered, refuses, answers, after_table}
use Rattle.table.specs.Showing.{says_none, says_shown}
use Rattle.table.proofs.TestLaws.{passes_append, fails-back, answered-only, valid-passes}
use Rattle.trace.proofs.TraceLaws.{handed-ranged}
use Rattle.replay.specs.Play.{own_tests, gap_tests, replay_tests, ReplayOutcome}
use Rattle.replay.proofs.LaidLaws.{conversion-length}
use Rattle.replay.proofs.ReplayLaws.{all-activates}
use Rattle.replay.proofs.OutcomeLaws.{play-only}
use Rattle.verdict.specs.OnTrace.{TraceSays, says_steady, says_turning, TraceOutcome}
use Rattle.verdict.proofs.JudgeLaws as verdict
use Rattle.table_verdict.specs.OnTable.{table_tests, ShowsTurning, split_shown, turning_shown, TableSays, TableOutcome}
use Rattle.cases.specs.Cases.{Case, replayed, judged, tabled, sized, Size, Alone, Holds, spoken, one_letter}

-- every number in its range, and transition i leads from state i to the next
abbrev pub Chain : ℕ → ℕ → List Transition → Type 0
Chain n i [] = Unit {0}
Chain n i (t ∷ ts) = InRange n t × (t.from ≡ i) × (t.to ≡ suc i) × Chain n (suc i) ts

chain-at : (n i : ℕ) (ts : List Transition) (j : ℕ) → Chain n i ts → j < length ts → ((at ts j).from ≡ i + j) × ((at ts j).to ≡ suc (i + j))
chain-at n i [] j c h = absurd (omega arith)
chain-at n i (t ∷ ts) zero c h = (omega arith, omega arith)
chain-at n i (t ∷ ts) (suc j) c h = let r = chain-at n (suc i) ts j c.3 (omega arith) in (omega arith, omega arith)

chain-ranged : (n i : ℕ) (ts : List Transition) → Chain n i ts → All (InRange n) ts
chain-ranged n i [] c = all_nil
chain-ranged n i (t ∷ ts) c = all_cons c.0 (chain-ranged n (suc i) ts c.3)

module _ (m : Machine) (chain : Chain m.states 0 m.transitions) where
  pub leads : (i : ℕ) → i < length m.transitions → ((at m.transitions i).from ≡ i) × ((at m.transitions i).to ≡ suc i)
  leads i h = let r = chain-at m.states 0 m.transitions i chain h in (omega arith, omega arith)

  pub chain-valid : Size m.states m.initial → length m.transitions ≤ 256 → Valid m
  chain-valid (some, most, starts) few = record {
    some = some;
    most = most;
    starts = starts;
    few = few;
    ranged = chain-ranged m.states 0 m.transitions chain;
    distinct = λ i j h k e. omega (arith, leads i (omega arith), leads j k, ap (λ t. t.from) e);
  }

  pub chain-unsplit : (i j : ℕ) → SplitPair m i j → ⊥
  chain-unsplit i j p = omega (arith, leads i (omega (arith, p.ordered, p.inside)), leads j p.inside, p.together)

-- the responses to the word that the stamps make
unfoldable pub responses_of : List Transition → ℕ → List ℕ → List Response
responses_of tr start stamps = map (response tr (word_from tr start stamps)) (order tr (word_from tr start stamps))

-- a valid machine, and a trace of it
pub record Prepared (m : Machine) (trace : List ℕ) : Type 0 where
  pub valid : Valid m
  pub handed : Handed m.transitions trace

-- where one letter is used throughout nothing turns
letters : (l : List Transition) → All (λ t. t.output ≡ 1) (map spoken l)
letters [] = all_nil
letters (t ∷ l) = all_cons refl (letters l)

pub alike-steady : (m : Machine) (trace : List ℕ) → Prepared (one_letter m) trace → Turning (steps (one_letter m).transitions trace) → ⊥
alike-steady m trace r =
    let h = r.handed in
    one-letter (trace-all (one_letter m).transitions (letters m.transitions) h.start h.end trace h.path)

pub alike_strict : (m : Machine) → TableTurns (one_letter m) → ⊥
alike_strict m = one-letter-table (one_letter m) (letters m.transitions)

-- what the gaps decide, after the other tests of a replay
abbrev pub GapsSay : List Transition → ℕ → List ℕ → Fields → List ℕ → List ℕ → Type 0
GapsSay tr start stamps answer order due =
    Answered (gap_tests 0 tr (gaps_from start stamps))
    (λ f. (f ≡ fields 0 0 0 0)
    × (map (λ x. x.step) (responses_of tr start stamps) ≡ order) × (map (λ x. x.time) (responses_of tr start stamps) ≡ due))
    ((order ≡ []) × (due ≡ [])) answer

module _ {m : Machine} {trace : List ℕ} (r : Prepared m trace) (start : ℕ) (stamps : List ℕ) (e : length stamps ≡ length trace) where
  abbrev tr : List Transition
  tr = steps m.transitions trace

  converts : Conversion tr (word_from tr start stamps) (responses_of tr start stamps)
  unfolding responses_of
  converts = conversion-exists tr (word_from tr start stamps)

  filled : (f : Response → ℕ) (l : List ℕ) → map f (responses_of tr start stamps) ≡ l → length l ≡ length trace
  filled f l q = sym (ap length q) ∙ length-map (responses_of tr start stamps) f ∙ conversion-length converts ∙ length-steps m.transitions trace

  module _ (o₀ d₀ : List ℕ) (a : length trace ≤ length o₀) (b : length trace ≤ length d₀) where
    abbrev first : List Test
    first = after_table m (own_tests m trace stamps o₀ d₀)

    passes : Passes first
    passes = valid-passes m r.valid (own_tests m trace stamps o₀ d₀) (r.handed, (e, ((a, b), tt)))

    replays : {answer : Fields} {os ds : List ℕ} → GapsSay tr start stamps answer os ds
        → ReplayOutcome m trace start stamps o₀ d₀ answer (over os o₀) (over ds d₀)
    replays {os = os} {ds = ds} (answers p (z, eo, ed)) =
        let all : Passes (replay_tests m trace start stamps o₀ d₀) = (passes_append first (gap_tests 0 tr (gaps_from start stamps))).1 (passes, p) in
        let lo : length os ≡ length trace = filled (λ x. x.step) os eo in
        let ld : length ds ≡ length trace = filled (λ x. x.time) ds ed in
        answers all (
          z,
          record {
            activates = all-activates m trace start stamps o₀ d₀ all;
            responses = responses_of tr start stamps;
            converts = converts;
            orders = rw (eo, lo);
            dues = rw (ed, ld);
          },
        )
    replays (refuses {n = n} {p = p} z f (eo, ed)) =
        refuses z ((fails-back first (gap_tests 0 tr (gaps_from start stamps)) n p passes).1 f) (rw eo, rw ed)

    replays-alone : {answer : Fields} {os ds : List ℕ} → GapsSay tr start stamps answer os ds
        → Alone (ReplayOutcome m trace start stamps o₀ d₀) answer (over os o₀) (over ds d₀)
    replays-alone {os = os} {ds = ds} g = (
      replays g,
      λ f o d x.
          let y = play-only {R = (o ≡ over os o₀) × (d ≡ over ds d₀)} (λ p q. (p.0 ∙ sym q.0, p.1 ∙ sym q.1))
          (λ l k p q p' q'. (p ∙ sym p', q ∙ sym q')) x (replays g) in
          (y.0, y.1.0, y.1.1),
    )

-- what is so of a trace: no two orders, or a least pair that turns
abbrev pub PairSays : List Transition → Fields → Type 0
PairSays tr answer =
    ((answer ≡ fields 0 0 0 0) × (Turning tr → ⊥))
    ⊎ ((k : ℕ) × (m : ℕ) × (answer ≡ fields 257 (suc k) (suc m) (length tr)) × LeastPair (InTicks tr) k m)

pub only-pair : {a b : Transition} (k m : ℕ) → InTicks (a ∷ b ∷ []) k m → (k ≡ 0) × (m ≡ 1)
only-pair zero zero c = absurd (omega arith)
only-pair zero (suc zero) c = (refl, refl)
only-pair zero (suc (suc m)) c = absurd (omega arith)
only-pair (suc k) m c = absurd (omega arith)

-- of two steps there is one pair
pub two-steady : {n : ℕ} {a b : Transition} → All (InRange n) (a ∷ b ∷ []) → (InTicks (a ∷ b ∷ []) 0 1 → ⊥) → Turning (a ∷ b ∷ []) → ⊥
two-steady {a = a} {b = b} good none x =
    let c = (turning-law good).0 x in
    let t : InTicks (a ∷ b ∷ []) c.0 c.1 = (criterion-is (a ∷ b ∷ []) c.0 c.1).0 c.2 in
    let p = only-pair c.0 c.1 t in
    none (rw (p.0, p.1) at t)

pub only-least : {tr : List Transition} {k m : ℕ} → InTicks tr k m → ((x y : ℕ) → InTicks tr x y → (x ≡ k) × (y ≡ m)) → LeastPair (InTicks tr) k m
only-least t only = record { pair = t; least = λ x y o. let p = only x y o in inr (omega arith, omega arith) }

pub two-least : {a b : Transition} → InTicks (a ∷ b ∷ []) 0 1 → LeastPair (InTicks (a ∷ b ∷ [])) 0 1
two-least t = only-least t only-pair

module _ {n : ℕ} {tr : List Transition} (good : All (InRange n) tr) (s₀ : List ℕ) where
  says : {answer : Fields} → PairSays tr answer → (s : List ℕ) × TraceSays tr (s ≡ s₀) (λ x. s ≡ over x s₀) answer
  says (inl (e, none)) = (s₀, says_steady e none refl)
  says (inr (k, m, e, t)) =
      let c : Criterion tr k m = (criterion-is tr k m).1 t.pair in (
        over (shown_stamps tr k m) s₀,
        says_turning {k = k} {m = m} e (record {
          turning = (turning-law good).1 (k, m, c);
          pair = record {
            pair = (turns-law good k m).1 c;
            least = λ x y o. t.least x y ((criterion-is tr x y).0 ((turns-law good x y).0 o));
          };
          shows = words-show good k m c;
        }) refl,
      )

judges-alone : {m : Machine} {trace : List ℕ} {answer : Fields} → Prepared m trace → PairSays (steps m.transitions trace) answer
    → Holds (judged m trace answer)
judges-alone {m = m} {trace = trace} {answer = answer} r p s₀ room =
    let s = says (handed-ranged m trace r.valid r.handed) s₀ p in
    let y : TraceOutcome m trace s₀ answer s.0 = answers (valid-passes m r.valid (verdict.own m trace s₀) (r.handed, (room, tt))) s.1 in
    (s.0, y, λ f x o. answered-only (λ e k l. (e, k ∙ sym l)) (λ d e. verdict.says-only (λ k l. k ∙ sym l) (λ s p q. p ∙ sym q) d e) o y)

-- of the traces from the initial state only this one has a pair that turns, its first and its last step
abbrev pub OnlyOne : Machine → List ℕ → ℕ → Type 0
OnlyOne m trace last =
    (l : List ℕ) (e k n : ℕ) → Trace m.transitions m.initial l e → InTicks (steps m.transitions l) k n → (l ≡ trace) × (k ≡ 0) × (n ≡ last)

-- what is so of a machine that doesn't split: no trace turns, or a single one
abbrev pub WalksSay : Machine → Fields → List ℕ → List ℕ → Type 0
WalksSay m answer trace stamps =
    let tr : List Transition = steps m.transitions trace in
    ((answer ≡ fields 0 0 0 0) × (trace ≡ []) × (stamps ≡ []) × (TableTurns m → ⊥))
    ⊎ ((last : ℕ) × (answer ≡ fields 257 1 (suc last) (suc last)) × (stamps ≡ shown_stamps tr 0 last)
    × ((e : ℕ) × Trace m.transitions m.initial trace e) × (length trace ≡ suc last) × (last < 270) × InTicks tr 0 last × OnlyOne m trace last)

-- a machine that doesn't split, and memory of enough places
module _ {m : Machine} (valid : Valid m) (unsplit : (i j : ℕ) → SplitPair m i j → ⊥) (l₀ s₀ : List ℕ) where
  whole : Splits m → ⊥
  whole x = let p = (split-law m valid).0 x in unsplit p.0 p.1 p.2

  abbrev Told : Fields → List ℕ → List ℕ → Type 0
  Told f l s = TableSays m ((l ≡ l₀) × (s ≡ s₀)) (λ x y. (l ≡ over x l₀) × (s ≡ over y s₀)) f

  good : (trace : List ℕ) (e : ℕ) → Trace m.transitions m.initial trace e → All (InRange m.states) (steps m.transitions trace)
  good trace e path = trace-ranged m.transitions valid.ranged m.initial e trace path

  -- a pair that turns, in ticks
  ticks : (trace : List ℕ) (e : ℕ) → Trace m.transitions m.initial trace e → (k n : ℕ) → Turns (steps m.transitions trace) k n
      → InTicks (steps m.transitions trace) k n
  ticks trace e path k n t = (criterion-is (steps m.transitions trace) k n).0 ((turns-law (good trace e path) k n).0 t)

  module _ (trace : List ℕ) (e last : ℕ) (path : Trace m.transitions m.initial trace e) (t : InTicks (steps m.transitions trace) 0 last) where
    meets : Criterion (steps m.transitions trace) 0 last
    meets = (criterion-is (steps m.transitions trace) 0 last).1 t

    turns : OnlyTurns m
    turns = record {
      unsplit = whole;
      turns = record { trace = trace; end = e; path = path; turning = (turning-law (good trace e path)).1 (0, last, meets) };
    }

    shows : length trace ≡ suc last → last < 270 → OnlyOne m trace last → ShowsTurning m trace 0 last
    shows n few only = record {
      only = turns;
      lowest = record {
        end = e;
        path = path;
        few = omega arith;
        ends = n;
        lowest = λ i f.
            let q = only f.trace f.end f.k f.later f.path (ticks f.trace f.end f.path f.k f.later f.pair) in
            let z : get_or trace 0 0 ≡ i = cc (q.0, q.1, f.here) in
            omega arith;
        earliest = λ x h. absurd (omega arith);
        pair = (turns-law (good trace e path) 0 last).1 meets;
      };
      shows = words-show (good trace e path) 0 last meets;
    }

  table-says : {answer : Fields} {trace stamps : List ℕ} → WalksSay m answer trace stamps → Told answer (over trace l₀) (over stamps s₀)
  table-says (inl (z, el, es, none)) = says_none z (record { unsplit = whole; steady = none }) (rw el, rw es)
  table-says {trace = trace} (inr (last, z, es, (e, path), n, few, t, only)) =
      says_shown (turning_shown {shown = trace} {k = 0} {last = last} z (shows trace e last path t n few only)) (refl, rw es)

  -- every answer that is allowed is the one that the case expects
  told : {answer f : Fields} {trace stamps l s : List ℕ} → WalksSay m answer trace stamps → Told f l s
      → (f ≡ answer) × (l ≡ over trace l₀) × (s ≡ over stamps s₀)
  told c (says_shown (split_shown z p) l) = absurd (whole p.splits)
  told (inl (q, el, es, none)) (says_none z p k) = (z ∙ sym q, rw el k.0, rw es k.1)
  told (inl (q, el, es, none)) (says_shown (turning_shown z p) l) = absurd (none p.only.turns)
  told {trace = trace} (inr (last, q, es, (e, path), n, few, t, only)) (says_none z p k) = absurd (p.steady (turns trace e last path t).turns)
  told {trace = trace} (inr (last, q, es, x, n, few, t, only)) (says_shown (turning_shown {shown = shown} {k = k} {last = end} z p) l) =
      let y = p.lowest in
      let o = only shown y.end k end y.path (ticks shown y.end y.path k end y.pair) in
      let w = rw (o.0, o.1, o.2) at l in
      ((rw (o.1, o.2) at z) ∙ sym q, w.0, rw es w.1)

  table-alone : {answer : Fields} {trace stamps : List ℕ} → 270 ≤ length l₀ → 540 ≤ length s₀ → WalksSay m answer trace stamps
      → Alone (TableOutcome m l₀ s₀) answer (over trace l₀) (over stamps s₀)
  table-alone {answer = answer} {trace = trace} {stamps = stamps} a b c =
      let y : TableOutcome m l₀ s₀ answer (over trace l₀) (over stamps s₀) =
      answers (valid-passes m valid (drop 3 (table_tests m l₀ s₀)) ((a, b), tt)) (table-says c) in
      (y, λ f l s x. answered-only (λ e k o. (e, k.0 ∙ sym o.0, k.1 ∙ sym o.1)) (λ d e. told c d) x y)

-- what is left to compute of a case
abbrev pub Computed : Case → Type 0
Computed (replayed m trace start stamps answer order due) =
    Prepared m trace × (length stamps ≡ length trace) × GapsSay (steps m.transitions trace) start stamps answer order due
Computed (judged m trace answer) = Prepared m trace × PairSays (steps m.transitions trace) answer
Computed (tabled m answer trace stamps) = Valid m × ((i j : ℕ) → SplitPair m i j → ⊥) × WalksSay m answer trace stamps
Computed (sized c) = (states initial : ℕ) → Size states initial → Computed (c states initial)

pub computed-holds : (c : Case) → Computed c → Holds c
computed-holds (replayed m trace start stamps answer os ds) (r, e, g) = λ o₀ d₀ a b. replays-alone r start stamps e o₀ d₀ a b g
computed-holds (judged m trace answer) (r, p) = judges-alone r p
computed-holds (tabled m answer trace stamps) (v, unsplit, c) = λ l₀ s₀ a b. table-alone v unsplit l₀ s₀ a b c
computed-holds (sized f) c = λ states initial h. computed-holds (f states initial) (c states initial h)
