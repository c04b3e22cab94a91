-- What the shown trace proves of the machine, where the numbers are within their limits and the marks are those of its states.
use mathlib.Core.Path.{◌≡◌, refl, sym, ap, ◌∙◌}
use mathlib.Core.Bool.{Bool, true, false}
use mathlib.Core.Logic.{inl, ⊎_elim, ◌↔◌}
use mathlib.Core.List.{List, [], ◌∷◌, ◌++◌, append_assoc}
use Prim.Native.Nat.{ℕ, suc, ◌+◌, ◌-◌, ◌≤◌, ◌<◌}
use native.Mathlib.Omega.{arith}
use lib.ListN.{length, get_or, take, drop, length-append, length-take, length-drop, get_or-append}
use lib.Seq.{get_or-append_seam, take_at, drop_at, drop-append-add, drop-drop}
use Rattle.std.specs.Option.{is_some}
use Rattle.std.proofs.lemmas.Option.{none-some, same_Some}
use Rattle.model.specs.Lists.{over}
use Rattle.model.specs.Table.{Transition, Machine, Valid, at}
use Rattle.model.specs.Trace.{steps}
use Rattle.model.specs.Criterion.{PairMeets, WalkFrom}
use Rattle.model.specs.Verdict.{StepOf, ShowsLowest}
use Rattle.model.proofs.Paths.{trace-ranged}
use Rattle.model.proofs.Turn.{walked, length-walked, walk-path, walk_meets}
use Rattle.table.specs.Rows.{rows, row_of, said, named}
use Rattle.table.specs.declared.Refusal.{Refusal}
use Rattle.table.specs.declared.Refusal.TheVariants.{NoRoom}
use Rattle.table.specs.Refusal.{Checked, passing, checked_fields}
use Rattle.table.specs.Tests.{unless, CheckOutcome, Tested, refuses, answers}
use Rattle.table.specs.Fit.{Sound}
use Rattle.table.proofs.TestLaws.{refused-fails, valid-fails, valid-passes, passes-valid, tested-passes}
use Rattle.table.proofs.FitLaws.{row-said}
use Rattle.table.proofs.RowLaws.{length-rows}
use Rattle.table.proofs.NamedLaws.{named-trace}
use Rattle.words.specs.Left.{Bounded}
use Rattle.words.proofs.WordLaws.{word-plain, words-plain}
use Rattle.criterion.specs.declared.Goal.{Goal}
use Rattle.criterion.specs.declared.Goal.TheVariants.{Turns, Overtakes}
use Rattle.criterion.specs.Goals.{Meets}
use Rattle.reach.specs.Reach.{Reach, WayStands, mark, way_within}
use Rattle.reach.proofs.ReachLaws.{way-fresh, way-length, within-room}
use Rattle.reach.proofs.OnlyLaws.{way-only}
use Rattle.std.specs.Prelude.{Option, Some, None, Err}
use Rattle.table.specs.declared.Row.{Row}
use Rattle.walks.specs.Walks.{LowestStart, ShownLeast, WalkOutcome}
use Rattle.walks.proofs.OutcomeLaws.{walks-agree}
use Rattle.walks.proofs.StartLaws.{lowest-within, lowest-only, lowest-met, lowest-unmet, none-overtaken, first-overtaken}
use Rattle.witness.specs.declared.Witness.{Witness}
use Rattle.witness.specs.Witness.{witness_of}
use Rattle.witness.specs.Witness.{search_tests, goal_left, goal_stamps, goal_room, ShownOutcome, words_none, words_shown, WordsStand}
use Rattle.witness.specs.Witness.{Marked, FromStands, FromOutcome, from_none, from_shown, WitnessOutcome, none_shown, none_fits, one_shown}
use Rattle.witness.specs.Witness.{WitnessesAgree, agree_none, agree_shown, way_for, machine_with, ShowsPair, PairStands}
use Rattle.witness.proofs.WayLaws.{way-number, way-short, way-traced, way-front, behind-way}

-- by the words' definition, where what is asked is the criterion of a pair
pub shows-lowest : (goal : Goal) (m : Machine) {Pair : List Transition → ℕ → ℕ → Type 0} → ((i : ℕ) → StepOf Pair m i ↔ WalkFrom (Meets goal) m i)
    → {shown : List ℕ} {k last : ℕ} → Pair (steps m.transitions shown) k last ↔ PairMeets (Meets goal) (steps m.transitions shown) k last
    → ShowsPair goal m shown k last → ShowsLowest Pair m shown k last
shows-lowest goal m step pair p = record {
  end = p.end;
  path = p.path;
  few = p.few;
  ends = p.ends;
  lowest = λ i f. p.lowest i ((step i).0 f);
  earliest = p.earliest;
  pair = pair.1 p.meets;
}

-- the words of what is asked, of a trace that was shown
goal-plain : (goal : Goal) (c : List Row) (l : List ℕ) (k last : ℕ) (stamps₀ : List ℕ) → Bounded c l → length l ≤ 270 → goal_room goal ≤ length stamps₀
    → goal_left goal c l k last stamps₀ ≡ over (goal_stamps goal (named c l) k last) stamps₀
goal-plain Turns c l k last stamps₀ b few room = words-plain c l k last stamps₀ b (omega arith)
goal-plain Overtakes c l k last stamps₀ b few room = word-plain c l k last stamps₀ b (omega arith)

-- the tests before a search, with what its check told
module _ (m : Machine) (steps stamps least : ℕ) where
  pub not-admitted : {a : Checked} {r : Refusal} → a ≡ Err r → CheckOutcome m (checked_fields a)
      → Tested (search_tests m steps stamps least) (checked_fields (Err r))
  not-admitted e h = refuses refl (refused-fails m (unless 8 ((270 ≤ steps) × (least ≤ stamps)) ∷ []) e h) tt

  module _ (v : Valid m) where
    pub no_room : ((270 ≤ steps) × (least ≤ stamps) → ⊥) → Tested (search_tests m steps stamps least) (checked_fields (Err NoRoom))
    no_room n = refuses refl ((valid-fails m v (unless 8 ((270 ≤ steps) × (least ≤ stamps)) ∷ []) 8 0).1 (inl (n, refl, refl))) tt

    pub is-admitted : (270 ≤ steps) × (least ≤ stamps) → Tested (search_tests m steps stamps least) (checked_fields passing)
    is-admitted r = answers (valid-passes m v (unless 8 ((270 ≤ steps) × (least ≤ stamps)) ∷ []) (r, tt)) refl

  -- what they told a caller
  pub admits : {a : Checked} → a ≡ passing → Tested (search_tests m steps stamps least) (checked_fields a) → Valid m × ((270 ≤ steps) × (least ≤ stamps))
  admits e h =
      let p = tested-passes (search_tests m steps stamps least) (omega arith) e h in
      (passes-valid m (unless 8 ((270 ≤ steps) × (least ≤ stamps)) ∷ []) p, p.1.1.1.0)

-- the numbers of a shown trace
shown-same : {a b c d : ℕ} → Some (witness_of a b) ≡ Some (witness_of c d) → (a ≡ c) × (b ≡ d)
shown-same {a} {b} {c} {d} e =
    let q = same_Some (witness_of a b) (witness_of c d) e in (ap (λ (w : Witness). w.before) q, ap (λ (w : Witness). w.steps) q)

-- the way, where it has room
way-room : {c : List Row} {dist via : List ℕ} {s : ℕ} {trace₀ one : List ℕ} {b : ℕ} → mark dist s - 1 ≤ length trace₀ → WayStands c dist via s trace₀ one b
    → (b ≡ mark dist s - 1) × (length one ≡ length trace₀)
way-room {c} {dist} {via} {s} {trace₀} {one} {b} h w =
    let e : b ≡ mark dist s - 1 = w.number
    ∙ rw (within-room c dist via s (length trace₀) h) (way-length (λ i. said (row_of c i)) via (mark dist s - 1) s) in
    (e, ap length w.traced ∙ simp (length-append, length-drop) (omega (arith, w.number)))

-- what is written has room, whatever the marks
pub from-long : {goal : Goal} {c : List Row} {n : ℕ} {dist via : List ℕ} {k : ℕ} {trace₀ : List ℕ} {b more : ℕ} {trace : List ℕ}
    → FromStands goal c n dist via k trace₀ b more trace → (2 ≤ more) × (b + more ≤ length trace₀) × (length trace ≡ length trace₀)
from-long f =
    let y = way-room (omega (arith, f.room)) f.way in
    let w = f.walk.walk in (
      omega (arith, w.number),
      omega (arith, y, f.room, w.few),
      ap length w.traced ∙ simp (length-append, length-take, length-drop) (omega (arith, y, f.room, w.few, w.number)),
    )

pub shown-long : (goal : Goal) {c : List Row} {n : ℕ} {dist via trace₀ : List ℕ} {r : Option Witness} {b all : ℕ} {trace : List ℕ} → r ≡ Some (witness_of b all)
    → WitnessOutcome goal c n dist via trace₀ r trace → (b + 2 ≤ all) × (all ≤ length trace) × (length trace ≡ length trace₀)
shown-long goal e (none_shown l) = absurd (none-some _ e)
shown-long goal e (none_fits k low none) = absurd (none-some _ e)
shown-long goal e (one_shown k low stands) =
    let z = from-long stands in
    let f = shown-same e in
    (omega (arith, f, z), omega (arith, f, z), z.2)

-- the way before a walk that was written first
pub way-before : (goal : Goal) {c : List Row} {n : ℕ} {dist via : List ℕ} {k : ℕ} {trace₀ mid trace : List ℕ} {b b' more : ℕ}
    → b ≡ mark dist (row_of c k).from - 1 → b + 239 ≤ length trace₀ → ShownLeast goal (rows c n) k b trace₀ mid more
    → WayStands c dist via (row_of c k).from mid trace b' → FromStands goal c n dist via k trace₀ b more trace
way-before goal {c} {n} {dist} {via} {k} {trace₀} {mid} {trace} {b} {b'} {more} e room s w =
    let v = s.walk in
    let place = (row_of c k).from in
    let shown : List ℕ = k ∷ (v.to.rest ++ (s.m ∷ [])) in
    let long : length mid ≡ length trace₀ = ap length v.traced ∙ simp (length-append, length-take, length-drop) (omega (arith, room, v.few, v.number)) in
    let h : mark dist place - 1 ≤ length trace₀ = omega (arith, e, room) in
    let way : List ℕ = way_within c dist via place (length trace₀) in
    let number : length way ≡ b =
    rw (within-room c dist via place (length trace₀) h) (way-length (λ i. said (row_of c i)) via (mark dist place - 1) place) ∙ sym e in
    let one : List ℕ = way ++ drop b trace₀ in
    let n' : b' ≡ b = (way-room (omega (arith, long, h)) w).0 ∙ sym e in
    let behind : drop b mid ≡ shown ++ drop (b + more) trace₀ =
    ap (drop b) v.traced ∙ drop_at (take b trace₀) (shown ++ drop (b + more) trace₀) b (length-take b trace₀ ∙ omega (arith, room)) in
    let past : drop (b + more) one ≡ drop (b + more) trace₀ =
    rw (sym number) (drop-append-add way (drop (length way) trace₀) more ∙ drop-drop more (length way) trace₀) in
    record {
      one = one;
      room = omega (arith, e, room);
      way = record { number = sym number; traced = refl };
      walk = record {
        m = s.m;
        walk = record {
          to = v.to;
          number = v.number;
          few = v.few;
          traced = (rw (long, n') at w.traced) ∙ rw (take_at way (drop b trace₀) b number, past, behind);
        };
        least = s.least;
      };
    }

pub walked-few : {goal : Goal} {c : List Row} {n k p : ℕ} {old out : List ℕ} {more : ℕ} → WalkOutcome goal c n k p old out more → more ≤ 239
walked-few o = ⊎_elim (λ x. x.1.walk.few) (λ x. omega (arith, x.1)) o

-- the walk that was tried, and the way before it if there is one
module _ {goal : Goal} {c : List Row} {n : ℕ} {dist via : List ℕ} {k : ℕ} {trace₀ mid : List ℕ} {b more : ℕ} (e : b ≡ mark dist (row_of c k).from - 1)
    (o : WalkOutcome goal c n k b trace₀ mid more) where
  pub from-walked : {trace : List ℕ} {b' : ℕ} → (more ≡ 0 → ⊥) → WayStands c dist via (row_of c k).from mid trace b'
      → FromStands goal c n dist via k trace₀ b more trace
  from-walked some w = ⊎_elim (λ x. way-before goal e x.0.room x.1 w) (λ x. absurd (some x.1)) o

  pub from-unwalked : Sound c n → k < n → more ≡ 0 → FromOutcome goal c n dist via k trace₀ None mid
  from-unwalked sound known none = ⊎_elim (λ x. absurd (omega (arith, none, x.1.walk.number)))
      (λ x. rw x.2 (from_none (λ after h. x.0 (record { sound = sound; known = known; room = omega (arith, e, h); after = after })))) o

-- a start that was found is one of the transitions, and leaves a marked state
lowest-marked : {goal : Goal} {c : List Row} {n : ℕ} {dist : List ℕ} {k : ℕ} → LowestStart goal c n dist (Some k) → Sound c n × Marked c dist n k
lowest-marked {c = c} {n = n} {k = k} l =
    let sound = l.0.0 in
    let known : k < n = omega (arith, l.0.1.arrives.known, length-rows c n) in
    (sound, (known, rw (ap (λ (t : Transition). t.from) (row-said sound k known refl)) l.0.1.arrives.leaves))

-- the lowest start, tried
pub from_lowest : {goal : Goal} {c : List Row} {n : ℕ} {dist via : List ℕ} {k : ℕ} {trace₀ : List ℕ} {r : Option Witness} {trace : List ℕ}
    → LowestStart goal c n dist (Some k) → FromOutcome goal c n dist via k trace₀ r trace → WitnessOutcome goal c n dist via trace₀ r trace
from_lowest l (from_none none) = none_fits _ l (λ h. none l.0.1.after h)
from_lowest l (from_shown s) = one_shown _ l s

-- what is tried: first what is overtaken first, last the lowest start
abbrev pub Tried : Goal → List Row → ℕ → List ℕ → Bool → Option ℕ → Type 0
Tried goal c n dist false r = LowestStart Overtakes c n dist r
Tried goal c n dist true r = LowestStart goal c n dist r

pub tried-none : (goal : Goal) {c : List Row} {n : ℕ} {dist : List ℕ} (last : Bool) → Tried goal c n dist last None → LowestStart goal c n dist None
tried-none goal false l = none-overtaken goal l
tried-none goal true l = l

pub tried-marked : (goal : Goal) {c : List Row} {n : ℕ} (dist : List ℕ) {k : ℕ} (last : Bool) → Tried goal c n dist last (Some k) → Sound c n × Marked c dist n k
tried-marked goal dist false l = lowest-marked l
tried-marked goal dist true l = lowest-marked l

pub tried-shown : (goal : Goal) {c : List Row} {n : ℕ} {dist via : List ℕ} {k : ℕ} {trace₀ : List ℕ} {r : Option Witness} {trace : List ℕ} (last : Bool)
    → is_some r ≡ true → Tried goal c n dist last (Some k) → FromOutcome goal c n dist via k trace₀ r trace → WitnessOutcome goal c n dist via trace₀ r trace
tried-shown goal last e l (from_none none) = let z : ◌≡◌ {A = ℕ} 0 1 = cc in absurd (omega arith)
tried-shown goal false e l (from_shown s) = one_shown _ (first-overtaken goal l (record { m = s.walk.m; to = s.walk.walk.to })) s
tried-shown goal true e l (from_shown s) = one_shown _ l s

-- where nothing was shown nothing was written
pub from_nothing : {goal : Goal} {c : List Row} {n : ℕ} {dist via : List ℕ} {k : ℕ} {trace₀ : List ℕ} {r : Option Witness} {trace : List ℕ} → is_some r ≡ false
    → FromOutcome goal c n dist via k trace₀ r trace → trace ≡ trace₀
from_nothing e (from_none none) = refl
from_nothing e (from_shown s) = let z : ◌≡◌ {A = ℕ} 0 1 = cc in absurd (omega arith)

module _ (goal : Goal) {c : List Row} {n : ℕ} (sound : Sound c n) {initial : ℕ} {dist via : List ℕ} (reach : Reach (rows c n) initial dist via)
    (states : ℕ) where
  abbrev ts : List Transition
  ts = rows c n

  abbrev m : Machine
  m = machine_with states initial ts

  -- nothing is shown: no transition starts a pair
  pub nothing-met : LowestStart goal c n dist None → (i : ℕ) → WalkFrom (Meets goal) m i → ⊥
  nothing-met l = lowest-unmet goal m dist reach.tells (lowest-within goal c n dist sound None l)

  module _ {trace₀ : List ℕ} (places : 270 ≤ length trace₀) (k : ℕ) (low : LowestStart goal c n dist (Some k)) {one : List ℕ} {b : ℕ}
      (wrote : WayStands c dist via (row_of c k).from trace₀ one b) where
    first : k < length ts
    first = low.0.1.arrives.known

    lowest : WalkFrom (Meets goal) m k × ((i : ℕ) → WalkFrom (Meets goal) m i → k ≤ i)
    lowest = lowest-met goal m dist reach.tells k (lowest-within goal c n dist sound (Some k) low)

    abbrev way : List ℕ
    way = way_for ts dist via k

    pub walk-stands : {out : List ℕ} {more : ℕ} → ShownLeast goal ts k b one out more → PairStands goal m trace₀ b (b + more) out
    walk-stands {out} {more} w =
        let marked = low.0.1.arrives.leaves in
        let number : b ≡ length way = way-number sound reach places first marked wrote in
        let short : b ≤ 31 = way-short sound reach places first marked wrote in
        let path = way-traced sound reach places first marked wrote in
        let t : WalkFrom (Meets goal) m k = record { reached = lowest.0.reached; known = first; j = w.m; after = w.walk.to } in
        let l : List ℕ = walked m t way path in
        let len : length l ≡ suc (length way + suc (length w.walk.to.rest)) = length-walked m t way path in
        let all : length l ≡ b + more = omega (arith, len, number, w.walk.number) in
        let here : get_or l (length way) 0 ≡ k = get_or-append_seam way k _ 0 in
        let fresh = way-fresh reach (at ts k).from marked k refl in
        let back : drop (b + more) one ≡ drop (length l) trace₀ =
        behind-way sound reach places first marked wrote (b + more) more (omega (arith, number)) ∙ ap (λ (x : ℕ). drop x trace₀) (sym all) in
        record {
          shown = l;
          last = length way + suc (length w.walk.to.rest);
          whole = omega (arith, len, all);
          shows = rw number (record {
            end = w.walk.to.end;
            path = walk-path m t way path;
            few = omega (arith, all, short, w.walk.few);
            ends = len;
            from = rw here lowest.0;
            lowest = λ i f. omega (arith, here, lowest.1 i f);
            earliest = λ x h e. fresh x h (sym (get_or-append way _ 0 x h) ∙ e ∙ here);
            meets = walk_meets m t way path;
          });
          traced = w.walk.traced ∙ rw (way-front sound reach places first marked wrote, back)
              (sym (append_assoc way (k ∷ (w.walk.to.rest ++ (w.m ∷ []))) (drop (length l) trace₀)));
        }

  -- the part of the trace that is lent for its words
  module _ {trace₀ trace : List ℕ} {k all : ℕ} (places : 270 ≤ length trace₀) (s : PairStands goal m trace₀ k all trace) where
    whole : all ≡ length s.shown
    whole = s.whole ∙ sym s.shows.ends

    pub stands-bounds : (k + 2 ≤ all) × (all ≤ 270) × (length trace ≡ length trace₀) × (all - 1 ≡ s.last)
    stands-bounds =
        let long : length trace ≡ length trace₀ =
        ap length s.traced ∙ length-append s.shown (drop (length s.shown) trace₀)
        ∙ omega (arith, length-drop (length s.shown) trace₀, s.shows.few) in
        (omega (arith, s.whole, s.shows.meets.ordered), omega (arith, whole, s.shows.few), long, omega (arith, s.whole))

    pub stands-front : take all trace ≡ s.shown
    stands-front = ap (take all) s.traced ∙ take_at s.shown (drop (length s.shown) trace₀) all (sym whole)

    pub stands-steps : named c s.shown ≡ steps ts s.shown
    stands-steps = named-trace c n initial s.shows.end s.shown s.shows.path

    pub stands-ready : Bounded c s.shown
    stands-ready = record {
      few = omega (arith, s.shows.few);
      states = 32;
      ranged = rw stands-steps (trace-ranged ts sound.ranged initial s.shows.end s.shown s.shows.path);
    }

  pub witness-none : {trace₀ trace : List ℕ} → 270 ≤ length trace₀ → WitnessOutcome goal c n dist via trace₀ None trace
      → (trace ≡ trace₀) × ((i : ℕ) → WalkFrom (Meets goal) m i → ⊥)
  witness-none places (none_shown l) = (refl, nothing-met l)
  witness-none places (none_fits k low none) = absurd (none (omega (arith, places, reach.most (row_of c k).from)))

  pub witness-shown : {trace₀ trace : List ℕ} {b all : ℕ} → 270 ≤ length trace₀ → WitnessOutcome goal c n dist via trace₀ (Some (witness_of b all)) trace
      → PairStands goal m trace₀ b all trace
  witness-shown places (one_shown k low s) = walk-stands places k low s.way s.walk

  -- with its words
  pub words-stand : {trace₀ stamps₀ trace stamps : List ℕ} {k all : ℕ} → 270 ≤ length trace₀ → goal_room goal ≤ length stamps₀
      → ShownOutcome goal c n dist via trace₀ stamps₀ (Some (witness_of k all)) trace stamps → WordsStand goal m trace₀ stamps₀ k all trace stamps
  words-stand {stamps₀ = stamps₀} {k = k} places room (words_shown w stamped) =
      let s = witness-shown places w in
      let b = stands-bounds places s in
      record {
        pair = s;
        stamped = (rw (stands-front places s, b.3) at stamped)
            ∙ rw (stands-steps places s) at (goal-plain goal c s.shown k s.last stamps₀ (stands-ready places s) s.shows.few room);
      }

  pub words-nothing : {trace₀ stamps₀ trace stamps : List ℕ} → 270 ≤ length trace₀ → ShownOutcome goal c n dist via trace₀ stamps₀ None trace stamps
      → (trace ≡ trace₀) × (stamps ≡ stamps₀) × ((i : ℕ) → WalkFrom (Meets goal) m i → ⊥)
  words-nothing places (words_none w) = let o = witness-none places w in (o.0, refl, o.1)

-- the step before the pair can be counted on
pub counts-on : (goal : Goal) {c : List Row} {n : ℕ} {dist via trace₀ stamps₀ : List ℕ} {r : Option Witness} {b all : ℕ} {trace stamps : List ℕ} → r ≡ Some (witness_of b all)
    → ShownOutcome goal c n dist via trace₀ stamps₀ r trace stamps → b ≤ length trace₀
counts-on goal e (words_none w) = absurd (none-some _ e)
counts-on goal e (words_shown w f) = omega (arith, shown-long goal e w)

-- one number that was found
same_start : (goal : Goal) {c : List Row} {n : ℕ} {dist : List ℕ} {k j : ℕ} → LowestStart goal c n dist (Some k) → LowestStart goal c n dist (Some j) → k ≡ j
same_start goal {c} {n} {dist} {k} {j} a b = same_Some k j (lowest-only goal c n dist (Some k) (Some j) a b)

-- two outcomes for one input agree
pub witness-agree : (goal : Goal) (c : List Row) (n : ℕ) (dist via trace₀ : List ℕ) {r q : Option Witness} {a b : List ℕ}
    → WitnessOutcome goal c n dist via trace₀ r a → WitnessOutcome goal c n dist via trace₀ q b → WitnessesAgree goal (rows c n) trace₀ r a q b
witness-agree goal c n dist via trace₀ (none_shown l) (one_shown k low s) = absurd (l k low.0)
witness-agree goal c n dist via trace₀ (one_shown k low s) (none_shown l) = absurd (l k low.0)
witness-agree goal c n dist via trace₀ (none_fits k low none) (one_shown j low' s) = absurd (none (rw (same_start goal low low') s.room))
witness-agree goal c n dist via trace₀ (one_shown j low' s) (none_fits k low none) = absurd (none (rw (same_start goal low low') s.room))
witness-agree goal c n dist via trace₀ (one_shown {n = b} k low s) (one_shown {n = b'} k' low' s') =
    let e : k' ≡ k = same_start goal low' low in
    let w = way-only (rw e at s'.way) s.way in
    let z = rw (e, w.0, w.1) at s'.walk in
    rw w.0 (agree_shown (walks-agree s.walk z))
witness-agree goal c n dist via trace₀ (none_shown l) (none_shown l') = agree_none
witness-agree goal c n dist via trace₀ (none_shown l) (none_fits k low none) = agree_none
witness-agree goal c n dist via trace₀ (none_fits k low none) (none_shown l) = agree_none
witness-agree goal c n dist via trace₀ (none_fits k low none) (none_fits k' low' none') = agree_none
