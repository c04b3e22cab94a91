-- The verdict on a trace in bytes by the pair that was found for its numbers: each way out of the code.
use Rattle.std.proofs.Common.{◌≡◌, ℕ, suc, ◌-◌, ◌*◌, ◌/◌, ◌<◌, ◌≤◌, List, length, take, refl, ap, ◌∙◌, subst, inl, inr, arith}
use Rattle.std.specs.Prelude.{Result, Ok, Err}
use Rattle.model.specs.Answers.{fields}
use Rattle.model.specs.Lists.{All, over}
use Rattle.model.specs.Table.{Machine, InRange, Valid}
use Rattle.model.specs.Trace.{Handed, steps}
use Rattle.model.specs.Stamps.{shown_stamps}
use Rattle.model.proofs.Paths.{length-steps}
use Rattle.model.proofs.StampLaws.{shown-stamps}
use Rattle.wire.specs.Bytes.{bytes, Bytes, wholes}
use Rattle.wire.proofs.Bytes.{length-bytes}
use Rattle.parts.specs.Parts.{left_over}
use Rattle.parts.proofs.WholeLaws.{wholes_long, over-bytes}
use Rattle.table.specs.declared.Refusal.{Refusal}
use Rattle.table.specs.declared.Row.{Row}
use Rattle.table.specs.declared.Refusal.TheVariants.{NoRoom}
use Rattle.table.specs.declared.Table.{Table}
use Rattle.table.specs.Rows.{transitions, named, machine_of}
use Rattle.table.specs.Tests.{Passes, Fails, refuses, answers}
use Rattle.table.proofs.FitLaws.{ranged-wider}
use Rattle.table.proofs.NamedLaws.{length-named, named-trace}
use Rattle.table.proofs.RefusalLaws.{refusal-some}
use Rattle.table.proofs.TestLaws.{fails-numbered, valid-count}
use Rattle.words.specs.Left.{Bounded, words_left}
use Rattle.words.proofs.WordLaws.{words-plain}
use Rattle.verdict.specs.declared.OnTrace.{OnTrace}
use Rattle.verdict.specs.declared.OnTrace.TheVariants.{Steady, Turning}
use Rattle.verdict.specs.OnTrace.{trace_fields, pair_tests, TurnsAt, TraceSays, says_steady, says_turning, PairOutcome}
use Rattle.verdict.proofs.JudgeLaws.{ready}
use Rattle.places.specs.Places.{path_in, fitted, handed_on, Decoded}
use Rattle.places.proofs.PlaceLaws.{decoded-take, handed-whole, trace-whole, whole-trace, trace-count}
use Rattle.trace_bytes.specs.Traces.{bytes_tests, TraceOnMachine}

-- what the search said of the numbers that were handed on, no refusal
module _ (c : List Row) (nums : List ℕ) where
  pub record Settled (r : OnTrace) : Type 0 where
    pub handed : Handed (transitions c) nums
    pub says : TraceSays (steps (transitions c) nums) (Unit {0}) (λ s. Unit {0}) (trace_fields (length nums) (Ok r))

  pub settled : (r : OnTrace) → PairOutcome c nums (trace_fields (length nums) (Ok r)) → Settled r
  settled r (answers p d) = record { handed = p.1.1.0; says = d }
  settled Steady (refuses {n = n} {p = p} e x k) =
      absurd (omega (arith, ap (λ f. f.status) e, fails-numbered (pair_tests c nums) n p (omega arith) x))
  settled (Turning i j) (refuses {n = n} {p = p} e x k) =
      absurd (omega (arith, ap (λ f. f.status) e, fails-numbered (pair_tests c nums) n p (omega arith) x))

  pub settled-as : {r q : OnTrace} → r ≡ q → Settled r → Settled q
  settled-as e s = subst (λ r. Settled r) e s

pub is-steady : (r : OnTrace) → ((i j : ℕ) → r ≡ Turning i j → ⊥) → r ≡ Steady
is-steady Steady e = refl
is-steady (Turning i j) e = absurd (e i j refl)

same-fields : {s i j n a b c : ℕ} → i ≡ a → j ≡ b → n ≡ c → fields s i j n ≡ fields s a b c
same-fields p q r = rw (p, q, r)

-- the numbers are what the trace in bytes hands on
module _ (t : Table) (valid : Valid (machine_of t)) (c : List Row) (few : length c ≤ 256) (held : t.count ≤ 256 → transitions c ≡ (machine_of t).transitions)
    (trace stamps₀ : List ℕ) {nums : List ℕ} (fit : nums ≡ handed_on 2 trace) where
  abbrev m : Machine
  m = machine_of t

  -- what the call that writes both words left in the lent bytes
  pub record Written (k l : ℕ) (stamps : List ℕ) : Type 0 where
    pub before : Bytes stamps₀
    pub now : Bytes stamps
    pub is : wholes 4 stamps ≡ words_left c nums k l (wholes 4 stamps₀)
    pub rest : left_over 4 stamps ≡ left_over 4 stamps₀

  is : transitions c ≡ m.transitions
  is = held (valid-count t valid)

  abbrev Out : Result OnTrace Refusal → List ℕ → Type 0
  Out r stamps = TraceOnMachine m trace stamps₀ (trace_fields (length trace / 2) r) stamps

  ranged : All (InRange 32) (transitions c)
  ranged = rw is (ranged-wider valid.most valid.ranged)

  -- the ranges being known, a refusal is that of the trace
  six : {n p : ℕ} → Fails (pair_tests c nums) n p → (Handed (transitions c) nums → ⊥) × (n ≡ 6) × (p ≡ 0)
  six (inl f) = absurd (f.0 few)
  six (inr (a, inl f)) = absurd (f.0 ranged)
  six (inr (a, inr (b, inl f))) = f
  six (inr (a, inr (b, inr (h, f)))) = absurd f

  pub refused : (r : Refusal) → PairOutcome c nums (trace_fields (length nums) (Err r)) → Out (Err r) stamps₀
  refused r (refuses e x k) =
      let f = six x in
      refuses e (inl ((λ h. f.0 (rw (is, fit) (whole-trace m.transitions trace h))), f.1, f.2)) refl
  refused r (answers p (says_steady e n k)) = absurd (omega (arith, refusal-some r, ap (λ f. f.status) e))
  refused r (answers p (says_turning e t k)) = absurd (omega (arith, refusal-some r, ap (λ f. f.status) e))

  module _ {r : OnTrace} (s : Settled c nums r) where
    handed : Handed m.transitions (handed_on 2 trace)
    handed = rw (is, fit) at s.handed

    size : length nums ≡ length trace / 2
    size = ap length fit ∙ trace-count m.transitions trace handed

    path : steps (transitions c) nums ≡ path_in m trace
    path = rw (is, fit, (handed-whole 2 trace handed.some).is)

    pub no_room : length stamps₀ / 4 < 2 * length nums → Out (Err NoRoom) stamps₀
    no_room h = refuses refl (inr (trace-whole m.transitions trace handed, inl ((λ q. omega (arith, size)), refl, refl))) refl

    passes : 2 * length nums ≤ length stamps₀ / 4 → Passes (bytes_tests m trace stamps₀)
    passes h = (trace-whole m.transitions trace handed, (omega (arith, size), tt))

    -- what was written is what is to be shown
    written : (k l : ℕ) {stamps : List ℕ} → 2 * length nums ≤ length stamps₀ / 4 → Written k l stamps
        → stamps ≡ over (bytes 4 (shown_stamps (path_in m trace) k l)) stamps₀
    written k l {stamps} room w =
        let b : Bounded c nums = ready (record { ranged = ranged; handed = s.handed }) in
        let e : named c nums ≡ path_in m trace =
        named-trace c (length c) s.handed.start s.handed.end nums s.handed.path ∙ path in
        let both : List ℕ = shown_stamps (path_in m trace) k l in
        let long : length both ≡ 2 * length nums = rw e at (shown-stamps (named c nums) k l ∙ ap (λ (n : ℕ). 2 * n) (length-named c nums)) in
        let is : wholes 4 stamps ≡ over both (wholes 4 stamps₀) =
        w.is ∙ rw e at (words-plain c nums k l (wholes 4 stamps₀) b (omega (arith, wholes_long 4 stamps₀))) in
        let many : length (bytes 4 both) ≡ 4 * length both = length-bytes 4 both ∙ omega arith in
        rw many (over-bytes 4 stamps stamps₀ w.now w.before (length both) both refl (omega arith) is w.rest)

  pub steady : Settled c nums Steady → 2 * length nums ≤ length stamps₀ / 4 → Out (Ok Steady) stamps₀
  steady s room = by s.says
    where
      by : TraceSays (steps (transitions c) nums) (Unit {0}) (λ s. Unit {0}) (trace_fields (length nums) (Ok Steady)) → Out (Ok Steady) stamps₀
      by (says_steady e n k) = answers (passes s room) (says_steady refl (rw (path s) at n) refl)
      by (says_turning e t k) = absurd (omega (arith, ap (λ f. f.status) e))

  module _ {i j : ℕ} (s : Settled c nums (Turning i j)) where
    -- the pair's places, counted from 0
    found : (k : ℕ) × (l : ℕ) × (i ≡ suc k) × (j ≡ suc l) × TurnsAt (path_in m trace) k l
    found = by s.says
      where
        by : TraceSays (steps (transitions c) nums) (Unit {0}) (λ s. Unit {0}) (trace_fields (length nums) (Ok (Turning i j)))
            → (k : ℕ) × (l : ℕ) × (i ≡ suc k) × (j ≡ suc l) × TurnsAt (path_in m trace) k l
        by (says_steady e n k) = absurd (omega (arith, ap (λ f. f.status) e))
        by (says_turning {k = k} {m = l} e t w) = (k, l, ap (λ f. f.first) e, ap (λ f. f.second) e, rw (path s) at t)

    pub turning : {stamps : List ℕ} → 2 * length nums ≤ length stamps₀ / 4 → Written (i - 1) (j - 1) stamps → Out (Ok (Turning i j)) stamps
    turning room w =
        let f = found in
        let a : i - 1 ≡ f.0 = omega (arith, f.2) in
        let b : j - 1 ≡ f.1 = omega (arith, f.3) in
        let n : length trace / 2 ≡ length (path_in m trace) = omega (arith, size s, length-steps (transitions c) nums, ap length (path s)) in
        answers (passes s room)
        (says_turning {k = f.0} {m = f.1} (same-fields f.2 f.3 n) f.4 (rw (a, b) at (written s (i - 1) (j - 1) room w)))

-- the first n of the decoded places
pub first-places : (trace : List ℕ) {n : ℕ} {places₀ places : List ℕ} → Decoded 2 trace places₀ n places → length places₀ ≡ 512 → take n places ≡ handed_on 2 trace
first-places trace {places₀ = places₀} got long = decoded-take 2 trace places₀ got ∙ ap (λ r. fitted r 2 trace) long
