-- Two answers that an export allows for one input are equal, number and memory; of the calls that show a trace, if they show one trace.
use mathlib.Core.Path.{◌≡◌, sym, ap, subst, ◌∙◌}
use mathlib.Core.List.{List}
use Prim.Native.Nat.{ℕ, ◌≤◌, ◌<◌}
use native.Mathlib.Omega.{arith}
use lib.ListN.{length}
use Rattle.model.specs.Answers.{Fields}
use Rattle.model.specs.Lists.{All}
use Rattle.model.specs.Table.{Machine}
use Rattle.wire.specs.Bytes.{Bytes, wholes}
use Rattle.table.specs.Showing.{shown_in, Agree, ByTrace}
use Rattle.table.proofs.ShowingLaws.{Pinned}
use Rattle.table_verdict.specs.Agree.{SameShown as SameVerdict}
use Rattle.table_verdict.proofs.OnlyLaws.{table-pinned, table-by}
use Rattle.table_order.specs.Agree.{SameShown as SameOrder}
use Rattle.table_order.proofs.OnlyLaws.{order-pinned, order-by}
use Rattle.places.specs.ShownBytes.{ShownOnFile}
use Rattle.places.proofs.ShownLaws.{bytes-is, bytes-agree, bytes-only, bytes-plain-only}
use Rattle.on_bytes.proofs.OnlyLaws.{replay-fields-only, rewrite-fields-only}
use Rattle.night_bytes.proofs.OnlyLaws.{words-fields-only}
use Rattle.trace_bytes.proofs.TraceOnly.{fields-only as trace-only}
use Rattle.player.specs.declared.Move.{Move}
use Rattle.player_bytes.proofs.OnlyLaws.{start-fields-only, play-fields-only}
use Rattle.verdict_bytes.proofs.TableOnly.{table-known}
use Rattle.order_bytes.proofs.OrderOnly.{order-known}
use Rattle.answers.specs.Packed.{packed, unpacked}
use Rattle.sandgusset.specs.Exports.{JudgeAnswer, OrderAnswer, JudgeTraceAnswer, ReplayAnswer, WordsAnswer, RewriteAnswer, PlayerStartAnswer, PlayerAnswer}
use Rattle.sandgusset.proofs.FitLaws.{judge-apart, order-apart}

-- one answer is one number
same : {f g : Fields} {r s : ℕ} → r ≡ packed f → s ≡ packed g → f ≡ g → r ≡ s
same p q e = p ∙ ap packed e ∙ sym q

pub replay-only : {file trace : List ℕ} {start : ℕ} {stamps order₀ due₀ order due order' due' : List ℕ} {r s : ℕ}
    → ReplayAnswer file trace start stamps order₀ due₀ r order due → ReplayAnswer file trace start stamps order₀ due₀ s order' due'
    → (r ≡ s) × (order ≡ order') × (due ≡ due')
replay-only {file} {trace} {start} {stamps} {order₀} {due₀} {order} {due} {order'} {due'} x y =
    let e = replay-fields-only trace start stamps order₀ due₀ file x.said y.said order due order' due' x.outcome y.outcome in
    (same x.packs y.packs e.0, e.1, e.2)

pub words-only : {file trace starts stamps order₀ due₀ marks₀ order due marks order' due' marks' : List ℕ} {r s : ℕ}
    → WordsAnswer file trace starts stamps order₀ due₀ marks₀ r order due marks → WordsAnswer file trace starts stamps order₀ due₀ marks₀ s order' due' marks'
    → (r ≡ s) × (order ≡ order') × (due ≡ due') × (marks ≡ marks')
words-only {file} {trace} {starts} {stamps} {order₀} {due₀} {marks₀} {order} {due} {marks} {order'} {due'} {marks'} x y =
    let e = words-fields-only trace starts stamps order₀ due₀ marks₀ file x.said y.said order due marks order' due' marks' x.outcome y.outcome in
    (same x.packs y.packs e.0, e.1, e.2, e.3)

pub rewrite-only : {file out₀ out out' : List ℕ} {r s : ℕ} → RewriteAnswer file out₀ r out → RewriteAnswer file out₀ s out' → (r ≡ s) × (out ≡ out')
rewrite-only {file} {out₀} {out} {out'} x y =
    let e = rewrite-fields-only file out₀ x.said y.said out out' x.outcome y.outcome in
    (same x.packs y.packs e.0, e.1)

pub judge-trace-only : {file trace stamps₀ stamps stamps' : List ℕ} {r s : ℕ} → JudgeTraceAnswer file trace stamps₀ r stamps
    → JudgeTraceAnswer file trace stamps₀ s stamps' → (r ≡ s) × (stamps ≡ stamps')
judge-trace-only {file} {trace} {stamps₀} {stamps} {stamps'} x y =
    let e = trace-only trace stamps₀ file x.said y.said stamps stamps' x.outcome y.outcome in
    (same x.packs y.packs e.0, e.1)

pub player-start-only : {file config₀ waiting₀ config waiting config' waiting' : List ℕ} {r s : ℕ} → PlayerStartAnswer file config₀ waiting₀ r config waiting
    → PlayerStartAnswer file config₀ waiting₀ s config' waiting' → (r ≡ s) × (config ≡ config') × (waiting ≡ waiting')
player-start-only {file} {config₀} {waiting₀} {config} {waiting} {config'} {waiting'} x y =
    let e = start-fields-only file config₀ waiting₀ x.said y.said config waiting config' waiting' x.outcome y.outcome in
    (same x.packs y.packs e.0, e.1, e.2)

pub player-only : {file config₀ waiting₀ : List ℕ} {mv : Move} {config waiting config' waiting' : List ℕ} {r s : ℕ}
    → PlayerAnswer file config₀ waiting₀ mv r config waiting → PlayerAnswer file config₀ waiting₀ mv s config' waiting'
    → (r ≡ s) × (config ≡ config') × (waiting ≡ waiting')
player-only {file} {config₀} {waiting₀} {mv} {config} {waiting} {config'} {waiting'} x y =
    let e = play-fields-only file config₀ waiting₀ mv x.said y.said config waiting config' waiting' x.outcome y.outcome in
    (same x.packs y.packs e.0, e.1, e.2)

-- a call that may show a trace, as a host takes its number apart
module _ {Quiet : Machine → Type 0} {Shows : Machine → Fields → List ℕ → List ℕ → Type 0} {Same : Fields → List ℕ → Fields → List ℕ → Type 0}
    (pinned : (m : Machine) → Pinned (Quiet m) (Shows m) Same)
    (known : (m : Machine) (f : Fields) (l s : List ℕ) → Shows m f l s → All (λ i. i < length m.transitions) l)
    (a c : ℕ) (file trace₀ stamps₀ : List ℕ) (b : Bytes file) where
  -- what is so of every shown trace
  shown-is : (f : Fields) (trace stamps : List ℕ) → ShownOnFile a c Quiet Shows file trace₀ stamps₀ f trace stamps → (r : ℕ) → unpacked r ≡ f
      → (P : Fields → List ℕ → Type 0) → ((m : Machine) (l s : List ℕ) → f.status ≡ (unpacked r).status → Shows m f l s → P f l) → 256 ≤ (unpacked r).status
      → P (unpacked r) (shown_in (unpacked r) (wholes 2 trace))
  shown-is f trace stamps x r apart P h n =
      let e = ap (λ f. f.status) (sym apart) in
      subst (λ f. P f (shown_in f (wholes 2 trace))) (sym apart)
      (bytes-is pinned known a c trace₀ stamps₀ file b f trace stamps (P f) (λ m l s. h m l s e) (omega (arith, e)) x)

  module _ (f g : Fields) (trace stamps trace' stamps' : List ℕ) (x : ShownOnFile a c Quiet Shows file trace₀ stamps₀ f trace stamps)
      (y : ShownOnFile a c Quiet Shows file trace₀ stamps₀ g trace' stamps') (r s : ℕ) (apart : unpacked r ≡ f) (apart' : unpacked s ≡ g) where
    -- whatever traces they show
    shown-agree : Agree Same (unpacked r) (wholes 2 trace) (unpacked s) (wholes 2 trace')
    shown-agree = rw (apart, apart') (bytes-agree pinned known a c trace₀ stamps₀ file b f g trace stamps trace' stamps' x y)

    module _ (packs : r ≡ packed f) (packs' : s ≡ packed g) where
      -- one number too
      numbered : (f ≡ g) × (trace ≡ trace') × (stamps ≡ stamps') → (r ≡ s) × (trace ≡ trace') × (stamps ≡ stamps')
      numbered e = (same packs packs' e.0, e.1, e.2)

      -- two answers that show one trace
      shown-only : shown_in (unpacked r) (wholes 2 trace) ≡ shown_in (unpacked s) (wholes 2 trace') → (r ≡ s) × (trace ≡ trace') × (stamps ≡ stamps')
      shown-only h =
          numbered (bytes-only pinned known a c trace₀ stamps₀ file b f g trace stamps trace' stamps' x y
          (ap (λ f. shown_in f (wholes 2 trace)) (sym apart) ∙ h ∙ ap (λ f. shown_in f (wholes 2 trace')) apart'))

      -- two that show nothing
      shown-plain-only : (unpacked r).status < 256 → (r ≡ s) × (trace ≡ trace') × (stamps ≡ stamps')
      shown-plain-only h =
          numbered (bytes-plain-only pinned known a c trace₀ stamps₀ file b f g trace stamps trace' stamps' x y (omega (arith, ap (λ f. f.status) apart)))

module _ {file trace₀ stamps₀ : List ℕ} (b : Bytes file) where
  module _ {trace stamps : List ℕ} {r : ℕ} where
    -- K is the first place of its transition in the shown trace, and M the trace's length
    pub judge-by-trace : JudgeAnswer file trace₀ stamps₀ r trace stamps → (unpacked r).status ≡ 257
        → ByTrace (shown_in (unpacked r) (wholes 2 trace)) (unpacked r).first (unpacked r).second
    judge-by-trace x h =
        shown-is table-pinned table-known 270 540 file trace₀ stamps₀ b x.said trace stamps x.outcome r (judge-apart b x)
        (λ f l. ByTrace l f.first f.second) (λ m l s e. table-by m (e ∙ h) l s) (omega arith)

    pub order-by-trace : OrderAnswer file trace₀ stamps₀ r trace stamps → 256 ≤ (unpacked r).status
        → ByTrace (shown_in (unpacked r) (wholes 2 trace)) (unpacked r).first (unpacked r).second
    order-by-trace x =
        shown-is order-pinned order-known 270 270 file trace₀ stamps₀ b x.said trace stamps x.outcome r (order-apart b x)
        (λ f l. ByTrace l f.first f.second) (λ m l s e. order-by m l s)

  module _ {trace stamps trace' stamps' : List ℕ} {r s : ℕ} (x : JudgeAnswer file trace₀ stamps₀ r trace stamps)
      (y : JudgeAnswer file trace₀ stamps₀ s trace' stamps') where
    -- whatever traces they show
    pub judge-agree : Agree SameVerdict (unpacked r) (wholes 2 trace) (unpacked s) (wholes 2 trace')
    judge-agree = shown-agree table-pinned table-known 270 540 file trace₀ stamps₀ b x.said y.said trace stamps trace' stamps' x.outcome y.outcome
        r s (judge-apart b x) (judge-apart b y)

    -- two answers that show one trace
    pub judge-only : shown_in (unpacked r) (wholes 2 trace) ≡ shown_in (unpacked s) (wholes 2 trace') → (r ≡ s) × (trace ≡ trace') × (stamps ≡ stamps')
    judge-only = shown-only table-pinned table-known 270 540 file trace₀ stamps₀ b x.said y.said trace stamps trace' stamps' x.outcome y.outcome
        r s (judge-apart b x) (judge-apart b y) x.packs y.packs

    -- strict or refused
    pub judge-plain-only : (unpacked r).status < 256 → (r ≡ s) × (trace ≡ trace') × (stamps ≡ stamps')
    judge-plain-only = shown-plain-only table-pinned table-known 270 540 file trace₀ stamps₀ b x.said y.said trace stamps trace' stamps' x.outcome y.outcome
        r s (judge-apart b x) (judge-apart b y) x.packs y.packs

  -- the same of request order
  module _ {trace stamps trace' stamps' : List ℕ} {r s : ℕ} (x : OrderAnswer file trace₀ stamps₀ r trace stamps)
      (y : OrderAnswer file trace₀ stamps₀ s trace' stamps') where
    pub order-agree : Agree SameOrder (unpacked r) (wholes 2 trace) (unpacked s) (wholes 2 trace')
    order-agree = shown-agree order-pinned order-known 270 270 file trace₀ stamps₀ b x.said y.said trace stamps trace' stamps' x.outcome y.outcome
        r s (order-apart b x) (order-apart b y)

    pub order-only : shown_in (unpacked r) (wholes 2 trace) ≡ shown_in (unpacked s) (wholes 2 trace') → (r ≡ s) × (trace ≡ trace') × (stamps ≡ stamps')
    order-only = shown-only order-pinned order-known 270 270 file trace₀ stamps₀ b x.said y.said trace stamps trace' stamps' x.outcome y.outcome
        r s (order-apart b x) (order-apart b y) x.packs y.packs

    pub order-plain-only : (unpacked r).status < 256 → (r ≡ s) × (trace ≡ trace') × (stamps ≡ stamps')
    order-plain-only = shown-plain-only order-pinned order-known 270 270 file trace₀ stamps₀ b x.said y.said trace stamps trace' stamps' x.outcome y.outcome
        r s (order-apart b x) (order-apart b y) x.packs y.packs
