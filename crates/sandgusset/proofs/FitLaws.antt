-- Every field of an answer that an export allows fits its 16 bits: a host that takes the answer apart loses nothing.
use mathlib.Core.Path.{◌≡◌, refl, sym, ap, ◌∙◌, subst}
use mathlib.Core.Logic.{inl, inr}
use mathlib.Core.List.{List, [], ◌∷◌}
use Prim.Native.Nat.{ℕ, suc, ◌+◌, ◌≤◌, ◌<◌}
use native.Mathlib.Omega.{arith}
use lib.ListN.{length, take, length-take}
use Rattle.model.specs.Answers.{Fields, fields}
use Rattle.model.specs.Lists.{All, In}
use Rattle.model.specs.Table.{Transition, Machine}
use Rattle.model.specs.Verdict.{Strict}
use Rattle.model.specs.Stamps.{gaps_from}
use Rattle.model.proofs.Lists.{in-append, all_in, all_take}
use Rattle.model.proofs.Paths.{length-steps}
use Rattle.wire.specs.Bytes.{Bytes, wholes}
use Rattle.table.specs.Tests.{Test, Passes, Fails, Answered, refuses, answers}
use Rattle.table_file.specs.File.{machine, stopped, read_file}
use Rattle.table_file.proofs.FileLaws.{places, near, sound}
use Rattle.table_file.proofs.WriteLaws.{length-file}
use Rattle.replay.specs.Play.{gap_tests}
use Rattle.verdict.specs.OnTrace.{TraceSays, says_steady, says_turning as trace-turning}
use Rattle.table.specs.Showing.{Showing, says_none, says_shown}
use Rattle.table_verdict.specs.OnTable.{TableShows, split_shown, turning_shown}
use Rattle.table_order.specs.OnOrder.{KeepsOrder, OrderShows, overtaken_shown}
use Rattle.places.specs.ShownBytes.{ShownOnFile}
use Rattle.places.specs.Places.{path_in, trace_test}
use Rattle.places.proofs.ReadingLaws.{of-file}
use Rattle.records.specs.declared.Pending.{Pending}
use Rattle.player.specs.declared.Config.{Config}
use Rattle.player.specs.declared.Move.{Move}
use Rattle.player.specs.declared.Move.TheVariants.{Time, Input, Output}
use Rattle.player.specs.Moves.{waiting_in, move_tests, MoveDone}
use Rattle.player_bytes.specs.Records.{config_in, lent_in, records_in}
use Rattle.player_bytes.proofs.RoundLaws.{Narrow, records-small}
use Rattle.answers.specs.Packed.{packed, unpacked, In16Bits}
use Rattle.sandgusset.specs.Exports.{JudgeAnswer, OrderAnswer, JudgeTraceAnswer, ReplayAnswer, WordsAnswer, RewriteAnswer, PlayerStartAnswer, PlayerAnswer}
use Rattle.answers.proofs.PackLaws.{packed-apart}

-- the number and the place of each test fit where all before it hold
abbrev EachFits : List Test → Type 0
EachFits [] = Unit {0}
EachFits (t ∷ l) = (t.number < 65536) × (t.place < 65536) × (t.holds → EachFits l)

fails-fit : (l : List Test) (n p : ℕ) → EachFits l → Fails l n p → (n < 65536) × (p < 65536)
fails-fit [] n p e x'' = elim x'' [ ]
fails-fit (t ∷ l) n p e (inl f) = (rw f.1 e.0, rw f.2 e.1)
fails-fit (t ∷ l) n p e (inr f) = fails-fit l n p (e.2 f.0) f.1

answered-fits : {tests : List Test} {Done : Fields → Type 0} {Kept : Type 0} {f : Fields} → EachFits tests → (Passes tests → Done f → In16Bits f)
    → Answered tests Done Kept f → In16Bits f
answered-fits {tests} each done (refuses {n = n} {p = p} e x k) = let h = fails-fit tests n p each x in rw e (omega arith)
answered-fits each done (answers p d) = done p d

-- the reader refuses by the first 4,634 bytes
reader-fits : (file : List ℕ) {f : Fields} (n p : ℕ) → read_file file ≡ stopped n p → f ≡ fields n p 0 0 → In16Bits f
reader-fits file n p e g =
    let h = places (take 4634 file) n p (near file 4634 (omega arith) ∙ e) in
    rw g (omega (arith, h.inside, h.last, length-take 4634 file))

-- a trace that passed its test has at most 512 steps
path-few : (m : Machine) (trace : List ℕ) → (trace_test m trace).holds → length (path_in m trace) ≤ 512
path-few m trace h = omega (arith, h.1.most, length-steps m.transitions (wholes 2 trace))

gaps-fit : (i : ℕ) (tr : List Transition) (gaps : List ℕ) → i + length tr ≤ 512 → EachFits (gap_tests i tr gaps)
gaps-fit i [] gaps h = tt
gaps-fit i (t ∷ tr) gaps h = (omega arith, omega arith, λ e. (omega arith, omega arith, λ g. gaps-fit (suc i) tr gaps (omega arith)))

-- a file that is read has at most 4,620 bytes
file-few : (file : List ℕ) → Bytes file → (m : Machine) → read_file file ≡ machine m → length file ≤ 4620
file-few file b m e = let k = sound file m b e in omega (arith, k.0.few, ap length k.1, length-file m)

trace-fits : {tr : List Transition} {Kept : Type 0} {Left : List ℕ → Type 0} {f : Fields} → length tr ≤ 512 → TraceSays tr Kept Left f → In16Bits f
trace-fits h (says_steady e n k) = rw e (omega arith)
trace-fits h (trace-turning e t w) = let p = t.pair.pair.early in rw e (omega (arith, p.ordered, p.inside))

-- what is shown of a table with at most 256 transitions
table-shows-fit : (m : Machine) → length m.transitions ≤ 256 → (f : Fields) (l s : List ℕ) → TableShows m f l s → In16Bits f
table-shows-fit m h f _ _ (split_shown e a) = rw e (omega (arith, a.few, a.pair.pair.ordered, a.pair.pair.inside))
table-shows-fit m h f _ _ (turning_shown e a) = rw e (omega (arith, a.lowest.few, a.lowest.ends, a.lowest.pair.early.ordered))

order-shows-fit : (m : Machine) → length m.transitions ≤ 256 → (f : Fields) (l s : List ℕ) → OrderShows m f l s → In16Bits f
order-shows-fit m h f _ _ (overtaken_shown e a) = rw e (omega (arith, a.lowest.few, a.lowest.ends, a.lowest.pair.ordered))

-- what the exports allow
pub replay-fits : {file trace : List ℕ} {start : ℕ} {stamps order₀ due₀ order due : List ℕ} {r : ℕ}
    (x : ReplayAnswer file trace start stamps order₀ due₀ r order due) → In16Bits x.said
replay-fits {file} {trace} {start} {stamps} x =
    of-file (read_file file) _ _ (λ n p e k. reader-fits file n p e k.0)
    (λ m e. answered-fits (
      omega arith,
      omega arith,
      λ h. (
        omega arith,
        omega arith,
        λ i. (
          omega arith,
          omega arith,
          λ j.
              gaps-fit 0 (path_in m trace) (gaps_from start (wholes 4 stamps)) (omega (arith, path-few m trace h)),
        ),
      ),
    )
    (λ p d. rw d.0 (omega arith))) x.outcome

pub words-fits : {file trace starts stamps order₀ due₀ marks₀ order due marks : List ℕ} {r : ℕ}
    (x : WordsAnswer file trace starts stamps order₀ due₀ marks₀ r order due marks) → In16Bits x.said
words-fits {file} x =
    of-file (read_file file) _ _ (λ n p e k. reader-fits file n p e k.0)
    (λ m e. answered-fits (omega arith, omega arith, λ h. (omega arith, omega arith, λ i. (omega arith, omega arith, λ j. tt)))
    (λ p d. rw d.0 (omega (arith, p.1.0)))) x.outcome

pub rewrite-fits : {file out₀ out : List ℕ} {r : ℕ} → Bytes file → (x : RewriteAnswer file out₀ r out) → In16Bits x.said
rewrite-fits {file} b x =
    of-file (read_file file) _ _ (λ n p e k. reader-fits file n p e k.0)
    (λ m e. answered-fits (omega arith, omega arith, λ h. tt) (λ p d. rw d.0 (omega (arith, file-few file b m e)))) x.outcome

pub judge-trace-fits : {file trace stamps₀ stamps : List ℕ} {r : ℕ} (x : JudgeTraceAnswer file trace stamps₀ r stamps) → In16Bits x.said
judge-trace-fits {file} {trace} x =
    of-file (read_file file) _ _ (λ n p e k. reader-fits file n p e k.0)
    (λ m e. answered-fits (omega arith, omega arith, λ h. (omega arith, omega arith, λ i. tt)) (λ p d. trace-fits (path-few m trace p.0) d)) x.outcome

-- a call that may show a trace
module _ (Quiet : Machine → Type 0) {Shows : Machine → Fields → List ℕ → List ℕ → Type 0}
    (fits : (m : Machine) → length m.transitions ≤ 256 → (f : Fields) (l s : List ℕ) → Shows m f l s → In16Bits f) where
  showing-fits : (m : Machine) → length m.transitions ≤ 256 → {Kept : Type 0} {Left : List ℕ → List ℕ → Type 0} {f : Fields}
      → Showing (Quiet m) (Shows m) Kept Left f → In16Bits f
  showing-fits m h (says_none e p k) = rw e (omega arith)
  showing-fits m h {f = f} (says_shown {trace = l} {stamps = s} x p) = fits m h f l s x

  shown-fits : (a c : ℕ) (file trace₀ stamps₀ trace stamps : List ℕ) (f : Fields) → Bytes file → ShownOnFile a c Quiet Shows file trace₀ stamps₀ f trace stamps
      → In16Bits f
  shown-fits a c file trace₀ stamps₀ trace stamps f b x =
      of-file (read_file file) _ _ (λ n p e k. reader-fits file n p e k.0)
      (λ m e. answered-fits (omega arith, omega arith, λ h. tt) (λ p d. showing-fits m (sound file m b e).0.few d)) x

pub judge-fits : {file trace₀ stamps₀ trace stamps : List ℕ} {r : ℕ} → Bytes file → (x : JudgeAnswer file trace₀ stamps₀ r trace stamps) → In16Bits x.said
judge-fits b x = shown-fits Strict table-shows-fit 270 540 _ _ _ _ _ x.said b x.outcome

pub order-fits : {file trace₀ stamps₀ trace stamps : List ℕ} {r : ℕ} → Bytes file → (x : OrderAnswer file trace₀ stamps₀ r trace stamps) → In16Bits x.said
order-fits b x = shown-fits KeepsOrder order-shows-fit 270 270 _ _ _ _ _ x.said b x.outcome

pub player-start-fits : {file config₀ waiting₀ config waiting : List ℕ} {r : ℕ} (x : PlayerStartAnswer file config₀ waiting₀ r config waiting)
    → In16Bits x.said
player-start-fits {file} x =
    of-file (read_file file) _ _ (λ n p e k. reader-fits file n p e k.0)
    (λ m e. answered-fits (omega arith, omega arith, λ h. (omega arith, omega arith, λ i. tt)) (λ p d. rw d.0 (omega arith))) x.outcome.0

moves-fit : (m : Machine) (c : Config) (l : List Pending) (mv : Move) → EachFits (move_tests m c l mv)
moves-fit m c l (Time t) = (omega arith, omega arith, λ a. tt)
moves-fit m c l (Input i) = (
  omega arith,
  omega arith,
  λ a. (omega arith, omega arith, λ b. (omega arith, omega arith, λ s. (omega arith, omega arith, λ t. (omega arith, omega arith, λ w. tt)))),
)
moves-fit m c l Output = (omega arith, omega arith, λ a. tt)

-- an input's transition, or an output's step and letter
done-fits : (m : Machine) → length m.transitions ≤ 256 → (c : Config) (l : List Pending) → All Narrow l
    → (mv : Move) (f : Fields) (c' : Config) (l' : List Pending) → MoveDone m c l mv f c' l' → In16Bits f
done-fits m h c l s (Time t) f c' l' d = rw d.says (omega arith)
done-fits m h c l s (Input i) f c' l' d = rw d.says (omega (arith, d.opened.known))
done-fits m h c l s Output f c' l' d =
    let it : Pending = d.first.it in
    let here : In it (waiting_in c l) = subst (In it) (sym d.first.stands) ((in-append it d.first.before (it ∷ d.first.after)).1 (inr (inl refl))) in
    rw d.says (omega (arith, all_in (all_take c.waiting s) it here))

pub player-fits : {file config₀ waiting₀ : List ℕ} {mv : Move} {r : ℕ} {config waiting : List ℕ} → Bytes file → Bytes waiting₀
    → (x : PlayerAnswer file config₀ waiting₀ mv r config waiting) → In16Bits x.said
player-fits {file} {config₀} {waiting₀} {mv} b w x =
    of-file (read_file file) _ _ (λ n p e k. reader-fits file n p e k.0)
    (λ m e. answered-fits (
      omega arith,
      omega arith,
      λ h. (omega arith, omega arith, λ i. (omega arith, omega arith, λ j. moves-fit m (config_in config₀) (records_in waiting₀) mv)),
    )
    (λ p d. done-fits m (sound file m b e).0.few (config_in config₀) (records_in waiting₀) (records-small waiting₀ w (lent_in waiting₀)) mv x.said d.next
    d.list d.done))
    x.outcome

-- taken apart, an export's number is its answer's fields
apart : {r : ℕ} {f : Fields} → r ≡ packed f → In16Bits f → unpacked r ≡ f
apart {f = f} e h = ap unpacked e ∙ packed-apart f h

pub replay-apart : {file trace : List ℕ} {start : ℕ} {stamps order₀ due₀ order due : List ℕ} {r : ℕ}
    (x : ReplayAnswer file trace start stamps order₀ due₀ r order due) → unpacked r ≡ x.said
replay-apart x = apart x.packs (replay-fits x)

pub words-apart : {file trace starts stamps order₀ due₀ marks₀ order due marks : List ℕ} {r : ℕ}
    (x : WordsAnswer file trace starts stamps order₀ due₀ marks₀ r order due marks) → unpacked r ≡ x.said
words-apart x = apart x.packs (words-fits x)

pub rewrite-apart : {file out₀ out : List ℕ} {r : ℕ} → Bytes file → (x : RewriteAnswer file out₀ r out) → unpacked r ≡ x.said
rewrite-apart b x = apart x.packs (rewrite-fits b x)

pub judge-trace-apart : {file trace stamps₀ stamps : List ℕ} {r : ℕ} (x : JudgeTraceAnswer file trace stamps₀ r stamps) → unpacked r ≡ x.said
judge-trace-apart x = apart x.packs (judge-trace-fits x)

pub judge-apart : {file trace₀ stamps₀ trace stamps : List ℕ} {r : ℕ} → Bytes file → (x : JudgeAnswer file trace₀ stamps₀ r trace stamps)
    → unpacked r ≡ x.said
judge-apart b x = apart x.packs (judge-fits b x)

pub order-apart : {file trace₀ stamps₀ trace stamps : List ℕ} {r : ℕ} → Bytes file → (x : OrderAnswer file trace₀ stamps₀ r trace stamps)
    → unpacked r ≡ x.said
order-apart b x = apart x.packs (order-fits b x)

pub player-start-apart : {file config₀ waiting₀ config waiting : List ℕ} {r : ℕ} (x : PlayerStartAnswer file config₀ waiting₀ r config waiting)
    → unpacked r ≡ x.said
player-start-apart x = apart x.packs (player-start-fits x)

pub player-apart : {file config₀ waiting₀ : List ℕ} {mv : Move} {r : ℕ} {config waiting : List ℕ} → Bytes file → Bytes waiting₀
    → (x : PlayerAnswer file config₀ waiting₀ mv r config waiting) → unpacked r ≡ x.said
player-apart b w x = apart x.packs (player-fits b w x)
