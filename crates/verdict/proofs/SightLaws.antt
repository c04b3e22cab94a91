-- How far the steps of a block have to look, and that the search may go by it.
use Rattle.std.specs.Prelude.{None}
use mathlib.Core.Path.{◌≡◌, refl, sym}
use mathlib.Core.Logic.{dite}
use mathlib.Core.Bool.{Bool, true, false}
use mathlib.Core.List.{List}
use Prim.Native.Nat.{ℕ, ◌*◌, ◌/◌, ◌≤◌, ◌<◌}
use native.Mathlib.Omega.{arith}
use native.Mathlib.Decide.{dec_lt}
use lib.ListN.{length, get_or}
use Rattle.verdict.specs.declared.line.Line.{Line}
use Rattle.verdict.specs.Line.{along}
use Rattle.verdict.proofs.LineLaws.{fine, length-along}
use Rattle.verdict.specs.declared.marks.Mark.{Mark}
use Rattle.verdict.specs.declared.sight.Outlook.{Outlook}
use Rattle.verdict.specs.declared.sight.Sight.{Sight}
use Rattle.verdict.specs.Pairs.{PartnerOf, Passed}
use Rattle.verdict.specs.Calm.{standing, Seen, LookedBack}
use Rattle.verdict.specs.Marks.{Clear, mark_at, Covers}
use Rattle.verdict.specs.Sight.{Far}
use Rattle.verdict.proofs.TimeLaws.{calm-alone, clear-alone}
use Rattle.verdict.proofs.MarkLaws.{clear-join, clear-under}
use Rattle.verdict.proofs.PairLaws.{passed-by}

-- no number from block r on is low enough
pub clear-beyond : {early late lows : List ℕ} {calm : List Bool} {q : Mark} {n r : ℕ} → Seen (standing early) n lows calm 0 → r ≤ 64
    → (r < 64 → q.time ≤ get_or lows r 0) → Clear early late q (8 * r) n
clear-beyond {r = r} s w t = record {
  none = λ m h l f. dite (dec_lt r 64) (λ i. omega (arith, f.before, t i, s.low r m (omega arith) h l)) (λ d. omega (arith, s.few));
}

-- a block looks as far as what its steps ask for together
pub far-by : {early late : List ℕ} {calm : List Bool} {i n far : ℕ} {q : Mark}
    → ((k : ℕ) → k / 8 ≡ i → get_or calm k false ≡ false → Covers q (mark_at early late k)) → far ≤ 512 → Clear early late q far n
    → Far early late calm n (record { block = i; far = far })
far-by v w c = record { within = w; clear = λ k h e d. clear-under (v k e d) c }

either : {P : Type 0} (b : Bool) → (b ≡ true → P) → (b ≡ false → P) → P
either true f g = f refl
either false f g = g refl

-- the search stands at k, and looks as far as t says
module _ (o : Outlook) {k : ℕ} (h : k < length o.line.trace.now) (t : Sight)
    (far : Far o.early.now o.late.now o.calm.now (length o.line.trace.now) t) where
  -- step k is calm, or nothing up to the sight of its block nor beyond is what it asks for
  pub ruled_out : (get_or o.calm.now k false ≡ false → t.block ≡ k / 8)
      → (get_or o.calm.now k false ≡ false → Clear o.early.now o.late.now (mark_at o.early.now o.late.now k) k t.far)
      → PartnerOf (along o.line) k None
  ruled_out b x =
      let p : Line = o.line in
      let n : length p.trace.now ≡ length (along p) = sym (length-along p) in
      let few : length (along p) ≤ 512 = omega (arith, n, p.few) in
      either (get_or o.calm.now k false)
      (λ e. calm-alone o.numbers (fine p) few (rw n at (o.seen.still k (omega arith) h e)))
      (λ e. clear-alone o.numbers (fine p) few (rw n at o.times)
      (rw n at (clear-join (x e) (far.clear k (omega (arith, p.few)) (sym (b e)) e))))

-- what the look back left, and the first step that is not calm
module _ (p : Line) {early lows : List ℕ} {calm : List Bool} {k : ℕ} (b : LookedBack (along p) early lows calm k) where
  pub looked-seen : Seen (standing early) (length p.trace.now) lows calm 0
  looked-seen = rw (length-along p) at b.seen

  pub looked-passed : Passed (along p) k
  looked-passed =
      passed-by (along p) k (λ i h. calm-alone b.numbers (fine p) (omega (arith, length-along p, p.few)) (b.before i h))
