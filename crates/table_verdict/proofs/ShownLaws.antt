-- The shown split and its word, store by store.
use mathlib.Core.Path.{◌≡◌, refl, ◌∙◌}
use mathlib.Core.List.{List, [], ◌∷◌, ◌++◌, append_assoc}
use Prim.Native.Nat.{ℕ, suc, ◌+◌, ◌≤◌, ◌<◌}
use native.Mathlib.Numerals.{add-one}
use native.Mathlib.Omega.{arith}
use lib.ListN.{length, get_or, take, drop, set, length-append}
use lib.Seq.{set_at, drop-cons}
use Rattle.model.specs.Lists.{over}
use Rattle.model.specs.Table.{Transition, at}
use Rattle.model.specs.Trace.{steps}
use Rattle.model.specs.Shown.{split_word}
use Rattle.model.specs.Stamps.{stamps_of}
use Rattle.model.proofs.Paths.{trace-ranged}
use Rattle.table.specs.declared.Row.{Row}
use Rattle.table.specs.Rows.{rows, row_of, said}
use Rattle.table.specs.Fit.{Sound}
use Rattle.table.proofs.FitLaws.{row-said, row-ranged}
use Rattle.table.proofs.RowLaws.{length-rows}
use Rattle.table.proofs.NamedLaws.{named-trace}
use Rattle.words.specs.Left.{Bounded, split_left}
use Rattle.words.proofs.WordLaws.{split_plain}
use Rattle.reach.specs.Reach.{WayStands}
use Rattle.witness.specs.Witness.{way_for}
use Rattle.witness.proofs.WayLaws.{way-number, way-short, way-traced, way-stands, one-long, way-front}
use Rattle.table_verdict.specs.Shown.{TraceRoom}

-- one store where the old content begins
store-next : (p d : List ℕ) (k x : ℕ) → length p ≡ k → k < length d → set (p ++ drop k d) k x ≡ (p ++ (x ∷ [])) ++ drop (k + 1) d
store-next p d k x e h = rw (add-one k, drop-cons d k 0 h, append_assoc) (set_at p (get_or d k 0) (drop (suc k) d) x k e)

-- the way to the state that transition i leaves has been written, with its row in hand
module _ {c : List Row} {n : ℕ} {dist via : List ℕ} {i : ℕ} {trace : List ℕ} (sound : Sound c n) (room : TraceRoom (rows c n) dist via i trace)
    (r : Row) (read : r ≡ row_of c i) {k : ℕ} {one : List ℕ} (wrote : WayStands c dist via r.from trace one k) where
  abbrev ts : List Transition
  ts = rows c n

  abbrev way : List ℕ
  way = way_for ts dist via i

  first-known : i < n
  first-known = omega (arith, room.first, length-rows c n)

  here : said r ≡ at ts i
  here = row-said sound i first-known read

  wrote-way : WayStands c dist via (row_of c i).from trace one k
  wrote-way = rw read at wrote

  pub split-number : k ≡ length way
  split-number = way-number sound room.reach room.places room.first room.marked wrote-way

  short : k ≤ 31
  short = way-short sound room.reach room.places room.first room.marked wrote-way

  -- what the stores ask for
  pub bounds : (k ≤ 31) × (length one ≡ length trace) × (270 ≤ length trace) × (i < 256)
  bounds = (
    short,
    one-long sound room.reach room.places room.first room.marked wrote-way,
    room.places,
    omega (arith, first-known, sound.few),
  )

  -- a split: i at the end of the way
  pub split-traced : set one k i ≡ over (way ++ (i ∷ [])) trace
  split-traced =
      let h : length way < length trace = omega (arith, split-number, short, room.places) in
      rw (split-number, way-stands sound room.reach room.places room.first room.marked wrote-way, length-append way (i ∷ []))
      (store-next way trace (length way) i refl h)

  -- and its word
  pub split-stamped : {j : ℕ} → j < n → (s : Row) → s ≡ row_of c j → (stamps after : List ℕ) → 540 ≤ length stamps
      → after ≡ split_left c (take k one) (said r) (said s) stamps → after ≡ over (stamps_of (split_word (steps ts way) (at ts i) (at ts j))) stamps
  split-stamped {j} h s e stamps after places w =
      let path = way-traced sound room.reach room.places room.first room.marked wrote-way in
      let front : take k one ≡ way = way-front sound room.reach room.places room.first room.marked wrote-way in
      let q : after ≡ split_left c way (at ts i) (at ts j) stamps = rw (front, here, row-said sound j h e) at w in
      let g = named-trace c n room.initial (at ts i).from way path in
      let y : Bounded c way = record {
        few = omega (arith, split-number, short);
        states = 32;
        ranged = rw g (trace-ranged ts sound.ranged room.initial (at ts i).from way path);
      } in
      q ∙ rw g at (split_plain c way (at ts i) (at ts j) stamps y (row-ranged sound i first-known) (omega (arith, split-number, short)))
