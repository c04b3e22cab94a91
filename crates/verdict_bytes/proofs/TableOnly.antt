-- Two outcomes that the verdict on a table file allows agree in all but the trace that is shown, and in everything if they show one trace.
use mathlib.Core.Path.{◌≡◌}
use mathlib.Core.List.{List}
use Prim.Native.Nat.{ℕ, ◌<◌}
use native.Mathlib.Omega.{arith}
use lib.ListN.{length}
use Rattle.model.specs.Answers.{Fields}
use Rattle.model.specs.Lists.{All, all_nil, all_cons}
use Rattle.model.specs.Table.{Machine}
use Rattle.model.proofs.Lists.{all_append}
use Rattle.model.proofs.Paths.{trace-known}
use Rattle.wire.specs.Bytes.{Bytes, wholes}
use Rattle.table.specs.Showing.{shown_in, Agree, ByTrace}
use Rattle.table_verdict.specs.OnTable.{Judged, table_fields, TableShows, split_shown, turning_shown}
use Rattle.table_verdict.specs.Agree.{SameShown}
use Rattle.table_verdict.proofs.OnlyLaws.{answer-only, table-pinned, table-by}
use Rattle.places.proofs.ShownLaws.{bytes-is, bytes-agree, bytes-only, bytes-plain-only}
use Rattle.verdict_bytes.specs.Tables.{JudgeTableBytesOutcome}

-- a shown trace names transitions of the table
pub table-known : (m : Machine) (f : Fields) (l s : List ℕ) → TableShows m f l s → All (λ i. i < length m.transitions) l
table-known m f _ _ (split_shown {i = i} {way = way} e a) =
    let h : i < length m.transitions = omega (arith, a.pair.pair.ordered, a.pair.pair.inside) in
    all_append (trace-known _ _ _ way a.path) (all_cons h all_nil)
table-known m f _ _ (turning_shown {shown = shown} e a) = trace-known _ _ _ shown a.lowest.path

-- one file and one lent memory
module _ (trace₀ stamps₀ : List ℕ) (file : List ℕ) (read : Bytes file) where
  abbrev Out : Fields → List ℕ → List ℕ → Type 0
  Out f trace stamps = JudgeTableBytesOutcome file trace₀ stamps₀ f trace stamps

  -- K is the first place of its transition in the shown trace, and M the trace's length
  pub table-bytes-by-trace : (f : Fields) (trace stamps : List ℕ) → Out f trace stamps → f.status ≡ 257
      → ByTrace (shown_in f (wholes 2 trace)) f.first f.second
  table-bytes-by-trace f trace stamps x h =
      bytes-is table-pinned table-known 270 540 trace₀ stamps₀ file read f trace stamps (λ l. ByTrace l f.first f.second) (λ m. table-by m h)
      (omega arith) x

  module _ (f g : Fields) (trace stamps trace' stamps' : List ℕ) (x : Out f trace stamps) (y : Out g trace' stamps') where
    -- whatever traces they show, two outcomes agree in kind, a refusal's number and place, I and J, the transition at K
    pub table-bytes-agree : Agree SameShown f (wholes 2 trace) g (wholes 2 trace')
    table-bytes-agree = bytes-agree table-pinned table-known 270 540 trace₀ stamps₀ file read f g trace stamps trace' stamps' x y

    -- two outcomes that show one trace are equal: fields, trace memory and stamp memory
    pub fields-only : shown_in f (wholes 2 trace) ≡ shown_in g (wholes 2 trace') → (f ≡ g) × (trace ≡ trace') × (stamps ≡ stamps')
    fields-only = bytes-only table-pinned table-known 270 540 trace₀ stamps₀ file read f g trace stamps trace' stamps' x y

    -- so are two that are strict or refused
    pub fields-plain-only : f.status < 256 → (f ≡ g) × (trace ≡ trace') × (stamps ≡ stamps')
    fields-plain-only = bytes-plain-only table-pinned table-known 270 540 trace₀ stamps₀ file read f g trace stamps trace' stamps' x y

  -- the same of the answers
  pub table-bytes-only : (r s : Judged) (trace stamps trace' stamps' : List ℕ) → Out (table_fields r) trace stamps → Out (table_fields s) trace' stamps'
      → shown_in (table_fields r) (wholes 2 trace) ≡ shown_in (table_fields s) (wholes 2 trace') → (r ≡ s) × (trace ≡ trace') × (stamps ≡ stamps')
  table-bytes-only r s trace stamps trace' stamps' x y h =
      let o = fields-only (table_fields r) (table_fields s) trace stamps trace' stamps' x y h in
      (answer-only r s o.0, o.1, o.2)

  pub table-bytes-plain-only : (r s : Judged) (trace stamps trace' stamps' : List ℕ) → Out (table_fields r) trace stamps → Out (table_fields s) trace' stamps'
      → (table_fields r).status < 256 → (r ≡ s) × (trace ≡ trace') × (stamps ≡ stamps')
  table-bytes-plain-only r s trace stamps trace' stamps' x y h =
      let o = fields-plain-only (table_fields r) (table_fields s) trace stamps trace' stamps' x y h in
      (answer-only r s o.0, o.1, o.2)
