-- The theorems on chains of the player's accepted calls on bytes: those on values, of what the bytes say.
use mathlib.Core.Path.{◌≡◌, sym, subst}
use mathlib.Core.List.{List, ◌++◌, map}
use Prim.Native.Nat.{ℕ, ◌≤◌}
use lib.ListN.{length, drop}
use Rattle.model.specs.Answers.{Fields, fields}
use Rattle.model.specs.Table.{Machine}
use Rattle.model.specs.Trace.{steps}
use Rattle.model.specs.Order.{Conversion}
use Rattle.model.specs.Stamps.{stamps_of}
use Rattle.table_file.specs.File.{machine, read_file}
use Rattle.replay.specs.Play.{ReplayOutcome}
use Rattle.player.specs.declared.Move.{Move}
use Rattle.playing.specs.Most.{most_waiting}
use Rattle.agree.specs.Chain.{Call, Chain, trace_of, word_of, issued_of}
use Rattle.agree.proofs.Theorems.{never-more, never-241, converts, as-replayed, never-15}
use Rattle.player_bytes.specs.Records.{config_in, records_in}
use Rattle.player_bytes.specs.Plays.{PlayBytesOutcome}
use Rattle.player_bytes.proofs.OnlyLaws.{start-fields-only, play-fields-only}
use Rattle.player_bytes.proofs.ValueLaws.{play-values}
use Rattle.agree_bytes.specs.ChainBytes.{ChainBytes, begun_bytes, called_bytes}
use Rattle.agree_bytes.proofs.Decoded.{OnValues, on_values, decoded-of}

-- the calls and the first buffers decide the last ones
pub chain-only : {file config₀ waiting₀ config waiting k v : List ℕ} {h : List Call} → ChainBytes file config₀ waiting₀ config waiting h
    → ChainBytes file config₀ waiting₀ k v h → (config ≡ k) × (waiting ≡ v)
chain-only {file} {config₀} {waiting₀} {config} {waiting} {k} {v} (begun_bytes b w o) (begun_bytes b' w' o') =
    let r = start-fields-only file config₀ waiting₀ (fields 0 0 0 0) (fields 0 0 0 0) config waiting k v o o' in
    (r.1, r.2)
chain-only {file} {config = config} {waiting = waiting} {k = k} {v = v} (called_bytes {config = c} {waiting = w} mv i j x s o)
    (called_bytes {config = c'} {waiting = w'} mv' i' j' y s' o') =
    let e = chain-only x y in
    let f : Fields = fields 0 i j 0 in
    let p : PlayBytesOutcome file c w mv f k v =
    subst (λ (z : List ℕ). PlayBytesOutcome file z w mv f k v) (sym e.0) (subst (λ (z : List ℕ). PlayBytesOutcome file c' z mv f k v) (sym e.1) o') in
    let r = play-fields-only file c w mv f f config waiting k v o p in
    (r.1, r.2)

module _ {file config₀ waiting₀ config waiting : List ℕ} {h : List Call} (chain : ChainBytes file config₀ waiting₀ config waiting h)
    (m : Machine) (read : read_file file ≡ machine m) where
  as_values : Chain m (config_in config) (records_in waiting) h
  as_values = decoded-of chain m read

  -- Theorem 2: never more wait than the ceiling of greatest d over least u, or none in an empty table
  pub never-more-bytes : (config_in config).waiting ≤ most_waiting m.transitions
  never-more-bytes = never-more as_values

  pub never-241-bytes : (config_in config).waiting ≤ 240
  never-241-bytes = never-241 as_values

  -- only a forged configuration is refused with the last 15, or with the first
  pub never-15-bytes : (mv : Move) (f : Fields) (config' waiting' : List ℕ) → PlayBytesOutcome file config waiting mv f config' waiting'
      → f.status ≡ 15 → ⊥
  never-15-bytes mv f config' waiting' o =
      let y : OnValues file config₀ waiting₀ config waiting h = on_values chain in
      never-15 as_values mv f (config_in config') (records_in waiting')
      (play-values file y.bytes config waiting y.lent.bytes config' waiting' m read mv f y.lent o)

  -- Theorem 1: what was issued is what replay lists, with the times
  module _ (none_waits : (config_in config).waiting ≡ 0) where
    pub converts-bytes : Conversion (steps m.transitions (trace_of h)) (word_of h) (issued_of h)
    converts-bytes = converts as_values none_waits

    -- the same in replay's words
    pub as-replayed-bytes : 1 ≤ length (trace_of h) → (o₀ d₀ : List ℕ) → (length (trace_of h) ≤ length o₀) × (length (trace_of h) ≤ length d₀)
        → {f : Fields} (o d : List ℕ) → ReplayOutcome m (trace_of h) 0 (stamps_of (word_of h)) o₀ d₀ f o d
        → (f ≡ fields 0 0 0 0) × (o ≡ map (λ x. x.step) (issued_of h) ++ drop (length (trace_of h)) o₀)
        × (d ≡ map (λ x. x.time) (issued_of h) ++ drop (length (trace_of h)) d₀)
    as-replayed-bytes some o₀ d₀ roomy o d x = as-replayed as_values none_waits some o₀ d₀ roomy o d x
