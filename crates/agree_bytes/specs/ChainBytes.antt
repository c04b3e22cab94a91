-- Chains of the player's accepted calls on bytes: one table file, and two lent buffers that stay as each call leaves them.
use Rattle.std.specs.Prelude.{◌≡◌, List, [], ◌∷◌, ◌++◌, ℕ}
use Rattle.model.specs.Answers.{fields}
use Rattle.model.specs.Word.{Symbol}
use Rattle.wire.specs.Bytes.{Bytes}
use Rattle.player.specs.declared.Move.{Move}
use Rattle.agree.specs.Chain.{Call, Small, trace_of, symbols_of}
use Rattle.player_bytes.specs.Records.{config_in}
use Rattle.player_bytes.specs.Plays.{StartBytesOutcome, PlayBytesOutcome}

-- accepted moves on one table, one after the other from its start, the buffers first and last: the calls, the last one first
pub data ChainBytes (file config₀ waiting₀ : List ℕ) : List ℕ → List ℕ → List Call → Type 0 where
  begun_bytes : {config waiting : List ℕ} → Bytes file → Bytes waiting₀ → StartBytesOutcome file config₀ waiting₀ (fields 0 0 0 0) config waiting
      → ChainBytes file config₀ waiting₀ config waiting []
  called_bytes : {config waiting config' waiting' : List ℕ} {h : List Call} (mv : Move) (i j : ℕ) → ChainBytes file config₀ waiting₀ config waiting h
      → Small mv → PlayBytesOutcome file config waiting mv (fields 0 i j 0) config' waiting'
      → ChainBytes file config₀ waiting₀ config' waiting' (record { move = mv; first = i; second = j } ∷ h)

-- the calls h₀ and some after them, on bytes, that end with none waiting, with these transitions taken at these times
pub record EndedBytes (file config₀ waiting₀ : List ℕ) (h₀ : List Call) (trace : List ℕ) (symbols : List Symbol) : Type 0 where
  pub config : List ℕ
  pub waiting : List ℕ
  pub more : List Call
  pub chain : ChainBytes file config₀ waiting₀ config waiting (more ++ h₀)
  pub none_waits : (config_in config).waiting ≡ 0
  pub took : trace_of (more ++ h₀) ≡ trace
  pub heard : symbols_of (more ++ h₀) ≡ symbols
