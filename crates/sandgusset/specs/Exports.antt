-- What each export answers, and what it leaves in the lent memory: the fields of the byte call's answer, packed.
use Rattle.std.specs.Prelude.{◌≡◌, List, ℕ}
use Rattle.model.specs.Answers.{Fields}
use Rattle.on_bytes.specs.Replays.{ReplayBytesOutcome}
use Rattle.on_bytes.specs.Rewrites.{RewriteBytesOutcome}
use Rattle.night_bytes.specs.NightBytes.{WordsBytesOutcome}
use Rattle.trace_bytes.specs.Traces.{JudgeTraceBytesOutcome}
use Rattle.verdict_bytes.specs.Tables.{JudgeTableBytesOutcome}
use Rattle.order_bytes.specs.Orders.{OrderBytesOutcome}
use Rattle.player.specs.declared.Move.{Move}
use Rattle.player_bytes.specs.Plays.{StartBytesOutcome, PlayBytesOutcome}
use Rattle.answers.specs.Packed.{packed}

pub record JudgeAnswer (file trace₀ stamps₀ : List ℕ) (r : ℕ) (trace stamps : List ℕ) : Type 0 where
  pub said : Fields
  pub outcome : JudgeTableBytesOutcome file trace₀ stamps₀ said trace stamps
  pub packs : r ≡ packed said

pub record OrderAnswer (file trace₀ stamps₀ : List ℕ) (r : ℕ) (trace stamps : List ℕ) : Type 0 where
  pub said : Fields
  pub outcome : OrderBytesOutcome file trace₀ stamps₀ said trace stamps
  pub packs : r ≡ packed said

pub record JudgeTraceAnswer (file trace stamps₀ : List ℕ) (r : ℕ) (stamps : List ℕ) : Type 0 where
  pub said : Fields
  pub outcome : JudgeTraceBytesOutcome file trace stamps₀ said stamps
  pub packs : r ≡ packed said

pub record ReplayAnswer (file trace : List ℕ) (start : ℕ) (stamps order₀ due₀ : List ℕ) (r : ℕ) (order due : List ℕ) : Type 0 where
  pub said : Fields
  pub outcome : ReplayBytesOutcome file trace start stamps order₀ due₀ said order due
  pub packs : r ≡ packed said

pub record WordsAnswer (file trace starts stamps order₀ due₀ marks₀ : List ℕ) (r : ℕ) (order due marks : List ℕ) : Type 0 where
  pub said : Fields
  pub outcome : WordsBytesOutcome file trace starts stamps order₀ due₀ marks₀ said order due marks
  pub packs : r ≡ packed said

pub record RewriteAnswer (file out₀ : List ℕ) (r : ℕ) (out : List ℕ) : Type 0 where
  pub said : Fields
  pub outcome : RewriteBytesOutcome file out₀ said out
  pub packs : r ≡ packed said

pub record PlayerStartAnswer (file config₀ waiting₀ : List ℕ) (r : ℕ) (config waiting : List ℕ) : Type 0 where
  pub said : Fields
  pub outcome : StartBytesOutcome file config₀ waiting₀ said config waiting
  pub packs : r ≡ packed said

-- the three moves
pub record PlayerAnswer (file config₀ waiting₀ : List ℕ) (mv : Move) (r : ℕ) (config waiting : List ℕ) : Type 0 where
  pub said : Fields
  pub outcome : PlayBytesOutcome file config₀ waiting₀ mv said config waiting
  pub packs : r ≡ packed said
