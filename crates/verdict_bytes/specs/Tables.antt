-- What the verdict on a table file answers, and what it leaves in the lent memory.
use Rattle.std.specs.Prelude.{◌≡◌, List, ℕ, ◌*◌, ◌≤◌}
use Rattle.model.specs.Answers.{Fields}
use Rattle.model.specs.Verdict.{Strict}
use Rattle.table_verdict.specs.OnTable.{TableShows}
use Rattle.places.specs.ShownBytes.{ShownOnFile}

-- how many trace places n and stamp places k the answer f uses: the stamps of a word one per step, so those of a turning answer's two words two
pub record Used (f : Fields) (n k : ℕ) : Type 0 where
  pub steps : n ≡ f.steps
  pub one_word : f.status ≤ 256 → k ≡ n
  pub two_words : f.status ≡ 257 → k ≡ 2 * n

-- with a machine that was read: 270 trace places and 540 stamp places, whole ones; then what the verdict on values says
abbrev pub JudgeTableBytesOutcome : List ℕ → List ℕ → List ℕ → Fields → List ℕ → List ℕ → Type 0
JudgeTableBytesOutcome = ShownOnFile 270 540 Strict TableShows
