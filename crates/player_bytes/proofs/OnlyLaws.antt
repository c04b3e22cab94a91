-- Two outcomes that a call on bytes allows are equal: answer, configuration and records.
use mathlib.Core.Path.{◌≡◌, sym, ap, ◌∙◌}
use mathlib.Core.List.{List, ◌++◌}
use Prim.Native.Nat.{ℕ}
use lib.ListN.{drop}
use Rattle.model.specs.Answers.{Fields}
use Rattle.model.specs.Table.{Machine}
use Rattle.table.proofs.TestLaws.{answered-only}
use Rattle.table_file.specs.File.{read_file}
use Rattle.records.specs.declared.Pending.{Pending}
use Rattle.player.specs.declared.Config.{Config}
use Rattle.player.specs.declared.Move.{Move}
use Rattle.player.specs.Answer.{Answer, answer_fields}
use Rattle.player.proofs.OnlyLaws.{answer-only, done-only}
use Rattle.places.proofs.ReadingLaws.{on-file}
use Rattle.player_bytes.specs.Records.{config_in, config_bytes, records_in, records_bytes}
use Rattle.player_bytes.specs.Plays.{StartBytesOutcome, PlayedIn, PlayBytesOutcome}

played-only : (m : Machine) (config₀ waiting₀ : List ℕ) (mv : Move) (f g : Fields) (c w c' w' : List ℕ) → PlayedIn m config₀ waiting₀ mv f c w
    → PlayedIn m config₀ waiting₀ mv g c' w' → (f ≡ g) × (c ≡ c') × (w ≡ w')
played-only m config₀ waiting₀ mv f g c w c' w' d e =
    let r = done-only m (config_in config₀) (records_in waiting₀) mv f g d.next e.next d.list e.list d.done e.done in (
      r.0,
      d.config_is ∙ ap (λ (x : Config). config_bytes x ++ drop 10 config₀) r.1 ∙ sym e.config_is,
      d.waiting_is ∙ ap (λ (l : List Pending). records_bytes l ++ drop 1920 waiting₀) r.2 ∙ sym e.waiting_is,
    )

-- by number and values, then as answers
module _ (file config₀ waiting₀ : List ℕ) where
  pub start-fields-only : (f g : Fields) (c w c' w' : List ℕ) → StartBytesOutcome file config₀ waiting₀ f c w → StartBytesOutcome file config₀ waiting₀ g c' w'
      → (f ≡ g) × (c ≡ c') × (w ≡ w')
  start-fields-only f g c w c' w' p q =
      let r : (f ≡ g) × (c ≡ c') =
      on-file (read_file file) _ _ _ _ (λ n p s t. (s.0 ∙ sym t.0, s.1 ∙ sym t.1))
      (λ m. answered-only (λ e k n. (e, k ∙ sym n)) (λ d e. (d.0 ∙ sym e.0, d.1 ∙ sym e.1))) p.0 q.0 in
      (r.0, r.1, p.1 ∙ sym q.1)

  pub start-bytes-only : (a b : Answer) (c w c' w' : List ℕ) → StartBytesOutcome file config₀ waiting₀ (answer_fields a) c w
      → StartBytesOutcome file config₀ waiting₀ (answer_fields b) c' w' → (a ≡ b) × (c ≡ c') × (w ≡ w')
  start-bytes-only a b c w c' w' p q =
      let r = start-fields-only (answer_fields a) (answer_fields b) c w c' w' p q in
      (answer-only a b r.0, r.1, r.2)

  module _ (mv : Move) where
    pub play-fields-only : (f g : Fields) (c w c' w' : List ℕ) → PlayBytesOutcome file config₀ waiting₀ mv f c w
        → PlayBytesOutcome file config₀ waiting₀ mv g c' w' → (f ≡ g) × (c ≡ c') × (w ≡ w')
    play-fields-only f g c w c' w' =
        on-file (read_file file) _ _ _ _ (λ n p s t. (s.0 ∙ sym t.0, s.1 ∙ sym t.1, s.2 ∙ sym t.2))
        (λ m. answered-only (λ e k n. (e, k.0 ∙ sym n.0, k.1 ∙ sym n.1)) (played-only m config₀ waiting₀ mv f g c w c' w'))

    pub play-bytes-only : (a b : Answer) (c w c' w' : List ℕ) → PlayBytesOutcome file config₀ waiting₀ mv (answer_fields a) c w
        → PlayBytesOutcome file config₀ waiting₀ mv (answer_fields b) c' w' → (a ≡ b) × (c ≡ c') × (w ≡ w')
    play-bytes-only a b c w c' w' p q =
        let r = play-fields-only (answer_fields a) (answer_fields b) c w c' w' p q in
        (answer-only a b r.0, r.1, r.2)
