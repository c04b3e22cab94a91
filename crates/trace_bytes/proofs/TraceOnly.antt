-- Two outcomes that the verdict on a trace in bytes allows are equal.
use Rattle.std.proofs.Common.{◌≡◌, ℕ, ◌/◌, List, length, sym, ◌∙◌}
use Rattle.model.specs.Answers.{Fields}
use Rattle.table_file.specs.File.{read_file}
use Rattle.table.proofs.TestLaws.{answered-only}
use Rattle.std.specs.Prelude.{Result}
use Rattle.table.specs.declared.Refusal.{Refusal}
use Rattle.verdict.specs.declared.OnTrace.{OnTrace}
use Rattle.verdict.specs.OnTrace.{trace_fields}
use Rattle.verdict.proofs.JudgeLaws.{answer-only, says-only}
use Rattle.places.proofs.ReadingLaws.{on-file}
use Rattle.trace_bytes.specs.Traces.{JudgeTraceBytesOutcome}

-- by number and values, then as answers
pub fields-only : (trace stamps₀ file : List ℕ) (f g : Fields) (a b : List ℕ) → JudgeTraceBytesOutcome file trace stamps₀ f a
    → JudgeTraceBytesOutcome file trace stamps₀ g b → (f ≡ g) × (a ≡ b)
fields-only trace stamps₀ file f g a b =
    on-file (read_file file) _ _ _ _ (λ n p x y. (x.0 ∙ sym y.0, x.1 ∙ sym y.1))
    (λ m. answered-only (λ e k l. (e, k ∙ sym l)) (λ d e. says-only (λ k l. k ∙ sym l) (λ s p q. p ∙ sym q) d e))

pub judge-trace-bytes-only : (trace stamps₀ file : List ℕ) (r s : Result OnTrace Refusal) (a b : List ℕ)
    → JudgeTraceBytesOutcome file trace stamps₀ (trace_fields (length trace / 2) r) a
    → JudgeTraceBytesOutcome file trace stamps₀ (trace_fields (length trace / 2) s) b → (r ≡ s) × (a ≡ b)
judge-trace-bytes-only trace stamps₀ file r s a b x y =
    let o = fields-only trace stamps₀ file (trace_fields (length trace / 2) r) (trace_fields (length trace / 2) s) a b x y in
    (answer-only (length trace / 2) r s o.0, o.1)
