-- The writer's and the head's fields fix the answer.
use Rattle.std.specs.Prelude.{Ok, Err}
use mathlib.Core.Path.{◌≡◌, ap}
use native.Mathlib.Omega.{arith}
use Rattle.table.proofs.RefusalLaws.{refusal-some, refused-only}
use Rattle.table_file.specs.Write.{Written, written_fields}

pub written-only : (a b : Written) → written_fields a ≡ written_fields b → a ≡ b
written-only (Ok n) (Ok k) e = ap Ok (ap (λ f. f.first) e)
written-only (Ok n) (Err s) e = absurd (omega (arith, refusal-some s, ap (λ f. f.status) e))
written-only (Err r) (Ok k) e = absurd (omega (arith, refusal-some r, ap (λ f. f.status) e))
written-only (Err r) (Err s) e = ap Err (refused-only r s e)
