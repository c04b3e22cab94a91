-- Numbers that stand in bytes, w bytes each: what stands beside them, and many moved at once.
use Rattle.std.specs.Prelude.{List, ◌++◌, ℕ, suc, ◌*◌, ◌/◌, length, take, drop}
use Rattle.std.proofs.Math.Seq.{slice}

-- the bytes after the last whole place of w bytes
abbrev pub left_over : ℕ → List ℕ → List ℕ
left_over w b = drop (length b / w * w) b

-- the elements from q up to p, each one place further
abbrev pub lifted : {A : Type 0} → List A → ℕ → ℕ → List A
lifted l q p = take (suc q) l ++ (slice q p l ++ drop (suc p) l)
