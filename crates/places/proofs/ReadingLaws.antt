-- What the reader's answer says of a file in bytes.
use Rattle.std.specs.Prelude.{Err}
use mathlib.Core.Path.{◌≡◌, refl, sym, ap, ◌∙◌, subst}
use mathlib.Core.Logic.{◌↔◌}
use mathlib.Core.List.{List}
use Prim.Native.Nat.{ℕ}
use native.Mathlib.Omega.{arith}
use lib.ListN.{length}
use Rattle.model.specs.Answers.{fields}
use Rattle.model.specs.Table.{Machine, Valid}
use Rattle.wire.specs.Bytes.{Bytes}
use Rattle.table_file.specs.declared.Reading.{Reading}
use Rattle.table.specs.declared.Refusal.{Refusal}
use Rattle.table.specs.declared.Table.{Table}
use Rattle.table.specs.Refusal.{Checked, passing, refusal_number, refusal_place, refused_fields, checked_fields}
use Rattle.table.specs.Rows.{machine_of}
use Rattle.table_file.specs.File.{Scan, machine, stopped, read_file, answer_of, given, ReadOutcome, IntoOutcome}
use Rattle.table.proofs.RefusalLaws.{refusal-some}
use Rattle.table.proofs.CellLaws.{machine-table}
use Rattle.table_file.proofs.FileLaws.{sound, places}
use Rattle.table_file.proofs.OutcomeLaws.{into-machine}
use Rattle.places.specs.OnFile.{on_file}

-- an answer, by what it tells of the file
module _ (l : List ℕ) {a : Checked} (told : checked_fields a ≡ answer_of (read_file l)) where
  pub told-stopped : {r : Refusal} → a ≡ Err r → read_file l ≡ stopped (refusal_number r) (refusal_place r)
  told-stopped {r} e = by (read_file l) refl
    where
      by : (s : Scan) → read_file l ≡ s → read_file l ≡ stopped (refusal_number r) (refusal_place r)
      by (machine m) q =
          let f : refused_fields r ≡ fields 0 0 0 0 = ap checked_fields (sym e) ∙ (rw q at told) in
          absurd (omega (arith, refusal-some r, ap (λ x. x.status) f))
      by (stopped n p) q =
          let f : fields n p 0 0 ≡ refused_fields r = sym (rw q at told) ∙ ap checked_fields e in
          let i : n ≡ refusal_number r = ap (λ x. x.status) f in
          let j : p ≡ refusal_place r = ap (λ x. x.first) f in
          q ∙ rw (i, j)

  pub told-machine : a ≡ passing → read_file l ≡ machine (given (read_file l))
  told-machine e = by (read_file l) refl
    where
      by : (s : Scan) → read_file l ≡ s → read_file l ≡ machine (given (read_file l))
      by (machine m) q = rw q
      by (stopped n p) q =
          let f : fields 0 0 0 0 ≡ fields n p 0 0 = ap checked_fields (sym e) ∙ (rw q at told) in
          absurd (omega (arith, (places l n p q).first, ap (λ x. x.status) f))

-- a table by value
module _ (l : List ℕ) (a : Reading) (read : ReadOutcome (read_file l) (checked_fields a.answer) a.table) where
  pub refused-stopped : (r : Refusal) → a.answer ≡ Err r → read_file l ≡ stopped (refusal_number r) (refusal_place r)
  refused-stopped r e = told-stopped l read.0 e

  -- the machine that was read
  module _ (e : a.answer ≡ passing) where
    pub sound-read : read_file l ≡ machine (machine_of a.table)
    sound-read = told-machine l read.0 e ∙ ap machine (sym (ap machine_of read.1 ∙ machine-table (given (read_file l))))

    pub read-valid : Bytes l → Valid (machine_of a.table)
    read-valid b = (sound l (machine_of a.table) b sound-read).0

-- a lent table that was read into
module _ (l : List ℕ) (t₀ t : Table) where
  pub into-stopped : (r : Refusal) → IntoOutcome (read_file l) t₀ (Err r) t → read_file l ≡ stopped (refusal_number r) (refusal_place r)
  into-stopped r o = told-stopped l o.0 refl

  pub into-read : Bytes l → length t₀.cells ≡ 256 → IntoOutcome (read_file l) t₀ passing t → read_file l ≡ machine (machine_of t)
  into-read b long o = into-machine l b t₀ t o long

-- two facts of one file: by its refusal or by its machine
pub on-file : (s : Scan) (P P' : ℕ → ℕ → Type 0) (Q Q' : Machine → Type 0) {C : Type 0} → ((n p : ℕ) → P n p → P' n p → C)
    → ((m : Machine) → Q m → Q' m → C) → on_file s P Q → on_file s P' Q' → C
on-file (machine m) P P' Q Q' f g a b = g m a b
on-file (stopped n p) P P' Q Q' f g a b = f n p a b

-- one fact of a file, with what the reader answered
pub of-file : (s : Scan) (P : ℕ → ℕ → Type 0) (Q : Machine → Type 0) {C : Type 0} → ((n p : ℕ) → s ≡ stopped n p → P n p → C)
    → ((m : Machine) → s ≡ machine m → Q m → C) → on_file s P Q → C
of-file (machine m) P Q f g a = g m refl a
of-file (stopped n p) P Q f g a = f n p refl a

-- with the machine that was read
pub at-machine : (s : Scan) (m : Machine) → s ≡ machine m → (P : ℕ → ℕ → Type 0) (Q : Machine → Type 0) → on_file s P Q ↔ Q m
at-machine s m e P Q = (subst (λ (r : Scan). on_file r P Q) e, subst (λ (r : Scan). on_file r P Q) (sym e))
