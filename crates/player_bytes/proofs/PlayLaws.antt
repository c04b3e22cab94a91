-- The calls on bytes by the calls on values.
use mathlib.Core.Path.{◌≡◌, refl, ap, ◌∙◌, subst}
use mathlib.Core.Logic.{inl, inr}
use mathlib.Core.List.{List, [], ◌∷◌, ◌++◌, append-nil}
use Prim.Native.Nat.{ℕ, ◌/◌, ◌≤◌, ◌<◌}
use native.Mathlib.Omega.{arith}
use lib.ListN.{length, take, drop}
use Rattle.std.specs.Prelude.{Ok, Err}
use Rattle.model.specs.Answers.{Fields}
use Rattle.model.specs.Table.{Machine, Valid}
use Rattle.table.specs.Tests.{Test, unless, Passes, Fails, refuses, answers, after_table}
use Rattle.table.proofs.RefusalLaws.{refusal-some}
use Rattle.table.proofs.TestLaws.{Numbered, fails-numbered, fails-back, table-law, passes_append}
use Rattle.records.specs.declared.Pending.{Pending}
use Rattle.player.specs.declared.Config.{Config}
use Rattle.player.specs.declared.Move.{Move}
use Rattle.player.specs.declared.Move.TheVariants.{Time, Input, Output}
use Rattle.player.specs.declared.Done.{Done}
use Rattle.player.specs.declared.Denial.{Denial}
use Rattle.player.specs.declared.Denial.TheVariants.{Refused, Closed, Untimely, Split, Spent, Damaged}
use Rattle.player.specs.Answer.{answer_fields}
use Rattle.player.specs.Moves.{Whole, move_tests, MoveDone, PlayOutcome, StartOutcome, start_tests}
use Rattle.player_bytes.specs.Records.{config_in, config_bytes, records_to, lent_in, records_in, records_bytes}
use Rattle.player_bytes.proofs.HeldLaws.{take-to, length_to, drop_all}
use Rattle.player_bytes.specs.Plays.{start_tests_in, StartOnMachine, play_tests_in, PlayOnMachine}

-- no denial has the number 0
denied-some : (d : Denial) → 0 < (answer_fields (Err d)).status
denied-some (Refused r) = (refusal-some r).0
denied-some Closed = omega arith
denied-some Untimely = omega arith
denied-some Split = omega arith
denied-some Spent = omega arith
denied-some Damaged = omega arith

-- what a move on values tests after the table
abbrev move_all : Machine → Config → List Pending → Move → List Test
move_all m c l mv = unless 15 (Whole m c l) ∷ unless 8 (240 ≤ length l) ∷ move_tests m c l mv

-- behind a valid table, the tests after the table's
after : (m : Machine) → Valid m → (more : List Test) (n p : ℕ) → Fails (after_table m more) n p → Fails more n p
after m valid more n p x = (fails-back (after_table m []) more n p ((table-law m).1 valid)).0 x

passes-after : (m : Machine) (more : List Test) → Passes (after_table m more) → Passes more
passes-after m more x = ((passes_append (after_table m []) more).0 x).1

numbered : (m : Machine) (c : Config) (l : List Pending) (mv : Move) → Numbered (move_tests m c l mv)
numbered m c l (Time t) = (omega arith, omega arith, tt)
numbered m c l (Input i) =
    (omega arith, omega arith, (omega arith, omega arith, (omega arith, omega arith, (omega arith, omega arith, (omega arith, omega arith, tt)))))
numbered m c l Output = (omega arith, omega arith, tt)

done-status : (m : Machine) (c : Config) (l : List Pending) (mv : Move) (f : Fields) (c' : Config)
    (l' : List Pending) → MoveDone m c l mv f c' l' → f.status ≡ 0
done-status m c l (Time t) f c' l' d = ap (λ (g : Fields). g.status) d.says
done-status m c l (Input i) f c' l' d = ap (λ (g : Fields). g.status) d.says
done-status m c l Output f c' l' d = ap (λ (g : Fields). g.status) d.says

-- no refusal has the number 0
not-failed : (m : Machine) (c : Config) (l : List Pending) (mv : Move) (n p : ℕ) → n ≤ 0 → Fails (move_all m c l mv) n p → ⊥
not-failed m c l mv n p h x =
    omega (arith, h, (fails-numbered (move_all m c l mv) n p (omega arith, omega arith, (omega arith, omega arith, numbered m c l mv)) x).0)

module _ (m : Machine) (valid : Valid m) where
  -- the start
  module _ (config₀ : List ℕ) (lent : ℕ) (ten : 10 ≤ length config₀) where
    start-fails : (n p : ℕ) → Fails (start_tests m lent) n p → Fails (start_tests_in m config₀ lent) n p
    start-fails n p (inl x) = inl ((λ r. x.0 r.1), x.1, x.2)
    start-fails n p (inr x) = inr ((ten, x.0), x.1)

    pub start-refused : (d : Denial) {c' : Config} → StartOutcome m lent (answer_fields (Err d)) c'
        → StartOnMachine m config₀ lent (answer_fields (Err d)) config₀
    start-refused d (refuses {n} {p} e x k) = refuses e (start-fails n p (after m valid (start_tests m lent) n p x)) refl
    start-refused d (answers ps did) = absurd (omega (arith, denied-some d, ap (λ (g : Fields). g.status) did.0))

  -- a move on the records that are lent, at most 240 of them
  module _ (config₀ waiting₀ : List ℕ) (mv : Move) (ten : 10 ≤ length config₀) where
    abbrev c₀ : Config
    c₀ = config_in config₀

    abbrev l₀ : List Pending
    l₀ = records_in waiting₀

    long : length l₀ ≡ lent_in waiting₀
    long = length_to (lent_in waiting₀) waiting₀

    moved : (n p : ℕ) → Fails (move_all m c₀ l₀ mv) n p → Fails (play_tests_in m config₀ waiting₀ mv) n p
    moved n p (inl y) = inr (ten, inl y)
    moved n p (inr (w, inl y)) = inr (ten, inr (w, inl ((λ r. y.0 (omega (arith, long, r))), y.1, y.2)))
    moved n p (inr (w, inr (r, y))) = inr (ten, inr (w, inr (omega (arith, long, r), y)))

    played-refused : (d : Denial) {c' : Config} {l' : List Pending} → PlayOutcome m c₀ l₀ mv (answer_fields (Err d)) c' l'
        → PlayOnMachine m config₀ waiting₀ mv (answer_fields (Err d)) config₀ waiting₀
    played-refused d {c'} {l'} (answers ps did) = absurd (omega (arith, denied-some d, done-status m c₀ l₀ mv (answer_fields (Err d)) c' l' did))
    played-refused d (refuses {n} {p} s x k) = refuses s (moved n p (after m valid (move_all m c₀ l₀ mv) n p x)) (refl, refl)

    passed : (d : Done) {c' : Config} {l' : List Pending} → PlayOutcome m c₀ l₀ mv (answer_fields (Ok d)) c' l'
        → Passes (move_all m c₀ l₀ mv) × MoveDone m c₀ l₀ mv (answer_fields (Ok d)) c' l'
    passed d (refuses {n} {p} e x kept) =
        absurd (not-failed m c₀ l₀ mv n p (omega (arith, ap (λ (g : Fields). g.status) e)) (after m valid (move_all m c₀ l₀ mv) n p x))
    passed d (answers ps did) = (passes-after m (move_all m c₀ l₀ mv) ps, did)

    -- the same of what was decoded: of 240 records those that are lent
    module _ {c : Config} {l : List Pending} (ec : c ≡ c₀) (el : l ≡ records_to 240 waiting₀) {lent : ℕ} (en : lent ≡ lent_in waiting₀) where
      lent-is : take lent l ≡ l₀
      lent-is = ap (λ (n : ℕ). take n l) en ∙ ap (λ (x : List Pending). take (lent_in waiting₀) x) el ∙ take-to (lent_in waiting₀) 240 waiting₀ (omega arith)

      given : {f : Fields} {c' : Config} {l' : List Pending} → PlayOutcome m c (take lent l) mv f c' l' → PlayOutcome m c₀ l₀ mv f c' l'
      given {f} {c'} {l'} x =
          subst (λ (y : List Pending). PlayOutcome m c₀ y mv f c' l') lent-is (subst (λ (z : Config). PlayOutcome m z (take lent l) mv f c' l') ec x)

      pub on-refused : (d : Denial) {c' : Config} {l' : List Pending} → PlayOutcome m c (take lent l) mv (answer_fields (Err d)) c' l'
          → PlayOnMachine m config₀ waiting₀ mv (answer_fields (Err d)) config₀ waiting₀
      on-refused d x = played-refused d (given x)

      module _ (d : Done) {c' : Config} {l' : List Pending} (x : PlayOutcome m c (take lent l) mv (answer_fields (Ok d)) c' l') where
        done : Passes (move_all m c₀ l₀ mv) × MoveDone m c₀ l₀ mv (answer_fields (Ok d)) c' l'
        done = passed d (given x)

        on-room : 240 ≤ length waiting₀ / 8
        on-room = omega (arith, long, done.0.1.0)

        pub on-done : {config waiting : List ℕ} → config ≡ config_bytes c' ++ drop 10 config₀
            → waiting ≡ records_bytes (l' ++ drop lent l) ++ drop 1920 waiting₀ → PlayOnMachine m config₀ waiting₀ mv (answer_fields (Ok d)) config waiting
        on-done u v =
            let none : drop lent l ≡ [] = drop_all lent l (omega (arith, en, on-room, ap length el, length_to 240 waiting₀)) in
            let kept : l' ++ drop lent l ≡ l' = rw none (append-nil l') in
            answers (ten, (done.0.0, (on-room, done.0.1.1))) (record {
              next = c';
              list = l';
              done = done.1;
              config_is = u;
              waiting_is = v ∙ ap (λ (y : List Pending). records_bytes y ++ drop 1920 waiting₀) kept;
            })
