-- What each move comes to, on a checked table and a configuration that is not damaged; and the tests before it, in their order.
use mathlib.Core.Path.{◌≡◌, refl, sym, ap, ◌∙◌}
use mathlib.Core.Logic.{inl, inr, dite}
use mathlib.Core.List.{List, [], ◌∷◌, ◌++◌, append_assoc}
use Prim.Native.Nat.{ℕ, suc, ◌+◌, ◌*◌, ◌-◌, ◌≤◌, ◌<◌, min}
use native.Mathlib.Omega.{arith}
use native.Mathlib.Numerals.{add-one}
use native.Mathlib.Decide.{dec_lt}
use lib.ListN.{length, get_or, set, take, drop, length-take}
use lib.Seq.{get_or-take, take-take, set_split, split_at}
use borrow.Author.Tests.{le-leb, lt-ltb}
use Rattle.std.specs.Prelude.{None, Ok, Err}
use Rattle.model.specs.Answers.{Fields, fields}
use Rattle.model.specs.Lists.{In, All}
use Rattle.model.specs.Table.{Transition, Machine, Valid, at}
use Rattle.model.specs.Verdict.{Splits}
use Rattle.model.proofs.Lists.{all_in, in-append}
use Rattle.table.specs.declared.Row.{Row}
use Rattle.table.specs.declared.Refusal.{Refusal}
use Rattle.table.specs.Refusal.{checked_fields, refused_fields}
use Rattle.table.specs.Rows.{transitions, row_of, said}
use Rattle.table.specs.Tests.{Test, unless, Passes, Fails, Answered, refuses, answers, after_table, CheckOutcome}
use Rattle.table.proofs.RowLaws.{length-rows, row-known}
use Rattle.table.proofs.TestLaws.{passes_append, fails-back, valid-passes, valid-fails, refused-fails}
use Rattle.records.specs.declared.Pending.{Pending}
use Rattle.records.specs.Record.{blank, DueAt, aged_in, closed_in}
use Rattle.playing.specs.Runs.{Open}
use Rattle.player.specs.declared.Config.{Config}
use Rattle.player.specs.declared.Move.{Move}
use Rattle.player.specs.declared.Move.TheVariants.{Time, Input, Output}
use Rattle.player.specs.declared.Done.{Done}
use Rattle.player.specs.declared.Denial.{Denial}
use Rattle.player.specs.declared.Denial.TheVariants.{Closed, Untimely, Split, Spent, Damaged}
use Rattle.player.specs.Answer.{answer_fields}
use Rattle.player.specs.Moves.{waiting_in, Whole, FirstDue, move_tests, PlayOutcome, start_tests, StartOutcome, fresh}
use Rattle.player.specs.Steps.{Next, config_after, answer_after, Stepped, LowestOpen, FirstOpen}

-- tests that hold, then others
pub answered-after : (k l : List Test) {D : Fields → Type 0} {K : Type 0} {f : Fields} → Passes k → Answered l D K f → Answered (k ++ l) D K f
answered-after k l p (answers q d) = answers ((passes_append k l).1 (p, q)) d
answered-after k l p (refuses {n = n} {p = i} e b kept) = refuses e ((fails-back k l n i p).1 b) kept

module _ (m : Machine) (c : Config) (l : List Pending) where
  -- denied, and nothing is touched
  move-denied : (mv : Move) (d : Denial) (n : ℕ) → answer_fields (Err d) ≡ fields n 0 0 0 → Fails (move_tests m c l mv) n 0 → Stepped m c l mv (Err d) l
  move-denied mv d n e f = refuses e f (refl, refl)

  -- time passes
  pub time-late : (t : ℕ) → (All (λ p. t ≤ p.left) (waiting_in c l) → ⊥) → Stepped m c l (Time t) (Err Untimely) l
  time-late t n = move-denied (Time t) Untimely 11 refl (inl (n, refl, refl))

  pub time-passed : (t : ℕ) → c.waiting ≤ length l → All (λ p. t ≤ p.left) (waiting_in c l) → {l' : List Pending} {timer : ℕ}
      → l' ≡ aged_in c.waiting t l → timer ≡ min (c.timer + t) 1048576 → {d : Done} → (d.first ≡ 0) × (d.second ≡ 0)
      → Stepped m c l (Time t) (Ok (record { state = c.state; inputs = c.inputs; waiting = c.waiting; timer = timer }, d)) l'
  time-passed t lent a e f {d} z =
      answers (a, tt) (record {
        says = rw (z.0, z.1);
        config = ap (λ (x : ℕ). record { state = c.state; inputs = c.inputs; waiting = c.waiting; timer = x }) f;
        list = e ∙ rw (le-leb c.waiting (length l) lent);
      })

  -- a response is issued
  pub output-none : All (λ p. 0 < p.left) (waiting_in c l) → Stepped m c l Output (Err Untimely) l
  output-none a = move-denied Output Untimely 11 refl (inl (
    (λ f.
        let here : In f.it (waiting_in c l) = rw f.stands ((in-append f.it f.before (f.it ∷ f.after)).1 (inr (inl refl))) in
        omega (arith, all_in a f.it here, f.due)),
    refl,
    refl,
  ))

  module _ (lent : c.waiting ≤ length l) (i : ℕ) (d : DueAt (waiting_in c l) i) where
    abbrev w : ℕ
    w = c.waiting

    inside : i < w
    inside = omega (arith, d.inside, length-take w l)

    abbrev first : FirstDue (waiting_in c l)
    first = record {
      before = take i (waiting_in c l);
      it = get_or (waiting_in c l) i blank;
      after = drop (suc i) (waiting_in c l);
      stands = split_at (waiting_in c l) i blank d.inside;
      due = d.now;
      later = d.later;
    }

    closes : closed_in w i l ≡ (take i (waiting_in c l) ++ drop (suc i) (waiting_in c l)) ++ drop (w - 1) l
    closes =
        let t : take i (take w l) ≡ take i l = take-take i w l (omega (arith, inside)) in
        rw (lt-ltb i w inside, le-leb w (length l) lent, t) (sym (append_assoc (take i l) (drop (suc i) (take w l)) (drop (w - 1) l)))

    pub output-issued : {l' : List Pending} → l' ≡ closed_in w i l
        → Stepped m c l Output (Ok (
          record { state = c.state; inputs = c.inputs; waiting = w - 1; timer = c.timer },
          record {
            first = (get_or l i blank).step;
            second = (get_or l i blank).letter;
          },
        )) l'
    output-issued e = answers (first, tt) (record {
      first = first;
      says = ap (λ (p : Pending). fields 0 p.step p.letter 0) (sym (get_or-take w l i blank inside));
      config = refl;
      list = e ∙ closes;
    })

-- an input on a checked table
module _ (m : Machine) (v : Valid m) (c : Config) (l : List Pending) (letter : ℕ) where
  abbrev Is : ℕ → Type 0
  Is j = Open 256 m.transitions c.state letter c.timer j

  pub input-closed : FirstOpen m.transitions c.state letter c.timer None → Stepped m c l (Input letter) (Err Closed) l
  input-closed f = move-denied m c l (Input letter) Closed 10 refl (inl (
    (λ o. f o.0 o.1.known (record { leaves = o.1.leaves; asks = o.1.asks; fits = o.1.fits })),
    refl,
    refl,
  ))

  module _ (i : ℕ) (first : LowestOpen m.transitions c.state letter c.timer i) where
    found : Is i
    found = let o = first.opened in record { known = first.known; leaves = o.leaves; asks = o.asks; fits = o.fits }

    lowest : (j : ℕ) → Is j → i ≤ j
    lowest j o = dite (dec_lt j i) (λ h. absurd (first.lowest j h (record { leaves = o.leaves; asks = o.asks; fits = o.fits }))) (λ n. omega arith)

    pub input-due : (All (λ p. 0 < p.left) (waiting_in c l) → ⊥) → Stepped m c l (Input letter) (Err Untimely) l
    input-due n = move-denied m c l (Input letter) Untimely 11 refl (inr ((i, found), inl (n, refl, refl)))

    module _ (quiet : All (λ p. 0 < p.left) (waiting_in c l)) where
      pub input-split : ((Splits m → ⊥) → ⊥) → Stepped m c l (Input letter) (Err Split) l
      input-split x = move-denied m c l (Input letter) Split 13 refl (inr ((i, found), inr (quiet, inl (x, refl, refl))))

      module _ (one : Splits m → ⊥) where
        pub input-spent : 512 ≤ c.inputs → Stepped m c l (Input letter) (Err Spent) l
        input-spent x = move-denied m c l (Input letter) Spent 14 refl (inr ((i, found), inr (quiet, inr (one, inl ((λ k. omega arith), refl, refl)))))

        pub input-full : c.inputs < 512 → 240 ≤ c.waiting → Stepped m c l (Input letter) (Err Damaged) l
        input-full f x = move-denied m c l (Input letter) Damaged 15 refl
            (inr ((i, found), inr (quiet, inr (one, inr (f, inl ((λ k. omega arith), refl, refl))))))

        module _ (rows : List Row) (held : transitions rows ≡ m.transitions) where
          long : length m.transitions ≡ length rows
          long = ap (λ (z : List Transition). length z) (sym held) ∙ length-rows rows (length rows)

          pub row-inside : i < length rows
          row-inside = omega (arith, long, first.known)

          module _ {row : Row} (read : row ≡ row_of rows i) where
            row-is : said row ≡ at m.transitions i
            row-is = ap said read ∙ row-known rows (length rows) i row-inside ∙ ap (λ (z : List Transition). at z i) held

            pub input-taken : c.inputs < 512 → c.waiting < 240 → 240 ≤ length l → {d : ℕ} → d ≡ row.d → {l' : List Pending}
                → l' ≡ set l c.waiting (record { step = c.inputs + 1; letter = row.output; left = d * 256 })
                → Stepped m c l (Input letter) (Ok (
                  record { state = row.to; inputs = c.inputs + 1; waiting = c.waiting + 1; timer = 0 },
                  record {
                    first = i;
                    second = 0;
                  },
                )) l'
            input-taken f x r {d} delay e = answers ((i, found), (quiet, (one, (f, (x, tt))))) (record {
              i = i;
              opened = found;
              lowest = lowest;
              says = refl;
              config = ap (λ (z : Transition). record { state = z.to; inputs = c.inputs + 1; waiting = c.waiting + 1; timer = 0 }) row-is
                  ∙ rw (add-one c.inputs, add-one c.waiting);
              list = e ∙ set_split l c.waiting (record { step = c.inputs + 1; letter = row.output; left = d * 256 }) (omega arith)
                  ∙ ap (λ (k : ℕ). waiting_in c l ++ (record { step = c.inputs + 1; letter = row.output; left = k * 256 } ∷ drop (suc c.waiting) l)) delay
                  ∙ ap (λ (z : Transition). waiting_in c l ++ (record { step = c.inputs + 1; letter = z.output; left = z.d * 256 } ∷ drop (suc
                  c.waiting) l)) row-is
                  ∙ rw (add-one c.inputs);
            })

-- the tests before a move
module _ (m : Machine) (c : Config) (l : List Pending) (mv : Move) where
  abbrev more : List Test
  more = unless 15 (Whole m c l) ∷ unless 8 (240 ≤ length l) ∷ move_tests m c l mv

  pub table-refused : (r : Refusal) → CheckOutcome m (checked_fields (Err r)) → PlayOutcome m c l mv (refused_fields r) c l
  table-refused r x = refuses refl (refused-fails m more refl x) (refl, refl)

  module _ (v : Valid m) where
    pub damaged : (Whole m c l → ⊥) → PlayOutcome m c l mv (fields 15 0 0 0) c l
    damaged n = refuses refl ((valid-fails m v more 15 0).1 (inl (n, refl, refl))) (refl, refl)

    module _ (whole : Whole m c l) where
      pub no_room : (240 ≤ length l → ⊥) → PlayOutcome m c l mv (fields 8 0 0 0) c l
      no_room n = refuses refl ((valid-fails m v more 8 0).1 (inr (whole, inl (n, refl, refl)))) (refl, refl)

      pub stepped : 240 ≤ length l → (r : Next) {l' : List Pending} → Stepped m c l mv r l'
          → PlayOutcome m c l mv (answer_fields (answer_after r)) (config_after c r) l'
      stepped room r o =
          let before = unless 15 (Whole m c l) ∷ unless 8 (240 ≤ length l) ∷ [] in
          answered-after (after_table m before) (move_tests m c l mv) (valid-passes m v before (whole, (room, tt))) o

-- a configuration of zeros
abbrev pub Blank : Config → Type 0
Blank k = (k.state ≡ 0) × ((k.inputs ≡ 0) × ((k.waiting ≡ 0) × (k.timer ≡ 0)))

pub blank-fresh : (k : Config) → Blank k → k ≡ fresh 0
blank-fresh k b = λ i. record { state = b.0 i; inputs = b.1.0 i; waiting = b.1.1.0 i; timer = b.1.1.1 i }

-- the start
module _ (m : Machine) (lent : ℕ) where
  pub start-refused : (r : Refusal) → CheckOutcome m (checked_fields (Err r)) → StartOutcome m lent (refused_fields r) (fresh 0)
  start-refused r x = refuses refl (refused-fails m (start_tests m lent) refl x) refl

  module _ (v : Valid m) where
    pub start-room : (240 ≤ lent → ⊥) → StartOutcome m lent (fields 8 0 0 0) (fresh 0)
    start-room n = refuses refl ((valid-fails m v (start_tests m lent) 8 0).1 (inl (n, refl, refl))) refl

    module _ (room : 240 ≤ lent) where
      pub start-split : ((Splits m → ⊥) → ⊥) → StartOutcome m lent (fields 13 0 0 0) (fresh 0)
      start-split n = refuses refl ((valid-fails m v (start_tests m lent) 13 0).1 (inr (room, inl (n, refl, refl)))) refl

      pub started : (Splits m → ⊥) → (k : Config) (d : Done) → Blank k → (d.first ≡ 0) × (d.second ≡ 0)
          → StartOutcome m lent (fields 0 d.first d.second 0) (record { state = m.initial; inputs = k.inputs; waiting = k.waiting; timer = k.timer })
      started n k d b z = answers (valid-passes m v (start_tests m lent) (room, (n, tt))) (rw (z.0, z.1), rw (b.1.0, b.1.1.0, b.1.1.1))
