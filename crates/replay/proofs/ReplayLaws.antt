-- The tests of replay in their order, each with what it answers.
use Rattle.table.specs.Refusal.{passing}
use Rattle.std.specs.Prelude.{Err}
use Rattle.std.proofs.Common.{◌≡◌, ℕ, ◌≤◌, List, length, sym, refl, ◌∙◌, inl, inr, arith}
use Rattle.table.specs.declared.Row.{Row}
use Rattle.model.specs.Answers.{Fields, fields}
use Rattle.model.specs.Lists.{All}
use Rattle.model.specs.Table.{Machine, InRange, Valid}
use Rattle.model.specs.Trace.{Handed, steps}
use Rattle.model.specs.Word.{Activates}
use Rattle.model.specs.Stamps.{gaps_from, word_from}
use Rattle.model.proofs.Paths.{length-steps}
use Rattle.table.specs.declared.Refusal.{Refusal}
use Rattle.table.specs.declared.Refusal.TheVariants.{NoTrace, Uneven, NoRoom}
use Rattle.table.specs.Refusal.{Checked}
use Rattle.table.specs.Refusal.{refused_fields, checked_fields}
use Rattle.table.specs.Rows.{named}
use Rattle.table.specs.Tests.{Test, Passes, Answered, refuses, answers, Tested, after_table}
use Rattle.table.proofs.NamedLaws.{length-named}
use Rattle.table.proofs.TestLaws.{passes_append, Numbered, numbered-append, tested-passes, tested-fails, passes-valid}
use Rattle.trace.proofs.TraceLaws.{handed-ranged}
use Rattle.replay.specs.Play.{own_tests, gap_tests, replay_tests}
use Rattle.replay.specs.Laid.{LaidOut, SizesIn, word_tests, WordRun}
use Rattle.replay.proofs.WordLaws.{fits-activates}
use Rattle.replay.proofs.GapLaws.{gaps-numbered, gaps-refuse, gaps-law}

-- the tests before the gaps', and all of them
module _ (m : Machine) (trace : List ℕ) (start : ℕ) (stamps o₀ d₀ : List ℕ) where
  abbrev pub first : List Test
  first = after_table m (own_tests m trace stamps o₀ d₀)

  abbrev last : List Test
  last = gap_tests 0 (steps m.transitions trace) (gaps_from start stamps)

  pub replay-numbered : Numbered (replay_tests m trace start stamps o₀ d₀)
  replay-numbered = numbered-append first last (omega arith) (gaps-numbered (gaps_from start stamps) 0 (steps m.transitions trace))

  -- what they have shown
  module _ (p : Passes first) where
    pub passed-valid : Valid m
    passed-valid = passes-valid m (own_tests m trace stamps o₀ d₀) p

    pub passed-handed : Handed m.transitions trace
    passed-handed = p.1.1.1.0

    pub passed-stamped : length stamps ≡ length trace
    passed-stamped = p.1.1.1.1.0

    pub passed-ranged : All (InRange m.states) (steps m.transitions trace)
    passed-ranged = handed-ranged m trace passed-valid passed-handed

  -- and all together
  module _ (p : Passes (replay_tests m trace start stamps o₀ d₀)) where
    pub all_first : Passes first
    all_first = ((passes_append first last).0 p).0

    pub all-activates : Activates (steps m.transitions trace) (word_from (steps m.transitions trace) start stamps)
    all-activates =
        fits-activates (steps m.transitions trace) start stamps
        (passed-stamped all_first ∙ sym (length-steps m.transitions trace))
        ((gaps-law (gaps_from start stamps) (steps m.transitions trace)).0 ((passes_append first last).0 p).1)

-- one word on transitions that nobody tested, with so many places in two buffers
module _ (c : List Row) (trace : List ℕ) (start : ℕ) (stamps : List ℕ) (orders dues : ℕ) where
  abbrev word_gaps : List Test
  word_gaps = gap_tests 0 (named c trace) (gaps_from start stamps)

  abbrev words : List Test
  words = word_tests c trace start stamps orders dues

  word-numbered : Numbered words
  word-numbered = (omega arith, omega arith, (omega arith, omega arith, (omega arith, omega arith, gaps-numbered (gaps_from start stamps) 0 (named c trace))))

  -- each way out of its tests
  pub word-long : (length trace ≤ 512 → ⊥) → Tested words (refused_fields NoTrace)
  word-long n = refuses refl (inl (n, refl, refl)) tt

  module _ (most : length trace ≤ 512) where
    pub word-uneven : (length stamps ≡ length trace → ⊥) → Tested words (refused_fields Uneven)
    word-uneven n = refuses refl (inr (most, inl (n, refl, refl))) tt

    module _ (e : length stamps ≡ length trace) where
      pub word-cramped : ((length trace ≤ orders) × (length trace ≤ dues) → ⊥) → Tested words (refused_fields NoRoom)
      word-cramped n = refuses refl (inr (most, inr (e, inl (n, refl, refl)))) tt

      pub word-gaps : (length trace ≤ orders) × (length trace ≤ dues) → {f : Fields} → Tested word_gaps f → Tested words f
      word-gaps r (refuses z b k) = refuses z (inr (most, inr (e, inr (r, b)))) k
      word-gaps r (answers p d) = answers (most, (e, (r, p))) d

  -- played or not by what they told
  pub told-sizes : {a : Checked} → a ≡ passing → Tested words (checked_fields a) → SizesIn trace stamps orders dues
  told-sizes e x =
      let p : Passes words = tested-passes words word-numbered e x in
      record { most = p.0; stamped = p.1.0; order_room = p.1.1.0.0; due_room = p.1.1.0.1 }

  module _ (o₀ d₀ : List ℕ) (eo : length o₀ ≡ orders) (ed : length d₀ ≡ dues) where
    pub refused-run : {a : Checked} {r : Refusal} → a ≡ Err r → Tested words (checked_fields a)
        → WordRun c trace start stamps o₀ d₀ (checked_fields (Err r)) o₀ d₀
    refused-run e x = record { says = refuses refl (rw (eo, ed) (tested-fails words e x)) (refl, refl) }

    pub played-run : {a : Checked} {o d : List ℕ} → a ≡ passing → Tested words (checked_fields a) → LaidOut c trace start stamps o₀ d₀ o d
        → WordRun c trace start stamps o₀ d₀ (checked_fields passing) o d
    played-run e x l = record { says = answers (rw (eo, ed) (tested-passes words word-numbered e x)) (refl, l) }

-- the place that a word's refusal names is a step, or 0
pub word-place : {c : List Row} {trace : List ℕ} {start : ℕ} {stamps o₀ d₀ : List ℕ} {f : Fields} {o d : List ℕ} → WordRun c trace start stamps o₀ d₀ f o d
    → f.first ≤ 512
word-place {c} {trace} {start} {stamps} {o₀} {d₀} {f} {o} {d} run = place run.says
  where
    place : Answered (word_tests c trace start stamps (length o₀) (length d₀))
        (λ f. (f ≡ fields 0 0 0 0) × LaidOut c trace start stamps o₀ d₀ o d) ((o ≡ o₀) × (d ≡ d₀)) f → f.first ≤ 512
    place (answers p x) = rw x.0 (omega arith)
    place (refuses z (inl x) k) = rw z (omega (arith, x.2))
    place (refuses z (inr (most, inl x)) k) = rw z (omega (arith, x.2))
    place (refuses z (inr (most, inr (e, inl x))) k) = rw z (omega (arith, x.2))
    place (refuses {n = n} {p = p} z (inr (most, inr (e, inr (r, x)))) k) =
        rw z (omega (arith, (gaps-refuse (gaps_from start stamps) 0 (named c trace) n p x).2, length-named c trace))
