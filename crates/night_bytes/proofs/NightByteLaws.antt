-- What a night answers over lists in bytes, as the contract on bytes says it: each word on its own bytes, and what lies beyond as it was.
use mathlib.Core.Path.{◌≡◌, sym, ap, ◌∙◌}
use mathlib.Core.Logic.{inl, inr}
use mathlib.Core.List.{List, [], ◌∷◌}
use Prim.Native.Nat.{ℕ, ◌+◌, ◌*◌, ◌%◌, ◌/◌, ◌≤◌, ◌<◌}
use native.Mathlib.Nat.{mul_assoc}
use native.Mathlib.Omega.{arith}
use lib.ListN.{length, get_or, drop}
use Rattle.model.specs.Answers.{Fields}
use Rattle.model.specs.Table.{Machine, Valid}
use Rattle.model.specs.Trace.{Handed}
use Rattle.wire.specs.Bytes.{le, bytes, Bytes, wholes}
use Rattle.parts.specs.Parts.{left_over}
use Rattle.parts.proofs.WholeLaws.{same_bytes, whole-at}
use Rattle.table.specs.declared.Row.{Row}
use Rattle.table.specs.Rows.{transitions}
use Rattle.table.specs.Tests.{Test, Passes, Fails, refuses, answers}
use Rattle.replay.specs.Laid.{WordRun}
use Rattle.replay.proofs.ListsLaws.{held-trace, word-lists, run-outcome}
use Rattle.places.specs.Places.{trace_test}
use Rattle.places.proofs.PlaceLaws.{length-wholes}
use Rattle.on_bytes.specs.Replays.{ReplayOnMachine}
use Rattle.on_bytes.proofs.ByteLaws.{bytes-answer}
use Rattle.night.specs.Night.{part, Room, EachWord, WordPlays, WordsRun, run_tests, ListsWords}
use Rattle.night.proofs.PartLaws.{next_fits, length_part}
use Rattle.night_bytes.specs.NightBytes.{size_tests, AllOnMachine, WordsOnMachine}
use Rattle.night_bytes.proofs.WordLaws.{bytes-part, part-long, part-wholes, part-rest, part-one, beyond}

module _ (m : Machine) (valid : Valid m) (c : List Row) (held : transitions c ≡ m.transitions) (trace starts stamps o₀ d₀ m₀ : List ℕ) where
  abbrev Even : ℕ → List ℕ → Type 0
  Even w b = length b % w ≡ 0

  abbrev nums : List ℕ
  nums = wholes 2 trace

  abbrev from : List ℕ
  from = wholes 4 starts

  abbrev at_marks : List ℕ
  at_marks = wholes 4 stamps

  abbrev n : ℕ
  n = length nums

  abbrev words : ℕ
  words = length from

  abbrev lists : List Test
  lists = run_tests c (Even 2 trace) (Even 4 starts) (Even 4 stamps) nums from at_marks (wholes 2 o₀) (wholes 4 d₀) (wholes 2 m₀)

  abbrev ours : List Test
  ours = trace_test m trace ∷ size_tests (length trace / 2) starts stamps o₀ d₀ m₀

  abbrev sizes : List Test
  sizes = drop 1 lists

  sizes-fail : (i p : ℕ) → Fails sizes i p → Fails (size_tests (length trace / 2) starts stamps o₀ d₀ m₀) i p
  sizes-fail i p f = rw (length-wholes 4 stamps, length-wholes 4 starts, length-wholes 2 trace) at f

  sizes_pass : Passes sizes → Passes (size_tests (length trace / 2) starts stamps o₀ d₀ m₀)
  sizes_pass p = rw (length-wholes 4 stamps, length-wholes 4 starts, length-wholes 2 trace) at p

  bytes-fail : (i p : ℕ) → Fails lists i p → Fails ours i p
  bytes-fail i p (inl (x, y, z)) = inl ((λ h. x (h.0, held-trace m valid c held nums h.1)), y, z)
  bytes-fail i p (inr (t, f)) = inr ((t.0, rw held at t.1.1), sizes-fail i p f)

  module _ (q : Passes lists) (bo₀ : Bytes o₀) (bd₀ : Bytes d₀) (bm₀ : Bytes m₀) (o d k : List ℕ) (bo : Bytes o) (bd : Bytes d) (bk : Bytes k)
      (same_order : length o ≡ length o₀) (same_due : length d ≡ length d₀) (same_marks : length k ≡ length m₀)
      (ro : left_over 2 o ≡ left_over 2 o₀) (rd : left_over 4 d ≡ left_over 4 d₀) (rk : left_over 2 k ≡ left_over 2 m₀)
      (run : WordsRun c nums from at_marks words (wholes 2 o₀) (wholes 4 d₀) (wholes 2 m₀) (wholes 2 o) (wholes 4 d) (wholes 2 k)) where
    handed : Handed m.transitions nums
    handed = rw held at q.0.1.1

    room : Room words n (wholes 2 o₀) (wholes 4 d₀) (wholes 2 m₀)
    room = q.1.1.0

    long_order : length (wholes 2 o) ≡ length (wholes 2 o₀)
    long_order = omega (arith, length-wholes 2 o, length-wholes 2 o₀)

    long_due : length (wholes 4 d) ≡ length (wholes 4 d₀)
    long_due = omega (arith, length-wholes 4 d, length-wholes 4 d₀)

    long_marks : length (wholes 2 k) ≡ length (wholes 2 m₀)
    long_marks = omega (arith, length-wholes 2 k, length-wholes 2 m₀)

    module _ (w : ℕ) (h : w < words) where
      fits : w * n + n ≤ words * n
      fits = next_fits w words n h

      in_stamps : w * n + n ≤ length at_marks
      in_stamps = omega (arith, fits, q.1.0.3)

      in_order₀ : w * n + n ≤ length (wholes 2 o₀)
      in_order₀ = omega (arith, fits, room.order_room)

      in_due₀ : w * n + n ≤ length (wholes 4 d₀)
      in_due₀ = omega (arith, fits, room.due_room)

      in_order : w * n + n ≤ length (wholes 2 o)
      in_order = rw long_order in_order₀

      in_due : w * n + n ≤ length (wholes 4 d)
      in_due = rw long_due in_due₀

      -- a word on its own places is a word on its own bytes
      one : (f : Fields) → WordRun c nums (get_or from w 0) (part n w at_marks) (part n w (wholes 2 o₀)) (part n w (wholes 4 d₀)) f
          (part n w (wholes 2 o)) (part n w (wholes 4 d))
          → ReplayOnMachine m trace (le 4 starts (w * 4)) (part (n * 4) w stamps) (part (n * 2) w o₀) (part (n * 4) w d₀) f
          (part (n * 2) w o) (part (n * 4) w d)
      one f x =
          let es = part-wholes 3 n w stamps in_stamps in
          let eo₀ = part-wholes 1 n w o₀ in_order₀ in
          let ed₀ = part-wholes 3 n w d₀ in_due₀ in
          let eo = part-wholes 1 n w o in_order in
          let ed = part-wholes 3 n w d in_due in
          let y = rw (whole-at 4 starts w h, ← es, ← eo₀, ← ed₀, ← eo, ← ed) at x in
          let even : Even 4 (part (n * 4) w stamps) × (length (wholes 4 (part (n * 4) w stamps)) ≡ n) =
          (omega (arith, part-long 3 n w stamps in_stamps), ap length es ∙ length_part n w at_marks in_stamps) in
          let roomy : (n ≤ length (wholes 2 (part (n * 2) w o₀))) × (n ≤ length (wholes 4 (part (n * 4) w d₀))) = (
            omega (arith, ap length eo₀ ∙ length_part n w (wholes 2 o₀) in_order₀),
            omega (arith, ap length ed₀ ∙ length_part n w (wholes 4 d₀) in_due₀),
          ) in
          bytes-answer m trace (le 4 starts (w * 4)) (part (n * 4) w stamps) (part (n * 2) w o₀) (part (n * 4) w d₀)
          (bytes-part (n * 2) w o₀ bo₀) (bytes-part (n * 4) w d₀ bd₀) (bytes-part (n * 2) w o bo) (bytes-part (n * 4) w d bd)
          (part-rest 1 n w o in_order ∙ sym (part-rest 1 n w o₀ in_order₀)) (part-rest 3 n w d in_due ∙ sym (part-rest 3 n w d₀ in_due₀))
          (run-outcome m valid c held nums (Even 2 trace) (Even 4 (part (n * 4) w stamps)) (le 4 starts (w * 4)) _ _ _
          (word-lists c (Even 2 trace) (Even 4 (part (n * 4) w stamps)) nums (le 4 starts (w * 4)) _ _ _ q.0 even roomy y))

    -- so of every word
    each : EachWord (n * 2) (n * 4) 2
        (λ w o₀ d₀ o d mark.
        WordPlays (λ f. ReplayOnMachine m trace (le 4 starts (w * 4)) (part (n * 4) w stamps) o₀ d₀ f o d) (λ step. mark ≡ bytes 2 (step ∷ [])))
        words o₀ d₀ m₀ o d k
    each = record {
      word = λ w h.
          let x = run.word w h in
          let in_marks : w < length (wholes 2 k) = omega (arith, long_marks, room.marks_room) in
          record { said = x.said; outcome = one w h x.said x.outcome; marked = part-one 1 w x.said.first k bk in_marks x.marked };
      order_rest = rw (mul_assoc words n 2)
          at (beyond 1 (words * n) o o₀ bo bo₀ (rw long_order room.order_room) room.order_room run.order_rest ro);
      due_rest = rw (mul_assoc words n 4)
          at (beyond 3 (words * n) d d₀ bd bd₀ (rw long_due room.due_room) room.due_room run.due_rest rd);
      marks_rest =
          let e : words * 1 ≡ words = omega arith in
          beyond 1 words k m₀ bk bm₀ (rw long_marks room.marks_room) room.marks_room (rw e at run.marks_rest) rk;
    }

    all-bytes : AllOnMachine m trace starts stamps o₀ d₀ m₀ o d k
    all-bytes = rw (length-wholes 2 trace, length-wholes 4 starts) at each

  pub bytes-words : Bytes o₀ → Bytes d₀ → Bytes m₀ → {o d k : List ℕ} → Bytes o → Bytes d → Bytes k
      → length o ≡ length o₀ → length d ≡ length d₀ → length k ≡ length m₀
      → left_over 2 o ≡ left_over 2 o₀ → left_over 4 d ≡ left_over 4 d₀ → left_over 2 k ≡ left_over 2 m₀ → {f : Fields}
      → ListsWords c (Even 2 trace) (Even 4 starts) (Even 4 stamps) nums from at_marks (wholes 2 o₀) (wholes 4 d₀) (wholes 2 m₀) f
      (wholes 2 o) (wholes 4 d) (wholes 2 k)
      → WordsOnMachine m trace starts stamps o₀ d₀ m₀ f o d k
  bytes-words bo₀ bd₀ bm₀ bo bd bk so sd sk ro rd rk (refuses {n = i} {p = p} z b x) =
      refuses z (bytes-fail i p b) (same_bytes 2 bo bo₀ x.0 ro, same_bytes 4 bd bd₀ x.1 rd, same_bytes 2 bk bm₀ x.2 rk)
  bytes-words bo₀ bd₀ bm₀ {o} {d} {k} bo bd bk so sd sk ro rd rk (answers q x) =
      answers ((q.0.0, rw held at q.0.1.1), sizes_pass q.1)
      (rw (length-wholes 4 starts) at x.0, all-bytes q bo₀ bd₀ bm₀ o d k bo bd bk so sd sk ro rd rk x.1)
