-- A call on bytes is the call on values of what the bytes say, and what it leaves in the lent memory.
use mathlib.Core.Path.{◌≡◌, refl, sym, ap, ◌∙◌, subst}
use mathlib.Core.Logic.{inl, inr}
use mathlib.Core.List.{List, ◌∷◌, ◌++◌}
use Prim.Native.Nat.{ℕ, ◌*◌, ◌/◌, ◌≤◌}
use native.Mathlib.Omega.{arith}
use lib.ListN.{length, drop}
use lib.Seq.{drop_at}
use Rattle.model.specs.Answers.{Fields, fields}
use Rattle.model.specs.Table.{Machine, Valid}
use Rattle.wire.specs.Bytes.{Bytes}
use Rattle.table.specs.Tests.{Test, unless, Passes, Fails, refuses, answers}
use Rattle.table.proofs.TestLaws.{answered-done, valid-passes, valid-fails}
use Rattle.table_file.specs.File.{machine, read_file}
use Rattle.table_file.proofs.FileLaws.{sound, places}
use Rattle.records.specs.declared.Pending.{Pending}
use Rattle.player.specs.declared.Config.{Config}
use Rattle.player.specs.declared.Move.{Move}
use Rattle.player.specs.Moves.{waiting_in, Whole, move_tests, PlayOutcome, StartOutcome, start_tests, fresh}
use Rattle.places.proofs.ReadingLaws.{of-file, at-machine}
use Rattle.player_bytes.specs.Records.{config_in, config_bytes, records_to, lent_in, records_in, records_bytes}
use Rattle.player_bytes.specs.Plays.{start_tests_in, StartOnMachine, StartBytesOutcome, play_tests_in, PlayedIn, PlayOnMachine, PlayBytesOutcome}
use Rattle.player_bytes.proofs.HeldLaws.{length_to, take-to, length-records}
use Rattle.player_bytes.proofs.RoundLaws.{records-small, config-back, length-config, length-written, written_back, written-bytes, written-as-stood, same-beyond}
use Rattle.player_bytes.proofs.KeptLaws.{Over, over-length, over-narrow, over-beyond, done-slim, done-over}

-- buffers of bytes with room for the player
pub record Lent (config waiting : List ℕ) : Type 0 where
  pub ten : 10 ≤ length config
  pub room : 240 ≤ length waiting / 8
  pub bytes : Bytes waiting

-- what stays in the records' buffer: the bytes behind those that wait after the call, and behind the 240th
pub record Beyond (waiting₀ config waiting : List ℕ) : Type 0 where
  pub unused : (n : ℕ) → (config_in config).waiting ≤ n → drop (n * 8) waiting ≡ drop (n * 8) waiting₀
  pub behind : drop 1920 waiting ≡ drop 1920 waiting₀

same-stays : {waiting₀ config waiting : List ℕ} → waiting ≡ waiting₀ → Beyond waiting₀ config waiting
same-stays e = record { unused = λ n h. ap (drop (n * 8)) e; behind = ap (drop 1920) e }

-- no waiting record is lost by taking no more than 240
pub none-lost : (m : Machine) (c : Config) (w : List ℕ) → Whole m c (records_in w) → waiting_in c (records_in w) ≡ waiting_in c (records_to (length w / 8) w)
none-lost m c w x =
    let h : c.waiting ≤ lent_in w = omega (arith, x.lent, length_to (lent_in w) w) in
    take-to c.waiting (lent_in w) w h ∙ sym (take-to c.waiting (length w / 8) w (omega arith))

module _ (m : Machine) (valid : Valid m) (config₀ waiting₀ : List ℕ) (bytes : Bytes waiting₀) (mv : Move) (f : Fields) (config waiting : List ℕ) where
  abbrev c₀ : Config
  c₀ = config_in config₀

  abbrev l₀ : List Pending
  l₀ = records_in waiting₀

  -- the tests on values behind the table's
  abbrev tests-on : List Test
  tests-on = unless 15 (Whole m c₀ l₀) ∷ unless 8 (240 ≤ length l₀) ∷ move_tests m c₀ l₀ mv

  long : 240 ≤ length waiting₀ / 8 → length l₀ ≡ 240
  long room = length_to (lent_in waiting₀) waiting₀ ∙ omega (arith, room)

  -- a move that is done
  module _ (tests : Passes (play_tests_in m config₀ waiting₀ mv)) (did : PlayedIn m config₀ waiting₀ mv f config waiting) where
    whole : Whole m c₀ l₀
    whole = tests.1.0

    room : 240 ≤ length waiting₀ / 8
    room = tests.1.1.0

    over : Over m c₀ l₀ mv f did.next did.list
    over = done-over valid whole f did.next did.list mv (omega (arith, long room)) tests.1.1.1 did.done

    all : length did.list ≡ 240
    all = over-length over ∙ long room

    pub config-says : config_in config ≡ did.next
    config-says = ap config_in did.config_is
        ∙ config-back did.next (drop 10 config₀) (done-slim valid whole f did.next did.list mv did.done)

    pub records-say : records_in waiting ≡ did.list
    records-say = ap records_in did.waiting_is
        ∙ written_back did.list all waiting₀ room (over-narrow over (records-small waiting₀ bytes (lent_in waiting₀)))

    done-values : PlayOutcome m c₀ l₀ mv f (config_in config) (records_in waiting)
    done-values =
        subst (λ (c : Config). PlayOutcome m c₀ l₀ mv f c (records_in waiting)) (sym config-says)
        (subst (λ (l : List Pending). PlayOutcome m c₀ l₀ mv f did.next l) (sym records-say)
        (answers (valid-passes m valid tests-on (whole, (omega (arith, long room), tests.1.1.1))) did.done))

    done-lent : Lent config waiting
    done-lent = record {
      ten = omega (arith, ap length did.config_is, length-config did.next (drop 10 config₀));
      room = omega (arith, room, ap length did.waiting_is, length-written did.list all waiting₀ room);
      bytes = subst Bytes (sym did.waiting_is) (written-bytes did.list waiting₀ bytes);
    }

    done-beyond : Beyond waiting₀ config waiting
    done-beyond = record {
      unused = λ n h.
          ap (drop (n * 8)) did.waiting_is
          ∙ same-beyond n did.list l₀ (drop 1920 waiting₀) (over-length over) (over-beyond over n (omega (arith, h, ap (λ (c : Config). c.waiting) config-says)))
          ∙ ap (drop (n * 8)) (written-as-stood waiting₀ bytes room);
      behind = ap (drop 1920) did.waiting_is ∙ drop_at (records_bytes did.list) (drop 1920 waiting₀) 1920 (length-records did.list ∙ omega (arith, all));
    }

  -- a move, done or refused
  moved : Lent config₀ waiting₀ → (n p : ℕ) → Fails (play_tests_in m config₀ waiting₀ mv) n p → Fails tests-on n p
  moved h n p (inl x) = absurd (x.0 h.ten)
  moved h n p (inr (ten, inl x)) = inl x
  moved h n p (inr (ten, inr (w, inl x))) = absurd (x.0 h.room)
  moved h n p (inr (ten, inr (w, inr (r, x)))) = inr (w, inr (omega (arith, long r), x))

  on_values : Lent config₀ waiting₀ → PlayOnMachine m config₀ waiting₀ mv f config waiting → PlayOutcome m c₀ l₀ mv f (config_in config) (records_in waiting)
  on_values h (answers p d) = done-values p d
  on_values h (refuses {n = n} {p = p} e x k) = refuses e ((valid-fails m valid tests-on n p).1 (moved h n p x)) (ap config_in k.0, ap records_in k.1)

  on-lent : Lent config₀ waiting₀ → PlayOnMachine m config₀ waiting₀ mv f config waiting → Lent config waiting
  on-lent h (answers p d) = done-lent p d
  on-lent h (refuses e x k) = subst (λ (c : List ℕ). Lent c waiting) (sym k.0) (subst (Lent config₀) (sym k.1) h)

  on-beyond : PlayOnMachine m config₀ waiting₀ mv f config waiting → Beyond waiting₀ config waiting
  on-beyond (answers p d) = done-beyond p d
  on-beyond (refuses e x k) = same-stays k.1

-- the same on a file
module _ (file : List ℕ) (are : Bytes file) (config₀ waiting₀ : List ℕ) (bytes : Bytes waiting₀) (config waiting : List ℕ) where
  -- an accepted start has read a machine
  pub start-read : StartBytesOutcome file config₀ waiting₀ (fields 0 0 0 0) config waiting → (m : Machine) × (read_file file ≡ machine m)
  start-read o = of-file (read_file file) _ _ (λ n p e x. absurd (omega (arith, (places file n p e).first, ap (λ (g : Fields). g.status) x.0)))
      (λ m e y. (m, e)) o.0

  -- bytes beyond the records that wait are as they were
  pub beyond-kept : (mv : Move) (f : Fields) → PlayBytesOutcome file config₀ waiting₀ mv f config waiting → Beyond waiting₀ config waiting
  beyond-kept mv f o = of-file (read_file file) _ _ (λ n p e x. same-stays x.2)
      (λ m e x. on-beyond m (sound file m are e).0 config₀ waiting₀ bytes mv f config waiting x) o

  module _ (m : Machine) (read : read_file file ≡ machine m) where
    valid : Valid m
    valid = (sound file m are read).0

    module _ (o : StartBytesOutcome file config₀ waiting₀ (fields 0 0 0 0) config waiting) where
      done : Passes (start_tests_in m config₀ (length waiting₀ / 8)) × (config ≡ config_bytes (fresh m.initial) ++ drop 10 config₀)
      done =
          let x : StartOnMachine m config₀ (length waiting₀ / 8) (fields 0 0 0 0) config = (at-machine (read_file file) m read _ _).0 o.0 in
          let a = answered-done (omega arith) (λ h k. omega arith) x in
          (a.0, a.1.1)

      pub start-room : Lent config₀ waiting₀
      start-room = record { ten = done.0.0.0; room = done.0.0.1; bytes = bytes }

      pub start-lent : Lent config waiting
      start-lent = record {
        ten = omega (arith, ap length done.1, length-config (fresh m.initial) (drop 10 config₀));
        room = omega (arith, done.0.0.1, ap length o.1);
        bytes = subst Bytes (sym o.1) bytes;
      }

      pub start-values : StartOutcome m (length (records_in waiting)) (fields 0 0 0 0) (config_in config)
      start-values =
          let n : length (records_in waiting) ≡ 240 = length_to (lent_in waiting) waiting ∙ omega (arith, start-lent.room) in
          answers (valid-passes m valid (start_tests m (length (records_in waiting))) (omega arith, (done.0.1.0, tt))) (
            refl,
            ap config_in done.1
                ∙ config-back (fresh m.initial) (drop 10 config₀) (omega (arith, valid.starts, valid.most), omega arith, omega arith, omega arith),
          )

    module _ (mv : Move) (f : Fields) (lent : Lent config₀ waiting₀) (o : PlayBytesOutcome file config₀ waiting₀ mv f config waiting) where
      pub play-lent : Lent config waiting
      play-lent = on-lent m valid config₀ waiting₀ bytes mv f config waiting lent ((at-machine (read_file file) m read _ _).0 o)

      pub play-values : PlayOutcome m (config_in config₀) (records_in waiting₀) mv f (config_in config) (records_in waiting)
      play-values = on_values m valid config₀ waiting₀ bytes mv f config waiting lent ((at-machine (read_file file) m read _ _).0 o)
