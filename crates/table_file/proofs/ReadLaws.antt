-- The reader's loop: what is left of the file decides, whatever was read before.
use Rattle.std.specs.Prelude.{Some, None, Ok, Err}
use mathlib.Core.Path.{◌≡◌, refl, sym, ap, ◌∙◌}
use mathlib.Core.Bool.{Bool, true, false, cond}
use mathlib.Core.List.{List, [], ◌∷◌, ◌++◌}
use mathlib.Core.Logic.{dite}
use native.Mathlib.Decide.{dec_lt}
use Prim.Native.Nat.{ℕ, zero, suc, ◌+◌, ◌*◌, ◌-◌, ◌≤◌, ◌<◌}
use native.Mathlib.Omega.{arith}
use mir.Syntax.{w64}
use mir.Val.{Fits}
use borrow.Author.Tests.{le-leb, lt-leb}
use lib.Dec.{ltb}
use lib.ListN.{length, take, drop, length-drop}
use lib.Seq.{drop-drop}
use Rattle.model.specs.Table.{Transition}
use Rattle.table.specs.declared.Refusal.{Refusal}
use Rattle.table.specs.declared.Refusal.TheVariants.{Misplaced, Full, OutOfRange, Repeated}
use Rattle.table.specs.declared.Row.{Row}
use Rattle.table.specs.declared.Table.{Table}
use Rattle.table_file.specs.declared.Head.{Head}
use Rattle.table.specs.Refusal.{passing, refusal_number, refusal_place, refused_fields}
use Rattle.table.specs.Rows.{table_in, said, listed, put_row, put_at, put_all}
use Rattle.table.specs.Check.{in_range, has}
use Rattle.table.specs.Seen.{key_of, suspect, noted, Marked}
use Rattle.table_file.specs.File.{head_in, read_file, machine, stopped, Scan, answer_of, IntoOutcome, left_in, body_in, row_in, frame_in, Listed, found, refused}
use Rattle.table_file.specs.File.{ended, on_checked, admission, admitted, rows_from, finish_of}
use Rattle.table_file.specs.Records.{record_at, recorded, admit_of, Next, Admitted, RowsOutcome, Kept, Scanned}
use Rattle.table.proofs.RefusalLaws.{refusal-some}
use Rattle.table.proofs.RowLaws.{put-near, length-listed, listed_more}
use Rattle.table.proofs.SeenLaws.{marked-listed, marked-not, marked_next}
use Rattle.table.proofs.CellLaws.{put-none, put-more}
use Rattle.table_file.proofs.FrameLaws.{took-says, left_body}

-- one record decides the next step of the scan
module _ (states at : ℕ) (rest : List ℕ) (ts : List Transition) where
  pub rows-bad : (room : ℕ) (r : Refusal) → frame_in at rest ≡ Err r → rows_from room states at rest ts ≡ refused (refusal_number r) (refusal_place r)
  unfolding rows_from
  rows-bad zero r e = rw e
  rows-bad (suc room) r e = rw e

  pub rows_last : (room : ℕ) → frame_in at rest ≡ Ok None → rows_from room states at rest ts ≡ ended at rest ts
  unfolding rows_from
  rows_last zero e = rw e
  rows_last (suc room) e = rw e

  pub rows-full : (r : Row) → frame_in at rest ≡ Ok (Some r) → rows_from 0 states at rest ts ≡ refused 3 at
  unfolding rows_from
  rows-full r e = rw e

  pub rows-took : (room : ℕ) (r : Row) → frame_in at rest ≡ Ok (Some r)
      → rows_from (suc room) states at rest ts ≡ admitted states at ts (said r) (rows_from room states (at + 18) (drop 18 rest) (ts ++ (said r ∷ [])))
  unfolding rows_from
  rows-took room r e = rw e

pub kept-start : (file seen : List ℕ) (states : ℕ) → 8 ≤ length file → Marked seen (recorded file 0) → Kept file seen states 0 8
unfolding listed
kept-start file seen states h m = record { few = omega arith; place = refl; inside = h; marked = m; same = refl }

-- a transition stands at the offset, after n others
pub record TookAfter (file : List ℕ) (n at : ℕ) (r : Row) : Type 0 where
  pub few : n ≤ 256
  pub inside : at + 18 ≤ length file
  pub row : r ≡ record_at file n
  pub is : frame_in at (drop at file) ≡ Ok (Some r)

-- the end and a transition, as choices
pub ended_is : (at : ℕ) (rest : List ℕ) (ts : List Transition) → ended at rest ts ≡ cond (ltb 4 (length rest)) (refused 2 (at + 4)) (found ts)
ended_is at rest ts = by (ltb 4 (length rest))
  where
    by : (b : Bool) → on_checked (cond b (Err (Misplaced (at + 4))) passing) (found ts) ≡ cond b (refused 2 (at + 4)) (found ts)
    by true = refl
    by false = refl

pub admitted-is : (states at : ℕ) (ts : List Transition) (t : Transition) (next : Listed)
    → admitted states at ts t next ≡ cond (in_range states t) (cond (has t ts) (refused 5 at) next) (refused 4 at)
admitted-is states at ts t next = by (in_range states t) (has t ts)
  where
    by : (b d : Bool) → on_checked (cond b (cond d (Err (Repeated at)) passing) (Err (OutOfRange at))) next
        ≡ cond b (cond d (refused 5 at) next) (refused 4 at)
    by true true = refl
    by true false = refl
    by false d = refl

-- what an answer says of the transition
module _ (states at n : ℕ) (met : Bool) (t : Transition) where
  pub admit-full : 256 ≤ n → Err (Full at) ≡ admit_of states at n met t
  unfolding admit_of
  admit-full h = rw (le-leb 256 n h)

  module _ (h : n < 256) where
    pub admit-is : admit_of states at n met t ≡ admission states at met t
    unfolding admit_of
    admit-is = rw (lt-leb 256 n h)

    pub admit-says : passing ≡ admit_of states at n met t → (in_range states t ≡ true) × (met ≡ false)
    admit-says e = by (in_range states t) met refl (sym (e ∙ admit-is))
      where
        by : (b m : Bool) → in_range states t ≡ b → cond b (cond m (Err (Repeated at)) passing) (Err (OutOfRange at)) ≡ passing
            → (in_range states t ≡ true) × (m ≡ false)
        by true false q e = (q, refl)
        by true true q e = let z : ◌≡◌ {A = ℕ} 0 1 = cc in absurd (omega arith)
        by false m q e = let z : ◌≡◌ {A = ℕ} 0 1 = cc in absurd (omega arith)

  pub admit-few : passing ≡ admit_of states at n met t → n < 256
  admit-few e =
      dite (dec_lt n 256) (λ h. h)
      (λ h. let f : passing ≡ Err (Full at) = e ∙ sym (admit-full (omega arith)) in
      let z : ◌≡◌ {A = ℕ} 0 1 = cc in absurd (omega arith))

  admit-full-says : (x : Refusal) → 256 ≤ n → Err x ≡ admit_of states at n met t → x ≡ Full at
  admit-full-says x h e = let f : Err x ≡ Err (Full at) = e ∙ sym (admit-full h) in cc

-- the record's body is a part of the file
pub next-body : {l seen : List ℕ} {n at : ℕ} {t : Row} → Next l seen n at t → Fits w64 (at + 4) × Fits w64 (at + 18) × (at + 4 ≤ at + 18)
next-body next = (record { fits = omega arith }, record { fits = omega arith }, omega arith)

-- the code looks for what stands in record n
pub own-has : (l : List ℕ) (n at : ℕ) (t : Row) {seen : List ℕ} → Next l seen n at t → {b : Bool} → b ≡ has (said (record_at l n)) (recorded l n)
    → b ≡ has (said t) (recorded l n)
own-has l n at t next e = e ∙ ap (λ (r : Row). has (said r) (recorded l n)) (sym next.is)

-- the ways out of the test of one transition
module _ (l : List ℕ) (states at n : ℕ) (t : Row) {seen : List ℕ} (next : Next l seen n at t) (seen' : List ℕ) where
  refusal-marks : {r : Refusal} → Err r ≡ passing → Marked seen' (recorded l (n + 1))
  refusal-marks e = let z : ◌≡◌ {A = ℕ} 0 1 = cc in absurd (omega arith)

  pub admitted-full : 256 ≤ n → Admitted l states at n t (Err (Full at)) seen'
  admitted-full h = record { answers = admit-full states at n _ (said t) h; marks = refusal-marks }

  module _ (h : n < 256) where
    pub admitted-range : in_range states (said t) ≡ false → Admitted l states at n t (Err (OutOfRange at)) seen'
    admitted-range r = record { answers = rw (admit-is states at n (has (said t) (recorded l n)) (said t) h, r); marks = refusal-marks }

    module _ (r : in_range states (said t) ≡ true) where
      pub admitted-twin : has (said t) (recorded l n) ≡ true → Admitted l states at n t (Err (Repeated at)) seen'
      admitted-twin m = record { answers = rw (admit-is states at n (has (said t) (recorded l n)) (said t) h, r, m); marks = refusal-marks }

      module _ {key : ℕ} (k : key ≡ key_of (said (row_in (take (at + 18 - (at + 4)) (drop (at + 4) l))))) (s : seen' ≡ noted seen key) where
        own : key ≡ key_of (said t)
        own =
            let p : 8 + n * 18 ≡ at = sym next.place in
            let i : t ≡ row_in (body_in 14 (drop at l)) = rw p at next.is in
            k ∙ ap (λ (b : List ℕ). key_of (said (row_in b))) (left_body l at (at + 18) refl) ∙ ap (λ (r : Row). key_of (said r)) (sym i)

        pub admitted-new : has (said t) (recorded l n) ≡ false → Admitted l states at n t passing seen'
        admitted-new m = record {
          answers = rw (admit-is states at n (has (said t) (recorded l n)) (said t) h, r, m);
          marks = λ e. marked-listed (λ i. said (record_at l i)) n (ap said next.is) (marked_next next.marked (said t) own s);
        }

        -- the marks rule it out
        pub admitted-unmarked : {b : Bool} → b ≡ suspect seen key → b ≡ false → Admitted l states at n t passing seen'
        admitted-unmarked e f = admitted-new (marked-not next.marked (said t) own e f)

module _ (file : List ℕ) {seen : List ℕ} (states n at : ℕ) (k : Kept file seen states n at) where
  abbrev rest : List ℕ
  rest = drop at file

  abbrev ts : List Transition
  ts = recorded file n

  -- a refusal of this record is the refusal of the whole
  pub kept-bad : (r : Refusal) → frame_in at rest ≡ Err r → RowsOutcome states file (Err r)
  kept-bad r e = sym k.same ∙ rows-bad states at rest ts (256 - n) r e

  -- the end record ends the scan, or what stands behind it is refused
  kept-ended : frame_in at rest ≡ Ok None → rows_from 256 states 8 (drop 8 file) [] ≡ ended at rest ts
  kept-ended e = sym k.same ∙ rows_last states at rest ts (256 - n) e

  pub kept-last : frame_in at rest ≡ Ok None → passing ≡ finish_of at rest → RowsOutcome states file (Ok n)
  kept-last e q = (kept-ended e ∙ rw (← q), k.few, omega (arith, k.place, k.inside))

  pub kept-behind : frame_in at rest ≡ Ok None → (r : Refusal) → Err r ≡ finish_of at rest → RowsOutcome states file (Err r)
  kept-behind e r q = kept-ended e ∙ rw (← q)

  pub kept-took : (r : Row) → frame_in at rest ≡ Ok (Some r) → TookAfter file n at r
  kept-took r e =
      let s = took-says at rest r e in
      let p : 8 + n * 18 ≡ at = sym k.place in
      record { few = k.few; inside = omega (arith, s.long, length-drop at file, k.inside); row = rw p s.is; is = e }

  -- a transition that was refused is the refusal of the whole
  pub kept-stop : (r : Row) → frame_in at rest ≡ Ok (Some r) → (x : Refusal) → Err x ≡ admit_of states at n (has (said r) ts) (said r)
      → RowsOutcome states file (Err x)
  kept-stop r e x q =
      sym k.same ∙ dite (dec_lt n 256)
      (λ h. let room : 256 - n ≡ suc (256 - (n + 1)) = omega arith in
      let z : admission states at (has (said r) ts) (said r) ≡ Err x = sym (q ∙ admit-is states at n (has (said r) ts) (said r) h) in
      rw (room, rows-took states at rest ts (256 - (n + 1)) r e, z))
      (λ h. let room : 256 - n ≡ 0 = omega arith in
      rw (room, rows-full states at rest ts r e, admit-full-says states at n (has (said r) ts) (said r) x (omega arith) q))

  -- a transition that was admitted: the scan goes on behind it
  pub kept_more : (r : Row) → TookAfter file n at r → passing ≡ admit_of states at n (has (said r) ts) (said r)
      → {seen' : List ℕ} → Marked seen' (recorded file (n + 1)) → Kept file seen' states (n + 1) (at + 18)
  kept_more r t a w =
      let h : n < 256 = admit-few states at n (has (said r) ts) (said r) a in
      let s = admit-says states at n (has (said r) ts) (said r) h a in
      let room : 256 - n ≡ suc (256 - (n + 1)) = omega arith in
      let d : drop 18 rest ≡ drop (at + 18) file = drop-drop 18 at file in
      let m : recorded file (n + 1) ≡ ts ++ (said r ∷ []) = listed_more (λ i. said (record_at file i)) n ∙ ap (λ (r : Row). ts ++ (said r ∷ [])) (sym t.row) in
      let step = rw (room, rows-took states at rest ts (256 - (n + 1)) r t.is, s.0, s.1, d) at k.same in
      record { few = omega arith; place = omega (arith, k.place); inside = t.inside; marked = w; same = rw m step }

-- what the head and the records give together
pub read-shut : (l : List ℕ) (r : Refusal) → head_in l ≡ Err r → read_file l ≡ stopped (refusal_number r) (refusal_place r)
unfolding read_file
read-shut l r e = rw e

module _ (l : List ℕ) (s i : ℕ) (e : head_in l ≡ Ok (s, i)) where
  pub read-stop : (n p : ℕ) → rows_from 256 s 8 (drop 8 l) [] ≡ refused n p → read_file l ≡ stopped n p
  unfolding read_file
  read-stop n p f = rw (e, f)

  pub read_found : (ts : List Transition) → rows_from 256 s 8 (drop 8 l) [] ≡ found ts → read_file l ≡ machine (record { states = s; initial = i; transitions = ts })
  unfolding read_file
  read_found ts f = rw (e, f)

-- the reader's ways out: the refusal, or the numbers
pub scan-refused : (l : List ℕ) (r : Refusal) → read_file l ≡ stopped (refusal_number r) (refusal_place r) → Scanned l (Err r)
scan-refused l r e = record { tells = rw e (record { answers = refl; tells = tt }); holds = tt }

pub scan-found : (l : List ℕ) (s i n : ℕ) → head_in l ≡ Ok (s, i) → RowsOutcome s l (Ok n) → Scanned l (Ok (record { states = s; initial = i; count = n }))
scan-found l s i n e o =
    let f = read_found l s i e (recorded l n) o.0 in
    let long : length (recorded l n) ≡ n = length-listed (λ i. said (record_at l i)) n in
    record {
      tells = rw f (record { answers = refl; tells = rw long });
      holds = record { few = o.1; inside = o.2; is = f };
    }

-- the records stored one by one
module _ (l : List ℕ) (c₀ : List Row) where
  pub stored-none : c₀ ≡ put_all c₀ (recorded l 0)
  unfolding listed
  stored-none = put-none c₀

  pub stored_more : (i : ℕ) → i < 256 → {c c' : List Row} {r : Row} → c ≡ put_all c₀ (recorded l i) → r ≡ record_at l i → c' ≡ put_at c i (said r)
      → c' ≡ put_all c₀ (recorded l (i + 1))
  stored_more i h {c} {c'} {r} e q p =
      let f : ℕ → Transition = λ i. said (record_at l i) in
      let n : length (recorded l i) ≡ i = length-listed f i in
      let m : put_row (put_all c₀ (recorded l i)) i (said r) ≡ put_all c₀ (recorded l i ++ (said r ∷ [])) = rw n at (put-more c₀ (recorded l i) (said r)) in
      p ∙ put-near c i (said r) h ∙ ap (λ (x : List Row). put_row x i (said r)) e ∙ m
      ∙ ap (λ (r : Row). put_all c₀ (recorded l i ++ (said r ∷ []))) q ∙ ap (put_all c₀) (sym (listed_more f i))

-- a refusal's fields are those of a refused file alone, and what was found is stored in a table
module _ (l : List ℕ) (t₀ : Table) where
  pub into-refused : (r : Refusal) → Scanned l (Err r) → IntoOutcome (read_file l) t₀ (Err r) t₀
  into-refused r s = (s.tells.answers, by (read_file l) s.tells.answers)
    where
      by : (x : Scan) → refused_fields r ≡ answer_of x → t₀ ≡ left_in x t₀
      by (machine m) q = absurd (omega (arith, refusal-some r, ap (λ f. f.status) q))
      by (stopped n p) q = refl

  pub into-stored : (h : Head) → Scanned l (Ok h) → {c : List Row} → c ≡ put_all t₀.cells (recorded l h.count)
      → IntoOutcome (read_file l) t₀ passing (table_in h.states h.initial h.count c)
  into-stored h s e =
      let long : length (recorded l h.count) ≡ h.count = length-listed (λ i. said (record_at l i)) h.count in
      rw s.holds.is (refl, rw (long, e))
