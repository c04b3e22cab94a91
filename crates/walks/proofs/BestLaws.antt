-- Laws of the table of greatest late sums: how it is filled.
use mathlib.Core.Path.{◌≡◌, refl, sym, ap, ◌∙◌}
use mathlib.Core.List.{List}
use mathlib.Core.Logic.{⊎_elim, dite}
use Prim.Native.Nat.{ℕ, zero, suc, ◌+◌, ◌*◌, ◌-◌, ◌≤◌, ◌<◌}
use native.Mathlib.Nat.{eq-or-lt_of_le}
use native.Mathlib.Decide.{ℕ_discrete}
use native.Mathlib.Omega.{arith}
use lib.ListN.{get_or, length, set, length-set}
use lib.Seq.{get_or-set_same, get_or-set_other}
use Rattle.model.specs.Lists.{All}
use Rattle.model.specs.Table.{Transition, InRange, at, none}
use Rattle.model.specs.Shown.{late_gap}
use Rattle.model.proofs.Lists.{all-at}
use Rattle.table.specs.declared.Row.{Row}
use Rattle.table.specs.Rows.{rows}
use Rattle.table.specs.Fit.{Sound}
use Rattle.walks.specs.Walks.{Seen, Walk}
use Rattle.walks.specs.Best.{cell, Exact, Filled, Roomy, Making, Copied, First}
use Rattle.walks.proofs.WalkLaws.{late-top, Last, walk_none, walk-wide, walk-on, walk-last, walk-small, walk-zero}

pub roomy : {c : List Row} {n s : ℕ} {best : List ℕ} → Sound c n → s < 32 → length best ≡ 7648 → Roomy (rows c n) s best
roomy z h l = record { fine = z.ranged; start = h; size = l }

-- a store in row a at state t
module _ (best : List ℕ) (a t y : ℕ) (room : a * 32 + t < length best) where
  abbrev new : List ℕ
  new = set best (a * 32 + t) y

  put-here : cell new a t ≡ y
  put-here = get_or-set_same best (a * 32 + t) y 0 room

  put-below : (b e : ℕ) → b < a → e < 32 → cell new b e ≡ cell best b e
  put-below b e h l = get_or-set_other best (a * 32 + t) (b * 32 + e) y 0 (λ q. omega arith)

  put-beside : (e : ℕ) → (e ≡ t → ⊥) → cell new a e ≡ cell best a e
  put-beside e h = get_or-set_other best (a * 32 + t) (a * 32 + e) y 0 (λ q. h (omega arith))

  put_up : cell best a t ≤ y → (e : ℕ) → cell best a e ≤ cell new a e
  put_up h e = dite (ℕ_discrete e t) (λ (q : e ≡ t). rw q (omega (arith, put-here))) (λ o. omega (arith, put-beside e o))

-- walks of the table ts from s
module _ {ts : List Transition} {s : ℕ} where
  pub filled-less : {best : List ℕ} {n m : ℕ} → m ≤ n → Filled ts s best n → Filled ts s best m
  filled-less h f = record { row = λ a l. f.row a (omega arith) }

  -- a row's law looks at its own numbers alone
  exact_same : {old best : List ℕ} {a : ℕ} → ((e : ℕ) → e < 32 → cell best a e ≡ cell old a e) → Exact ts s old a → Exact ts s best a
  exact_same h r =
      record { real = λ e b l q. r.real e b l (sym (h e l) ∙ q); most = λ e b l w. omega (arith, r.most e b l w, h e l) }

  -- a number of an exact row is small
  pub cell-small : (best : List ℕ) (a e : ℕ) → All (InRange 32) ts → Exact ts s best a → e < 32 → cell best a e ≤ a * 1048320 + 1
  cell-small best a e fine r h = small (cell best a e) refl
    where
      small : (x : ℕ) → cell best a e ≡ x → x ≤ a * 1048320 + 1
      small zero q = omega arith
      small (suc b) q = omega (arith, walk-small fine (r.real e b h q))

  -- row a, transition i
  module _ {best : List ℕ} {a i : ℕ} (m : Making ts s best a i) where
    abbrev Goes : List ℕ → ℕ → Type 0
    Goes l j =
        (b : ℕ) → a ≡ b + (at ts j).u → 1 ≤ cell l b (at ts j).from → cell l b (at ts j).from + late_gap (at ts j) ≤ cell l a (at ts j).to

    fine-at : (j : ℕ) → j < length ts → InRange 32 (at ts j)
    fine-at = all-at none m.roomy.fine

    -- a transition that has nothing to add
    making-stay : Goes best i → Making ts s best a (i + 1)
    making-stay g =
        record {
          roomy = m.roomy;
          low = m.low;
          high = m.high;
          done = m.done;
          part = record {
            real = m.part.real;
            kept = m.part.kept;
            goes = λ j b h. ⊎_elim (λ (q : j ≡ i). rw q (g b)) (λ (l : j < i). m.part.goes j b l) (eq-or-lt_of_le (omega arith));
          };
        }

    -- a transition that adds
    module _ (h : i < length ts) (l : (at ts i).u ≤ a) (p : 1 ≤ cell best (a - (at ts i).u) (at ts i).from)
        (o : cell best a (at ts i).to < cell best (a - (at ts i).u) (at ts i).from + late_gap (at ts i)) where
      abbrev val : ℕ
      val = cell best (a - (at ts i).u) (at ts i).from + late_gap (at ts i)

      abbrev out : List ℕ
      out = set best (a * 32 + (at ts i).to) val

      fits : a * 32 + (at ts i).to < length best
      fits = omega (arith, (fine-at i h).arrives, m.high, m.roomy.size)

      grown : (e : ℕ) → cell best a e ≤ cell out a e
      grown = put_up best a (at ts i).to val fits (omega arith)

      below : (b e : ℕ) → b < a → e < 32 → cell out b e ≡ cell best b e
      below = put-below best a (at ts i).to val fits

      kept-below : (j b : ℕ) → j < length ts → a ≡ b + (at ts j).u → cell out b (at ts j).from ≡ cell best b (at ts j).from
      kept-below j b k u = let f = fine-at j k in below b (at ts j).from (omega arith) f.leaves

      real-here : (b : ℕ) → val ≡ suc b → Walk ts s (at ts i).to a b
      real-here b q =
          let x : ℕ = cell best (a - (at ts i).u) (at ts i).from - 1 in
          let e : cell best (a - (at ts i).u) (at ts i).from ≡ suc x = omega arith in
          let f = fine-at i h in
          let w = (m.done.row (a - (at ts i).u) (omega arith)).real (at ts i).from x f.leaves e in
          let z : x + late_gap (at ts i) ≡ b = omega arith in
          rw z at (walk-on i h l w)

      real-out : (e b : ℕ) → e < 32 → cell out a e ≡ suc b → Walk ts s e a b
      real-out e b k q =
          dite (ℕ_discrete e (at ts i).to)
          (λ (z : e ≡ (at ts i).to). rw z (real-here b (sym (put-here best a (at ts i).to val fits) ∙ ap (λ (x : ℕ). cell out a x) (sym z) ∙ q)))
          (λ z. m.part.real e b k (sym (put-beside best a (at ts i).to val fits e z) ∙ q))

      goes-here : Goes out i
      goes-here b u g =
          let q : b ≡ a - (at ts i).u = omega arith in
          rw q (omega (arith, kept-below i (a - (at ts i).u) h (omega arith), put-here best a (at ts i).to val fits))

      goes-out : (j : ℕ) → j < i + 1 → Goes out j
      goes-out j k =
          ⊎_elim
          (λ (q : j ≡ i). rw q goes-here)
          (λ (q : j < i) b u g. let e = kept-below j b (omega arith) u in omega (arith, m.part.goes j b q u (omega arith), grown (at ts j).to))
          (eq-or-lt_of_le (omega arith))

      making-put : Making ts s out a (i + 1)
      making-put =
          record {
            roomy = record { fine = m.roomy.fine; start = m.roomy.start; size = simp length-set m.roomy.size };
            low = m.low;
            high = m.high;
            done = record { row = λ b k. exact_same (λ e q. below b e k q) (m.done.row b k) };
            part = record {
              real = real-out;
              kept = λ b e q k. let x = below b e (omega arith) k in omega (arith, grown e, m.part.kept b e q k);
              goes = λ j b k. goes-out j k b;
            };
          }

    -- the ways out of a step, with the transition that the code has read
    module _ {t : Transition} (z : Seen ts i t) where
      pub skip-long : a < t.u → Making ts s best a (i + 1)
      skip-long h = making-stay (rw z.here (λ b q p. absurd (omega arith)))

      pub from-small : t.u ≤ a → cell best (a - t.u) t.from + late_gap t ≤ 251596801
      from-small h =
          let f = z.fine in
          let r = m.done.row (a - t.u) (omega arith) in
          omega (arith, cell-small best (a - t.u) t.from m.roomy.fine r f.leaves, late-top f, m.high)

      pub skip-none : cell best (a - t.u) t.from ≡ 0 → Making ts s best a (i + 1)
      skip-none h = making-stay (rw z.here (λ b q p. let e : b ≡ a - t.u = omega arith in absurd (let x = rw e at p in omega arith)))

      pub skip-less : cell best (a - t.u) t.from + late_gap t ≤ cell best a t.to → Making ts s best a (i + 1)
      skip-less h = making-stay (rw z.here (λ b q p. let e : b ≡ a - t.u = omega arith in rw e h))

      pub put-more : {y : ℕ} → y ≡ cell best (a - t.u) t.from + late_gap t → t.u ≤ a → 1 ≤ cell best (a - t.u) t.from → cell best a t.to < y
          → Making ts s (set best (a * 32 + t.to) y) a (i + 1)
      put-more e = rw (e, ← z.here) (making-put z.known)

  -- all transitions are done: the row is done
  module _ {best : List ℕ} {a : ℕ} (m : Making ts s best a (length ts)) where
    last_less : {e b : ℕ} → Last ts s e a b → b < cell best a e
    last_less w =
        let f = all-at none m.roomy.fine w.j w.known in
        let p = (m.done.row (a - (at ts w.j).u) (omega (arith, m.low))).most (at ts w.j).from w.late f.leaves w.before in
        let g = m.part.goes w.j (a - (at ts w.j).u) w.known (omega (arith, w.low)) (omega arith) in
        rw (← w.to) (omega (arith, w.sum))

    made-most : (e b : ℕ) → e < 32 → Walk ts s e a b → b < cell best a e
    made-most e b l w =
        ⊎_elim
        (λ q.
        let y = (m.done.row (a - 1) (omega (arith, m.low))).most e 0 l (walk_none q.0) in
        omega (arith, q.1, m.part.kept (a - 1) e (omega (arith, m.low)) l))
        last_less
        (walk-last w)

    filled_more : Filled ts s best (a + 1)
    filled_more =
        record {
          row = λ b h. ⊎_elim
              (λ (q : b ≡ a). rw q (record { real = m.part.real; most = made-most }))
              (λ (q : b < a). m.done.row b q)
              (eq-or-lt_of_le (omega arith));
        }

  pub making-end : {best : List ℕ} {a i : ℕ} → i ≡ length ts → Making ts s best a i → Roomy ts s best × Filled ts s best (a + 1)
  making-end q m = (m.roomy, filled_more (rw q at m))

  -- a row that is a copy of the one before is in the making
  module _ {old best : List ℕ} {p : ℕ} (z : Roomy ts s old) (h : p < 238) (f : Filled ts s old (p + 1)) (d : Copied old best p 32) where
    copy-old : (a e : ℕ) → a < p + 1 → e < 32 → cell best a e ≡ cell old a e
    copy-old a e k l = d.same (a * 32 + e) (omega arith)

    copy-new : (e : ℕ) → e < 32 → cell best (p + 1) e ≡ cell old p e
    copy-new e l = let q : (p + 1) * 32 + e ≡ p * 32 + 32 + e = omega arith in ap (λ (x : ℕ). get_or best x 0) q ∙ d.here e l

    pub making-none : Making ts s best (p + 1) 0
    making-none =
        let r = f.row p (omega arith) in
        record {
          roomy = record { fine = z.fine; start = z.start; size = d.size ∙ z.size };
          low = omega arith;
          high = omega arith;
          done = record { row = λ a k. exact_same (λ e l. copy-old a e k l) (f.row a k) };
          part = record {
            real = λ e b l x. walk-wide (omega arith) (r.real e b l (sym (copy-new e l) ∙ x));
            kept = λ b e q l. let k : b ≡ p = omega arith in rw k (omega (arith, copy-new e l, copy-old p e (omega arith) l));
            goes = λ j b l. absurd (omega arith);
          };
        }

  -- the first row
  module _ {best : List ℕ} (fine : All (InRange 32) ts) (d : First best s) where
    at_zero : (e : ℕ) → cell best 0 e ≡ get_or best e 0
    at_zero e = let q : 0 * 32 + e ≡ e = omega arith in ap (λ (x : ℕ). get_or best x 0) q

    first-real : (e b : ℕ) → e < 32 → get_or best e 0 ≡ suc b → Walk ts s e 0 b
    first-real e b l q =
        dite (ℕ_discrete e s)
        (λ (z : e ≡ s).
        let x : get_or best s 0 ≡ suc b = rw z at q in
        let y : b ≡ 0 = omega (arith, d.one) in
        rw y (walk_none (sym z)))
        (λ o. absurd (omega (arith, d.others e l o)))

    first-most : (e b : ℕ) → Walk ts s e 0 b → b < cell best 0 e
    first-most e b w =
        let p = walk-zero fine refl w in
        let q = at_zero s in
        rw (← p.0) (omega (arith, p.1, d.one))

    pub filled-first : Filled ts s best 1
    filled-first =
        record {
          row = λ a k.
              let q : a ≡ 0 = omega arith in
              rw q (record { real = λ e b l x. first-real e b l (sym (at_zero e) ∙ x); most = λ e b l w. first-most e b w });
        }
