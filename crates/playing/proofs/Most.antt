-- In a run of a valid table never more wait than the ceiling, and never more than 240.
use mathlib.Core.Path.{◌≡◌, refl, sym, ap, ◌∙◌, subst}
use mathlib.Core.List.{List, [], ◌∷◌}
use Prim.Native.Nat.{ℕ, zero, suc, ◌≤◌, ◌<◌}
use native.Mathlib.Omega.{arith}
use native.Mathlib.Nat.{mul-one}
use lib.ListN.{length, length-map, length-append}
use Rattle.model.specs.Lists.{In}
use Rattle.model.specs.Table.{Transition, Machine, InRange, Valid, at, none}
use Rattle.model.proofs.Lists.{all-at}
use Rattle.playing.specs.Runs.{Wait, Play, aged, Run, starts, waits, inputs, outputs}
use Rattle.playing.specs.Most.{greatest_d, least_u, most_waiting}
use Rattle.playing.proofs.Few.{few, at_most, left-most}

greatest-is : (ts : List Transition) (i : ℕ) → i < length ts → (at ts i).d ≤ greatest_d ts
greatest-is [] i h = absurd (omega arith)
greatest-is (t ∷ ts) zero h = omega arith
greatest-is (t ∷ ts) (suc i) h = omega (arith, greatest-is ts i (omega arith))

least_first : (u : ℕ) (ts : List Transition) → least_u u ts ≤ u
least_first u [] = omega arith
least_first u (t ∷ ts) = omega (arith, least_first u ts)

least-is : (u : ℕ) (ts : List Transition) (i : ℕ) → i < length ts → least_u u ts ≤ (at ts i).u
least-is u [] i h = absurd (omega arith)
least-is u (t ∷ ts) zero h = omega arith
least-is u (t ∷ ts) (suc i) h = omega (arith, least-is u ts i (omega arith))

-- it is positive where all are
least_pos : (u : ℕ) (ts : List Transition) → 1 ≤ u → ((i : ℕ) → i < length ts → 1 ≤ (at ts i).u) → 1 ≤ least_u u ts
least_pos u [] h f = h
least_pos u (t ∷ ts) h f = omega (arith, f 0 (omega arith), least_pos u ts h (λ i k. f (suc i) (omega arith)))

-- without transitions none waits
none_waits : {m : Machine} {q : ℕ} {p : Play} → length m.transitions ≡ 0 → Run m q p → length p.waiting ≡ 0
none_waits e starts = refl
none_waits e (waits {p} t r h) = length-map p.waiting (aged t) ∙ none_waits e r
none_waits e (inputs letter i r o h) = absurd (omega (arith, o.known))
none_waits e (outputs {p} xs x ys r f d h) = absurd (omega (arith, none_waits e r, ap length f, length-append xs (x ∷ ys)))

module _ (m : Machine) (valid : Valid m) {p : Play} (r : Run m 256 p) where
  ranged : (i : ℕ) → i < length m.transitions → InRange m.states (at m.transitions i)
  ranged i h = all-at none valid.ranged i h

  -- Theorem 2
  pub at-most-waiting : length p.waiting ≤ most_waiting m.transitions
  at-most-waiting = by m.transitions refl
    where
      by : (ts : List Transition) → m.transitions ≡ ts → length p.waiting ≤ most_waiting ts
      by [] e = omega (arith, none_waits (ap length e) r)
      by (t ∷ ts) e =
          let each : (i : ℕ) → i < length (t ∷ ts) → InRange m.states (at (t ∷ ts) i) = subst (λ (l : List Transition). (i : ℕ) → i < length l
          → InRange m.states (at l i)) e ranged in
          let low : (i : ℕ) → i < length (t ∷ ts) → least_u t.u ts ≤ (at (t ∷ ts) i).u = lows t ts in
          at_most (least_u t.u ts) (greatest_d (t ∷ ts)) 256 m
          (subst (λ (l : List Transition). (i : ℕ) → i < length l → least_u t.u ts ≤ (at l i).u) (sym e) low)
          (subst (λ (l : List Transition). (i : ℕ) → i < length l → (at l i).d ≤ greatest_d (t ∷ ts)) (sym e) (greatest-is (t ∷ ts)))
          (least_pos t.u ts (each 0 (omega arith)).low (λ i h. (each (suc i) (omega arith)).low))
          (omega (arith, greatest-is (t ∷ ts) 0 (omega arith), (each 0 (omega arith)).soon)) (omega arith) r
        where
          lows : (t : Transition) (ts : List Transition) (i : ℕ) → i < length (t ∷ ts) → least_u t.u ts ≤ (at (t ∷ ts) i).u
          lows t ts zero h = least_first t.u ts
          lows t ts (suc i) h = least-is t.u ts i (omega arith)

  -- so 240 records are always enough
  pub at-most-240 : length p.waiting ≤ 240
  at-most-240 = omega (
    arith,
    few 1 240 256 m (λ i h. (ranged i h).low) (λ i h. (ranged i h).late) (omega arith) (omega arith) (omega arith) r,
    mul-one (length p.waiting),
  )

  pub left-most-240 : (x : Wait) → In x p.waiting → x.left ≤ 61440
  left-most-240 x i = left-most 1 240 256 m (λ i h. (ranged i h).low) (λ i h. (ranged i h).late) r x i
