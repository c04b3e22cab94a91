-- That two outcomes of `write_walk` agree.
use mathlib.Core.Path.{◌≡◌, refl, ap}
use mathlib.Core.Logic.{inl, inr, ⊎_elim, dite}
use mathlib.Core.List.{List}
use Prim.Native.Nat.{ℕ, ◌+◌, ◌≤◌, ◌<◌}
use native.Mathlib.Decide.{dec_lt}
use native.Mathlib.Omega.{arith}
use lib.ListN.{length}
use Rattle.model.specs.Table.{Transition}
use Rattle.criterion.specs.declared.Goal.{Goal}
use Rattle.table.specs.declared.Row.{Row}
use Rattle.table.specs.Rows.{rows}
use Rattle.table.specs.Fit.{Sound}
use Rattle.std.specs.Prelude.{Option, Some, None}
use Rattle.walks.specs.Walks.{Least, ShownLeast, ShownIfAny, WalkOutcome, WalksAgree}

-- two least numbers are one
pub least-only : (P : ℕ → Type 0) (r q : Option ℕ) → Least P r → Least P q → r ≡ q
least-only P (Some k) (Some j) a b =
    dite (dec_lt k j) (λ h. absurd (b.1 k h a.0)) (λ h. dite (dec_lt j k) (λ g. absurd (a.1 j g b.0)) (λ g. ap Some (omega arith)))
least-only P (Some k) None a b = absurd (b k a.0)
least-only P None (Some j) a b = absurd (a j b.0)
least-only P None None a b = refl

-- two walks that are shown have one end
pub walks-agree : {goal : Goal} {ts : List Transition} {k p : ℕ} {old a b : List ℕ} {x y : ℕ} → ShownLeast goal ts k p old a x → ShownLeast goal ts k p old b y
    → WalksAgree goal ts k p old a x b y
walks-agree s t =
    let e = least-only _ (Some s.m) (Some t.m) (s.walk.to, s.least) (t.walk.to, t.least) in inl (s, t, (cc))

module _ (goal : Goal) {c : List Row} {n k p : ℕ} {old : List ℕ} where
  pub walk-outcome : {out : List ℕ} {x : ℕ} → Sound c n → k < n → p + 239 ≤ length old → ShownIfAny goal (rows c n) k p old out x → WalkOutcome goal c n k p old out x
  walk-outcome z h r =
      ⊎_elim (λ s. inl (record { sound = z; known = h; room = r; after = record { m = s.m; to = s.walk.to } }, s))
      (λ e. inr (λ q. e.0 q.after, e.1, e.2))

  -- two outcomes show such walks, or write nothing
  pub write-walk-agree : {a b : List ℕ} {x y : ℕ} → WalkOutcome goal c n k p old a x → WalkOutcome goal c n k p old b y → WalksAgree goal (rows c n) k p old a x b y
  write-walk-agree (inl s) (inl t) = walks-agree s.1 t.1
  write-walk-agree (inl s) (inr f) = absurd (f.0 s.0)
  write-walk-agree (inr e) (inl t) = absurd (e.0 t.0)
  write-walk-agree (inr e) (inr f) = inr (e.1, f.1, e.2, f.2)
