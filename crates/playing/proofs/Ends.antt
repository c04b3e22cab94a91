-- What moves can come to. `Q` is anything that every move keeps: to be a run, or to be reached by calls. A gap can always be let pass, with the
-- responses issued as they fall due; all that waits can be issued; and every word that activates a trace can be played.
use mathlib.Core.Path.{◌≡◌, refl, sym, ap, ◌∙◌, subst}
use mathlib.Core.Logic.{◌⊎◌, inl, inr, ⊎_elim, dite}
use mathlib.Core.List.{List, [], ◌∷◌, ◌++◌, map, map-append, append_assoc, append-nil}
use Prim.Native.Nat.{ℕ, zero, suc, ◌+◌, ◌-◌, ◌≤◌, ◌<◌, ◌^◌}
use native.Mathlib.Omega.{arith}
use native.Mathlib.Decide.{dec_lt}
use lib.ListN.{length, length-append, length-map}
use Rattle.model.specs.Lists.{In, Both, both_cons}
use Rattle.model.specs.Table.{Transition, Machine, at}
use Rattle.model.specs.Trace.{Trace, steps}
use Rattle.model.specs.Word.{Symbol, Fits, Takes}
use Rattle.model.proofs.Lists.{in_map, in-append}
use Rattle.playing.specs.Runs.{Wait, Play, aged, passed, taken, given, Open}

-- the first of those with the least time left
pub record Soonest (w : List Wait) : Type 0 where
  pub t : ℕ
  pub xs : List Wait
  pub x : Wait
  pub ys : List Wait
  pub stands : w ≡ xs ++ (x ∷ ys)
  pub at_t : x.left ≡ t
  pub least : (y : Wait) → In y w → t ≤ y.left
  pub before : (y : Wait) → In y xs → t < y.left

soonest : (y : Wait) (w : List Wait) → Soonest (y ∷ w)
soonest y [] = record {
  t = y.left;
  xs = [];
  x = y;
  ys = [];
  stands = refl;
  at_t = refl;
  least = λ z m. ⊎_elim (λ e. rw e (omega arith))
      (λ n. absurd n) m;
  before = λ z m. absurd m;
}
soonest y (v ∷ w) = by (soonest v w)
  where
    by : Soonest (v ∷ w) → Soonest (y ∷ (v ∷ w))
    by s = dite (dec_lt s.t y.left)
        (λ h. record {
          t = s.t;
          xs = y ∷ s.xs;
          x = s.x;
          ys = s.ys;
          stands = ap (λ (l : List Wait). y ∷ l) s.stands;
          at_t = s.at_t;
          least = λ z m. ⊎_elim (λ e. rw e (omega arith)) (s.least z) m;
          before = λ z m. ⊎_elim (λ e. rw e h) (s.before z) m;
        })
        (λ n. record {
          t = y.left;
          xs = [];
          x = y;
          ys = v ∷ w;
          stands = refl;
          at_t = refl;
          least = λ z m. ⊎_elim (λ e. rw e (omega arith)) (λ k. omega (arith, s.least z k)) m;
          before = λ z m. absurd m;
        })

module _ (m : Machine) (Q : Play → Type 0)
    (wait : (p : Play) → Q p → (t : ℕ) → t < 2 ^ 32 → ((x : Wait) → In x p.waiting → t ≤ x.left) → Q (passed t p))
    (input : (p : Play) → Q p → (letter i : ℕ) → Open 256 m.transitions p.state letter p.timer i
    → ((x : Wait) → In x p.waiting → 0 < x.left) → length p.trace < 512 → Q (taken 256 i (at m.transitions i) p))
    (output : (p : Play) → Q p → (xs : List Wait) (x : Wait) (ys : List Wait) → p.waiting ≡ xs ++ (x ∷ ys) → x.left ≡ 0
    → ((y : Wait) → In y xs → 0 < y.left) → Q (given xs x ys p))
    (soon : (p : Play) → Q p → (x : Wait) → In x p.waiting → x.left < 2 ^ 32) where
  -- no input since p, and g parts of a tick more
  pub record After (p : Play) (g : ℕ) : Type 0 where
    pub play : Play
    pub good : Q play
    pub state : play.state ≡ p.state
    pub trace : play.trace ≡ p.trace
    pub symbols : play.symbols ≡ p.symbols
    pub timer : play.timer ≡ p.timer + g

  -- the next response is issued, when it is due
  module _ (p : Play) (good : Q p) (s : Soonest p.waiting) where
    parts : map (aged s.t) p.waiting ≡ map (aged s.t) s.xs ++ (aged s.t s.x ∷ map (aged s.t) s.ys)
    parts = ap (map (aged s.t)) s.stands ∙ map-append (aged s.t) s.xs (s.x ∷ s.ys)

    abbrev issued : Play
    issued = given (map (aged s.t) s.xs) (aged s.t s.x) (map (aged s.t) s.ys) (passed s.t p)

    issue : s.t < 2 ^ 32 → Q issued
    issue h = output (passed s.t p) (wait p good s.t h s.least) (map (aged s.t) s.xs) (aged s.t s.x) (map (aged s.t) s.ys) parts
        (omega (arith, s.at_t))
        (λ y i. let b = in_map (aged s.t) y s.xs i in let e : y.left ≡ b.0.left - s.t = ap (λ (z : Wait). z.left) b.2 in omega (
          arith,
          s.before b.0 b.1,
        ))

    fewer : suc (length issued.waiting) ≡ length p.waiting
    fewer = omega (
      arith,
      length-append (map (aged s.t) s.xs) (map (aged s.t) s.ys),
      length-map s.xs (aged s.t),
      length-map s.ys (aged s.t),
      ap length s.stands,
      length-append s.xs (s.x ∷ s.ys),
    )

  -- a gap g passes, and then none is due
  pub record Quiet (p : Play) (g : ℕ) : Type 0 where
    pub later : After p g
    pub none-due : (x : Wait) → In x later.play.waiting → 0 < x.left

  empty-or : (w : List Wait) → (w ≡ []) ⊎ Soonest w
  empty-or [] = inl refl
  empty-or (y ∷ w) = inr (soonest y w)

  passes : (p : Play) → Q p → (g : ℕ) → g < 2 ^ 32 → ((x : Wait) → In x p.waiting → g < x.left) → Quiet p g
  passes p good g h f = record {
    later = record { play = passed g p; good = wait p good g h (λ x i. omega (arith, f x i)); state = refl; trace = refl; symbols = refl; timer = refl };
    none-due = λ x i. let b = in_map (aged g) x p.waiting i in let e : x.left ≡ b.0.left - g = ap (λ (z : Wait). z.left) b.2 in omega (
      arith,
      f b.0 b.1,
    );
  }

  onward : (p : Play) (good : Q p) (s : Soonest p.waiting) (g : ℕ) → s.t ≤ g → Quiet (issued p good s) (g - s.t) → Quiet p g
  onward p good s g h q = let a = q.later in record {
    later = record { play = a.play; good = a.good; state = a.state; trace = a.trace; symbols = a.symbols; timer = omega (arith, a.timer) };
    none-due = q.none-due;
  }

  pub advance : (n : ℕ) (p : Play) → length p.waiting ≤ n → Q p → (g : ℕ) → g < 2 ^ 32 → Quiet p g
  advance zero p few good g h =
      ⊎_elim (λ e. passes p good g h (λ x i. absurd (rw e at i))) (λ s. absurd (omega (arith, fewer p good s))) (empty-or p.waiting)
  advance (suc n) p few good g h =
      ⊎_elim (λ e. passes p good g h (λ x i. absurd (rw e at i)))
      (λ s. dite (dec_lt g s.t) (λ k. passes p good g h (λ x i. omega (arith, s.least x i)))
      (λ k. onward p good s g (omega arith) (advance n (issued p good s) (omega (
        arith,
        fewer p good s,
      )) (issue p good s (omega arith)) (g - s.t) (omega arith))))
      (empty-or p.waiting)

  -- none waits any more
  pub record Finished (p : Play) : Type 0 where
    pub play : Play
    pub good : Q play
    pub trace : play.trace ≡ p.trace
    pub symbols : play.symbols ≡ p.symbols
    pub none : play.waiting ≡ []

  -- all that waits can be issued
  pub finish : (n : ℕ) (p : Play) → length p.waiting ≤ n → Q p → Finished p
  finish zero p few good =
      ⊎_elim (λ e. record { play = p; good = good; trace = refl; symbols = refl; none = e }) (λ s. absurd (omega (
        arith,
        fewer p good s,
      ))) (empty-or p.waiting)
  finish (suc n) p few good =
      ⊎_elim (λ e. record { play = p; good = good; trace = refl; symbols = refl; none = e })
      (λ s.
      let here : In s.x p.waiting = rw s.stands ((in-append s.x s.xs (s.x ∷ s.ys)).1 (inr (inl refl))) in
      let f = finish n (issued p good s) (omega (arith, fewer p good s)) (issue p good s (omega (arith, soon p good s.x here, s.at_t))) in
      record { play = f.play; good = f.good; trace = f.trace; symbols = f.symbols; none = f.none })
      (empty-or p.waiting)

  -- the inputs of l are taken, at the times of ss
  pub record Played (p : Play) (l : List ℕ) (ss : List Symbol) : Type 0 where
    pub play : Play
    pub good : Q play
    pub trace : play.trace ≡ p.trace ++ l
    pub symbols : play.symbols ≡ p.symbols ++ ss

  module _ (highs : (i : ℕ) → i < length m.transitions → (at m.transitions i).v ≤ 4095) where
    abbrev ts : List Transition
    ts = m.transitions

    -- one input, after its gap
    module _ (p : Play) (good : Q p) (fresh : p.timer ≡ 0) (i : ℕ) (known : i < length ts) (leaves : (at ts i).from ≡ p.state) (s : Symbol) (tk : Takes 256
        (at ts i) s)
        (few : length p.trace < 512) where
      q : Quiet p s.gap
      q = advance (length p.waiting) p (omega arith) good s.gap (omega (arith, tk.fits.within, highs i known))

      abbrev p₁ : Play
      p₁ = q.later.play

      time : p₁.timer ≡ s.gap
      time = omega (arith, q.later.timer)

      abbrev p₂ : Play
      p₂ = taken 256 i (at ts i) p₁

      good₂ : Q p₂
      good₂ = input p₁ q.later.good s.letter i
          (record {
            known = known;
            leaves = leaves ∙ sym q.later.state;
            asks = sym tk.letter;
            fits = subst (Fits 256 (at ts i)) (sym time)
                tk.fits;
          })
          q.none-due (subst (λ (l : List ℕ). length l < 512) (sym q.later.trace) few)

      trace₂ : p₂.trace ≡ p.trace ++ (i ∷ [])
      trace₂ = ap (λ (l : List ℕ). l ++ (i ∷ [])) q.later.trace

      symbols₂ : p₂.symbols ≡ p.symbols ++ (s ∷ [])
      symbols₂ =
          ap (λ (l : List Symbol). l ++ (record { letter = (at ts i).input; gap = p₁.timer } ∷ [])) q.later.symbols
          ∙ ap (λ (n : ℕ). p.symbols ++ (record { letter = n; gap = p₁.timer } ∷ [])) (sym tk.letter)
          ∙ ap (λ (n : ℕ). p.symbols ++ (record { letter = s.letter; gap = n } ∷ [])) time

    pub word : (l : List ℕ) (ss : List Symbol) (p : Play) (e : ℕ) → Q p → p.timer ≡ 0 → Trace ts p.state l e → Both (Takes 256) (steps ts l) ss
        → length p.trace + length l ≤ 512 → Played p l ss
    unfolding steps
    word [] [] p e good fresh path b few = record { play = p; good = good; trace = sym (append-nil p.trace); symbols = sym (append-nil p.symbols) }
    word [] (s ∷ ss) p e good fresh path b few = elim b [ ]
    word (i ∷ l) [] p e good fresh path b few = elim b [ ]
    word (i ∷ l) (s ∷ ss) p e good fresh path (both_cons tk b) few =
        let k : length p.trace < 512 = omega arith in
        let x = p₂ p good fresh i path.0 path.1 s tk k in
        let t₂ : x.trace ≡ p.trace ++ (i ∷ []) = trace₂ p good fresh i path.0 path.1 s tk k in
        let y₂ : x.symbols ≡ p.symbols ++ (s ∷ []) = symbols₂ p good fresh i path.0 path.1 s tk k in
        let r : Played x l ss = word l ss x e (good₂ p good fresh i path.0 path.1 s tk k) refl path.2 b (omega (
          arith,
          ap length t₂,
          length-append p.trace (i ∷ []),
        )) in
        record {
          play = r.play;
          good = r.good;
          trace = r.trace ∙ ap (λ (z : List ℕ). z ++ l) t₂ ∙ append_assoc p.trace (i ∷ []) l;
          symbols = r.symbols ∙ ap (λ (z : List Symbol). z ++ ss) y₂ ∙ append_assoc p.symbols (s ∷ []) ss;
        }
