-- What every run keeps: the responses issued stand in the order of their due times, the others wait, and what waits is due after what was issued.
use mathlib.Core.Path.{◌≡◌, refl, sym, ap, ◌∙◌, subst}
use mathlib.Core.Logic.{◌⊎◌, inl, inr, ⊎_elim}
use mathlib.Core.List.{List, [], ◌∷◌, ◌++◌, map, map-append, map-map}
use Prim.Native.Nat.{ℕ, suc, ◌+◌, ◌*◌, ◌-◌, ◌≤◌, ◌<◌}
use native.Mathlib.Omega.{arith}
use native.Mathlib.Nat.{eq-or-lt_of_le}
use lib.ListN.{length, get_or, length-append, get_or-append}
use lib.Seq.{get_or-append_seam}
use Rattle.model.specs.Lists.{In, Sorted}
use Rattle.model.specs.Table.{Transition, Machine, at}
use Rattle.model.specs.Order.{Response}
use Rattle.model.proofs.Lists.{in-append, in_map, in_image, sorted-append}
use Rattle.playing.specs.Runs.{Wait, Play, begin, aged, passed, taken, given, Run, starts, waits, inputs, outputs}

abbrev pub no_response : Response
no_response = record { step = 0; output = 0; time = 0 }

-- the response owed for step i
abbrev pub owe : List Response → ℕ → Response
owe o i = get_or o i no_response

abbrev pub Sooner : List Response → ℕ → ℕ → Type 0
Sooner o i j = ((owe o i).time < (owe o j).time) ⊎ (((owe o i).time ≡ (owe o j).time) × (i < j))

abbrev pub step_of : Wait → ℕ
step_of x = x.step

pub record Kept (p : Play) : Type 0 where
  pub order : List ℕ
  pub issues : p.issued ≡ map (owe p.owed) order
  pub sorted : Sorted (Sooner p.owed) order
  pub known : (i : ℕ) → In i order → i < length p.owed
  pub past : (i : ℕ) → In i order → (owe p.owed i).time ≤ p.now
  pub ahead : (i : ℕ) (x : Wait) → In i order → In x p.waiting → Sooner p.owed i x.step
  pub rises : Sorted ◌<◌ (map step_of p.waiting)
  pub here : (x : Wait) → In x p.waiting → x.step < length p.owed
  pub owes : (x : Wait) → In x p.waiting → owe p.owed x.step ≡ record { step = suc x.step; output = x.letter; time = x.left + p.now }
  pub covers : (i : ℕ) → i < length p.owed → In i order ⊎ ((x : Wait) × In x p.waiting × (x.step ≡ i))

pub map_same : {A B : Type 0} (f g : A → B) (l : List A) → ((x : A) → In x l → f x ≡ g x) → map f l ≡ map g l
map_same f g [] h = refl
map_same f g (x ∷ l) h = let a : f x ≡ g x = h x (inl refl) in let b : map f l ≡ map g l = map_same f g l (λ y m. h y (inr m)) in cc

pub sorted-same : (R Q : ℕ → ℕ → Type 0) (l : List ℕ) → ((i j : ℕ) → In i l → In j l → R i j → Q i j) → Sorted R l → Sorted Q l
sorted-same R Q [] h s = tt
sorted-same R Q (i ∷ l) h s = (λ j m. h i j (inl refl) (inr m) (s.0 j m), sorted-same R Q l (λ a b x y. h a b (inr x) (inr y)) s.1)

start-kept : (m : Machine) → Kept (begin m)
start-kept m = record {
  order = [];
  issues = refl;
  sorted = tt;
  known = λ i x. absurd x;
  past = λ i x. absurd x;
  ahead = λ i x y z. absurd y;
  rises = tt;
  here = λ x y. absurd y;
  owes = λ x y. absurd y;
  covers = λ i h. absurd (omega arith);
}

module _ (p : Play) (k : Kept p) where
  -- time
  module _ (t : ℕ) (soon : (x : Wait) → In x p.waiting → t ≤ x.left) where
    back : (x : Wait) → In x (map (aged t) p.waiting) → (y : Wait) × In y p.waiting × (x ≡ aged t y)
    back x m = in_map (aged t) x p.waiting m

    same_left : (y : Wait) → In y p.waiting → y.left + p.now ≡ (y.left - t) + (p.now + t)
    same_left y m = omega (arith, soon y m)

    pub time-kept : Kept (passed t p)
    time-kept = record {
      order = k.order;
      issues = k.issues;
      sorted = k.sorted;
      known = k.known;
      past = λ i m. omega (arith, k.past i m);
      ahead = λ i x mi mx. let b : _ = back x mx in rw b.2 (k.ahead i b.0 mi b.1);
      rises = rw (map-map step_of (aged t) p.waiting) k.rises;
      here = λ x mx. let b : _ = back x mx in rw b.2 (k.here b.0 b.1);
      owes = λ x mx. let b : _ = back x mx in rw (b.2, k.owes b.0 b.1, same_left b.0 b.1);
      covers = λ i h. ⊎_elim inl (λ z. inr (aged t z.0, in_image (aged t) z.0 p.waiting z.1, z.2)) (k.covers i h);
    }

  -- an input
  module _ (q i : ℕ) (a : Transition) (quick : 1 ≤ a.d * q) where
    abbrev o : List Response
    o = p.owed

    abbrev new : Response
    new = record { step = suc (length o); output = a.output; time = a.d * q + p.now }

    abbrev comes : Wait
    comes = record { step = length o; letter = a.output; left = a.d * q }

    abbrev o' : List Response
    o' = o ++ (new ∷ [])

    old : (j : ℕ) → j < length o → owe o' j ≡ owe o j
    old j h = get_or-append o (new ∷ []) no_response j h

    last : owe o' (length o) ≡ new
    last = get_or-append_seam o new [] no_response

    longer : length o' ≡ suc (length o)
    longer = length-append o (new ∷ []) ∙ omega arith

    sooner : (j l : ℕ) → j < length o → l < length o → Sooner o j l → Sooner o' j l
    sooner j l hj hl s = rw (old j hj, old l hl) s

    on-wait : {P : Wait → Type 0} → ((x : Wait) → In x p.waiting → P x) → P comes → (x : Wait) → In x (p.waiting ++ (comes ∷ [])) → P x
    on-wait {P} f g x m = ⊎_elim (f x) (⊎_elim (λ e. subst P (sym e) g) (λ z. absurd z)) ((in-append x p.waiting (comes ∷ [])).0 m)

    after : (j : ℕ) → In j k.order → Sooner o' j (length o)
    after j m = inl (rw (old j (k.known j m), last) (omega (arith, k.past j m)))

    rises' : Sorted ◌<◌ (map step_of (p.waiting ++ (comes ∷ [])))
    rises' = rw (map-append step_of p.waiting (comes ∷ [])) ((sorted-append ◌<◌ (map step_of p.waiting) (length o ∷ [])).1 (
      k.rises,
      (λ j m. absurd m, tt),
      λ j l mj ml. let b : _ = in_map step_of j p.waiting mj in let h : b.0.step < length o = k.here b.0 b.1 in
          let ej : j ≡ b.0.step = b.2 in ⊎_elim (λ e. omega arith) (λ z. absurd z) ml,
    ))

    covers' : (j : ℕ) → (j ≡ length o) ⊎ (j < length o) → In j k.order ⊎ ((x : Wait) × In x (p.waiting ++ (comes ∷ [])) × (x.step ≡ j))
    covers' j (inl e) = inr (comes, (in-append comes p.waiting (comes ∷ [])).1 (inr (inl refl)), sym e)
    covers' j (inr h) = ⊎_elim inl (λ z. inr (z.0, (in-append z.0 p.waiting (comes ∷ [])).1 (inl z.1), z.2)) (k.covers j h)

    pub input-kept : Kept (taken q i a p)
    input-kept = record {
      order = k.order;
      issues = k.issues ∙ map_same (owe o) (owe o') k.order (λ j m. sym (old j (k.known j m)));
      sorted = sorted-same (Sooner o) (Sooner o') k.order (λ j l mj ml. sooner j l (k.known j mj) (k.known l ml)) k.sorted;
      known = λ j m. omega (arith, longer, k.known j m);
      past = λ j m. rw (old j (k.known j m)) (k.past j m);
      ahead = λ j x mj. on-wait {P = λ x. Sooner o' j x.step} (λ y my. sooner j y.step (k.known j mj) (k.here y my) (k.ahead j y mj my))
          (after j mj) x;
      rises = rises';
      here = on-wait {P = λ x. x.step < length o'} (λ y my. omega (arith, longer, k.here y my)) (omega (arith, longer));
      owes = on-wait {P = λ x. owe o' x.step ≡ record { step = suc x.step; output = x.letter; time = x.left + p.now }} (λ y my. old y.step
          (k.here y my) ∙ k.owes y my) last;
      covers = λ j h. covers' j (⊎_elim (λ e. inl (omega (arith, longer))) (λ g. inr (omega (arith, longer))) (eq-or-lt_of_le h));
    }

  -- an output
  module _ (xs : List Wait) (x : Wait) (ys : List Wait) (e : p.waiting ≡ xs ++ (x ∷ ys)) (due : x.left ≡ 0) (rest : (y : Wait) → In y xs
      → 0 < y.left) where
    x-in : In x p.waiting
    x-in = rw e ((in-append x xs (x ∷ ys)).1 (inr (inl refl)))

    xs-in : (y : Wait) → In y xs → In y p.waiting
    xs-in y m = rw e ((in-append y xs (x ∷ ys)).1 (inl m))

    ys-in : (y : Wait) → In y ys → In y p.waiting
    ys-in y m = rw e ((in-append y xs (x ∷ ys)).1 (inr (inr m)))

    wider : (y : Wait) → In y (xs ++ ys) → In y p.waiting
    wider y m = ⊎_elim (xs-in y) (ys-in y) ((in-append y xs ys).0 m)

    is-now : owe p.owed x.step ≡ record { step = suc x.step; output = x.letter; time = p.now }
    is-now = let z : x.left + p.now ≡ p.now = omega arith in k.owes x x-in
        ∙ ap (λ (n : ℕ). record { step = suc x.step; output = x.letter; time = n }) z

    time-of : (y : Wait) → In y p.waiting → (owe p.owed y.step).time ≡ y.left + p.now
    time-of y m = ap (λ (r : Response). r.time) (k.owes y m)

    parts : Sorted ◌<◌ (map step_of xs ++ (x.step ∷ map step_of ys))
    parts = rw (← map-append step_of xs (x ∷ ys), ← e) k.rises

    split : Sorted ◌<◌ (map step_of xs) × Sorted ◌<◌ (x.step ∷ map step_of ys) × ((i j : ℕ) → In i (map step_of xs) → In j (x.step ∷ map step_of ys) → i < j)
    split = (sorted-append ◌<◌ (map step_of xs) (x.step ∷ map step_of ys)).0 parts

    rises'' : Sorted ◌<◌ (map step_of (xs ++ ys))
    rises'' = rw (map-append step_of xs ys) ((sorted-append ◌<◌ (map step_of xs) (map step_of ys)).1 (
      split.0,
      split.1.1,
      λ i j mi mj. split.2 i j mi (inr mj),
    ))

    follows : (y : Wait) → In y (xs ++ ys) → Sooner p.owed x.step y.step
    follows y m = ⊎_elim
        (λ h. inl (omega (arith, time-of x x-in, time-of y (xs-in y h), rest y h)))
        (λ h. let lt : x.step < y.step = split.1.0 y.step (in_image step_of y ys h) in
        ⊎_elim (λ z. inr (omega (arith, time-of x x-in, time-of y (ys-in y h)), lt)) (λ z. inl (omega (
          arith,
          time-of x x-in,
          time-of y (ys-in y h),
        ))) (zero_or y))
        ((in-append y xs ys).0 m)
      where
        zero_or : (y : Wait) → (0 ≡ y.left) ⊎ (0 < y.left)
        zero_or y = eq-or-lt_of_le (omega arith)

    covers'' : (j : ℕ) → In j k.order ⊎ ((y : Wait) × In y p.waiting × (y.step ≡ j))
        → In j (k.order ++ (x.step ∷ [])) ⊎ ((y : Wait) × In y (xs ++ ys) × (y.step ≡ j))
    covers'' j (inl m) = inl ((in-append j k.order (x.step ∷ [])).1 (inl m))
    covers'' j (inr z) = ⊎_elim
        (λ h. inr (z.0, (in-append z.0 xs ys).1 (inl h), z.2))
        (⊎_elim (λ f. inl ((in-append j k.order (x.step ∷ [])).1 (inr (inl (sym z.2
        ∙ ap step_of f))))) (λ h. inr (z.0, (in-append z.0 xs ys).1 (inr h), z.2)))
        ((in-append z.0 xs (x ∷ ys)).0 (rw (← e) z.1))

    on-order : {P : ℕ → Type 0} → ((j : ℕ) → In j k.order → P j) → P x.step → (j : ℕ) → In j (k.order ++ (x.step ∷ [])) → P j
    on-order {P} f g j m = ⊎_elim (f j) (⊎_elim (λ h. subst P (sym h) g) (λ z. absurd z)) ((in-append j k.order (x.step ∷ [])).0 m)

    pub output-kept : Kept (given xs x ys p)
    output-kept = record {
      order = k.order ++ (x.step ∷ []);
      issues = rw (map-append (owe p.owed) k.order (x.step ∷ []), is-now, ← k.issues);
      sorted = (sorted-append (Sooner p.owed) k.order (x.step ∷ [])).1 (
        k.sorted,
        (λ j m. absurd m, tt),
        λ i j mi mj. ⊎_elim (λ h. rw h (k.ahead i x mi x-in)) (λ z. absurd z) mj,
      );
      known = on-order {P = λ j. j < length p.owed} k.known (k.here x x-in);
      past = on-order {P = λ j. (owe p.owed j).time ≤ p.now} k.past (omega (arith, time-of x x-in));
      ahead = λ j y mj my. on-order {P = λ j. Sooner p.owed j y.step} (λ i mi. k.ahead i y mi (wider y my)) (follows y my) j mj;
      rises = rises'';
      here = λ y m. k.here y (wider y m);
      owes = λ y m. k.owes y (wider y m);
      covers = λ j h. covers'' j (k.covers j h);
    }

-- every run keeps it, where each delay is positive
pub kept : {m : Machine} {q : ℕ} → ((i : ℕ) → i < length m.transitions → 1 ≤ (at m.transitions i).d * q) → {p : Play} → Run m q p → Kept p
kept {m} {q} quick starts = start-kept m
kept {m} {q} quick (waits {p} t r h) = time-kept p (kept quick r) t h
kept {m} {q} quick (inputs {p} letter i r f h) = input-kept p (kept quick r) q i (at m.transitions i) (quick i f.known)
kept {m} {q} quick (outputs {p} xs x ys r e d h) = output-kept p (kept quick r) xs x ys e d h
