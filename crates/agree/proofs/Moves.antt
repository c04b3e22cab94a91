-- Each accepted move of the player is a move of a run, and what it leaves holds what the run has come to.
use mathlib.Core.Path.{◌≡◌, refl, sym, ap, ◌∙◌, subst}
use mathlib.Core.List.{List, [], ◌∷◌, ◌++◌, map, map-append, map-map}
use Prim.Native.Nat.{ℕ, zero, suc, ◌+◌, ◌*◌, ◌-◌, ◌≤◌, ◌<◌}
use native.Mathlib.Omega.{arith}
use lib.ListN.{length, get_or, take, drop, length-map, length-take, length-append, length-drop}
use lib.Seq.{take_at, get_or-append_seam, drop-append-add, split_at}
use Rattle.model.specs.Lists.{In, All}
use Rattle.model.specs.Word.{Fits}
use Rattle.model.specs.Table.{Machine, Transition, Valid, at}
use Rattle.model.proofs.Lists.{all_in, in_image, get_or-map, take-map, drop-map}
use Rattle.records.specs.declared.Pending.{Pending}
use Rattle.records.specs.Record.{blank}
use Rattle.player.specs.declared.Config.{Config}
use Rattle.model.specs.Answers.{Fields}
use Rattle.player.specs.Moves.{waiting_in, FirstDue, TimeDone, OutputDone}
use Rattle.playing.specs.Runs.{Wait, Play, aged, passed, taken, given, Run, waits, inputs, outputs, Open}
use Rattle.playing.proofs.Replayed.{capped}
use Rattle.agree.specs.Holds.{coded, Holds}

abbrev pub no-wait : Wait
no-wait = record { step = 0; letter = 0; left = 0 }

-- a part of what is coded is the code of a part
module _ (ws : List Wait) (bs : List Pending) (b : Pending) (cs : List Pending) (e : map coded ws ≡ bs ++ (b ∷ cs)) where
  abbrev n : ℕ
  n = length bs

  inside : n < length ws
  inside = omega (arith, length-map ws coded, ap length e, length-append bs (b ∷ cs))

  abbrev xs : List Wait
  xs = take n ws

  abbrev x : Wait
  x = get_or ws n no-wait

  abbrev ys : List Wait
  ys = drop (suc n) ws

  parts : ws ≡ xs ++ (x ∷ ys)
  parts = split_at ws n no-wait inside

  front : map coded xs ≡ bs
  front = sym (take-map coded n ws) ∙ ap (take n) e ∙ take_at bs (b ∷ cs) n refl

  it : coded x ≡ b
  it = sym (get_or-map coded no-wait blank ws n inside) ∙ ap (λ (r : List Pending). get_or r n blank) e ∙ get_or-append_seam bs b cs blank

  back : map coded ys ≡ cs
  back =
      let s : suc n ≡ length bs + 1 = omega arith in
      sym (drop-map coded (suc n) ws) ∙ ap (drop (suc n)) e ∙ ap (λ (k : ℕ). drop k (bs ++ (b ∷ cs))) s ∙ drop-append-add bs (b ∷ cs) 1

moved : {c₁ c' : Config} {l₁ l' : List Pending} {p : Play} → c' ≡ c₁ → l' ≡ l₁ → Holds c₁ l₁ p → Holds c' l' p
moved {c₁ = c₁} {l' = l'} {p = p} e f x = subst (λ (z : Config). Holds z l' p) (sym e) (subst (λ (z : List Pending). Holds c₁ z p) (sym f) x)

module _ {m : Machine} {c : Config} {l : List Pending} {p : Play} (h : Holds c l p) (r : Run m 256 p) where
  -- what holds of all waiting records holds of each that waits
  each : {P : Pending → Type 0} → All P (waiting_in c l) → (x : Wait) → In x p.waiting → P (coded x)
  each {P} a x i = all_in {P = P} (subst (All P) h.records a) (coded x) (in_image coded x p.waiting i)

  sized : length (take c.waiting l) ≡ c.waiting
  sized = omega (arith, length-take c.waiting l, h.lent)

  module _ {c' : Config} {l' : List Pending} {f : Fields} (t : ℕ) (soon : All (λ x. t ≤ x.left) (waiting_in c l)) (done : TimeDone c l t f c' l') where
    pub time-runs : Run m 256 (passed t p)
    time-runs = waits t r (each soon)

    abbrev older : Pending → Pending
    older x = record { step = x.step; letter = x.letter; left = x.left - t }

    older-sized : length (map older (take c.waiting l)) ≡ c.waiting
    older-sized = length-map (take c.waiting l) older ∙ sized

    pub time-room : length l' ≡ length l
    time-room = ap length done.list ∙ length-append (map older (take c.waiting l)) (drop c.waiting l)
        ∙ omega (arith, older-sized, length-drop c.waiting l, h.lent)

    pub time-holds : Holds c' l' (passed t p)
    time-holds = moved done.config done.list (record {
      state = h.state;
      timer = omega (arith, h.timer);
      inputs = h.inputs;
      count = h.count ∙ sym (length-map p.waiting (aged t));
      lent = omega (arith, length-append (map older (take c.waiting l)) (drop c.waiting l), older-sized);
      records = take_at (map older (take c.waiting l)) (drop c.waiting l) c.waiting older-sized
          ∙ rw (h.records, map-map older coded p.waiting, map-map coded (aged t) p.waiting);
    })

  module _ (valid : Valid m) (even : length p.owed ≡ length p.trace) (letter i : ℕ) (o : Open 256 m.transitions c.state letter c.timer i)
      (quiet : All (λ x. 0 < x.left) (waiting_in c l)) where
    abbrev a : Transition
    a = at m.transitions i

    pub opens : Open 256 m.transitions p.state letter p.timer i
    opens = record {
      known = o.known;
      leaves = o.leaves ∙ h.state;
      asks = o.asks;
      fits = capped m valid i p.timer o.known (subst (λ (g : ℕ). Fits 256 a g) h.timer o.fits);
    }

    pub input-runs : Run m 256 (taken 256 i a p)
    input-runs = inputs letter i r opens (each quiet)

    abbrev new : Pending
    new = record { step = suc c.inputs; letter = a.output; left = a.d * 256 }

    abbrev comes : Wait
    comes = record { step = length p.owed; letter = a.output; left = a.d * 256 }

    is-coded : new ≡ coded comes
    is-coded = let e : c.inputs ≡ length p.owed = h.inputs ∙ sym even in rw e

    longer : length (take c.waiting l ++ (new ∷ [])) ≡ suc c.waiting
    longer = omega (arith, length-append (take c.waiting l) (new ∷ []), sized)

    pub input-room : c.waiting < length l → length (take c.waiting l ++ (new ∷ drop (suc c.waiting) l)) ≡ length l
    input-room k = length-append (take c.waiting l) (new ∷ drop (suc c.waiting) l) ∙ omega (arith, sized, length-drop (suc c.waiting) l)

    pub input-holds : {c' : Config} {l' : List Pending} → c' ≡ record { state = a.to; inputs = suc c.inputs; waiting = suc c.waiting; timer = 0 }
        → l' ≡ take c.waiting l ++ (new ∷ drop (suc c.waiting) l) → Holds c' l' (taken 256 i a p)
    input-holds config list = moved config list (record {
      state = refl;
      timer = refl;
      inputs = omega (arith, h.inputs, length-append p.trace (i ∷ []));
      count = omega (arith, h.count, length-append p.waiting (comes ∷ []));
      lent = omega (arith, length-append (take c.waiting l) (new ∷ drop (suc c.waiting) l), sized);
      records = take_more (take c.waiting l) new (drop (suc c.waiting) l) c.waiting sized
          ∙ rw (h.records, is-coded, map-append coded p.waiting (comes ∷ []));
    })
      where
        take_more : (k : List Pending) (x : Pending) (d : List Pending) (n : ℕ) → length k ≡ n → take (suc n) (k ++ (x ∷ d)) ≡ k ++ (x ∷ [])
        take_more [] x d n e = let z : n ≡ 0 = omega (arith, e) in rw z
        take_more (y ∷ k) x d zero e = absurd (omega arith)
        take_more (y ∷ k) x d (suc n) e = ap (λ (r : List Pending). y ∷ r) (take_more k x d n (omega arith))

  module _ {c' : Config} {l' : List Pending} {f : Fields} (done : OutputDone c l f c' l') where
    abbrev first : FirstDue (waiting_in c l)
    first = done.first

    pub e : map coded p.waiting ≡ first.before ++ (first.it ∷ first.after)
    e = sym h.records ∙ first.stands

    abbrev before : List Wait
    before = xs p.waiting first.before first.it first.after e

    abbrev issue : Wait
    issue = x p.waiting first.before first.it first.after e

    abbrev after : List Wait
    after = ys p.waiting first.before first.it first.after e

    abbrev pub issued : Play
    issued = given before issue after p

    is-it : coded issue ≡ first.it
    is-it = it p.waiting first.before first.it first.after e

    rest : (y : Wait) → In y before → 0 < y.left
    rest y i = all_in {P = λ z. 0 < z.left} first.later (coded y)
        (subst (In (coded y)) (front p.waiting first.before first.it first.after e) (in_image coded y before i))

    pub output-runs : Run m 256 issued
    output-runs = outputs before issue after r (parts p.waiting first.before first.it first.after e)
        (ap (λ (z : Pending). z.left) is-it ∙ first.due) rest

    pub output-step : suc issue.step ≡ first.it.step
    output-step = ap (λ (z : Pending). z.step) is-it

    pub output-letter : issue.letter ≡ first.it.letter
    output-letter = ap (λ (z : Pending). z.letter) is-it

    left_over : map coded (before ++ after) ≡ first.before ++ first.after
    left_over = map-append coded before after
        ∙ rw (front p.waiting first.before first.it first.after e, back p.waiting first.before first.it first.after e)

    one_less : length (before ++ after) ≡ c.waiting - 1
    one_less =
        let k : length p.waiting ≡ length before + suc (length after) =
        ap length (parts p.waiting first.before first.it first.after e) ∙ length-append before (issue ∷ after) in
        omega (arith, length-append before after, h.count)

    sized-less : length (first.before ++ first.after) ≡ c.waiting - 1
    sized-less = sym (ap length left_over) ∙ length-map (before ++ after) coded ∙ one_less

    pub output-room : length l' ≡ length l
    output-room =
        let k : length p.waiting ≡ length before + suc (length after) =
        ap length (parts p.waiting first.before first.it first.after e) ∙ length-append before (issue ∷ after) in
        ap length done.list ∙ length-append (first.before ++ first.after) (drop (c.waiting - 1) l)
        ∙ omega (arith, sized-less, length-drop (c.waiting - 1) l, h.lent, h.count)

    pub output-holds : Holds c' l' issued
    output-holds = moved done.config done.list (record {
      state = h.state;
      timer = h.timer;
      inputs = h.inputs;
      count = sym one_less;
      lent = omega (arith, length-append (first.before ++ first.after) (drop (c.waiting - 1) l), sized-less);
      records = take_at (first.before ++ first.after) (drop (c.waiting - 1) l) (c.waiting - 1) sized-less ∙ sym left_over;
    })
