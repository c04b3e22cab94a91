-- What every move keeps: the length of the list, numbers within their bytes, the records beyond those that wait.
use mathlib.Core.Path.{◌≡◌, sym, ap, ◌∙◌, subst}
use mathlib.Core.List.{List, [], ◌∷◌, ◌++◌, map, append_assoc}
use Prim.Native.Nat.{ℕ, suc, ◌+◌, ◌*◌, ◌-◌, ◌≤◌, ◌<◌}
use native.Mathlib.Omega.{arith}
use lib.ListN.{length, drop, length-append, length-drop, length-map}
use lib.Seq.{length-take-le, drop_at, drop-drop}
use Rattle.model.specs.Answers.{Fields}
use Rattle.model.specs.Lists.{All, all_nil, all_cons}
use Rattle.model.specs.Table.{Transition, Machine, Valid, InRange, at, none}
use Rattle.model.proofs.Lists.{all_take, all_drop, all_append, all-part, all-at, all_map, all-image}
use Rattle.table.specs.Tests.{Passes}
use Rattle.records.specs.declared.Pending.{Pending}
use Rattle.player.specs.declared.Config.{Config}
use Rattle.player.specs.declared.Move.{Move}
use Rattle.player.specs.declared.Move.TheVariants.{Time, Input, Output}
use Rattle.player.specs.Moves.{waiting_in, Whole, move_tests, TimeDone, InputDone, OutputDone, MoveDone}
use Rattle.player_bytes.proofs.RoundLaws.{Narrow, Slim}

-- what every move's list is: the records that wait after it, made of those that waited before it, then what stood there
pub record Over (m : Machine) (c : Config) (l : List Pending) (mv : Move) (f : Fields) (c' : Config) (l' : List Pending) : Type 0 where
  pub new : List Pending
  pub count : length new ≡ c'.waiting
  pub inside : c'.waiting ≤ length l
  pub is : l' ≡ new ++ drop c'.waiting l
  pub narrow : All Narrow l → All Narrow new
  pub again : (k : List Pending) → waiting_in c k ≡ waiting_in c l → MoveDone m c k mv f c' (new ++ drop c'.waiting k)

module _ {m : Machine} {c : Config} {l : List Pending} {mv : Move} {f : Fields} {c' : Config} {l' : List Pending} (o : Over m c l mv f c' l') where
  pub over-length : length l' ≡ length l
  over-length = ap length o.is ∙ length-append o.new (drop c'.waiting l) ∙ omega (arith, length-drop c'.waiting l, o.inside, o.count)

  pub over-narrow : All Narrow l → All Narrow l'
  over-narrow s = subst (All Narrow) (sym o.is) (all_append (o.narrow s) (all_drop c'.waiting s))

  pub over-beyond : (n : ℕ) → c'.waiting ≤ n → drop n l' ≡ drop n l
  over-beyond n h =
      let k : ℕ = c'.waiting in
      let e : n ≡ k + (n - k) = omega arith in
      rw e (sym (drop-drop (n - k) k l') ∙ ap (drop (n - k)) (ap (drop k) o.is ∙ drop_at o.new (drop k l) k o.count) ∙ drop-drop (n - k) k l)

module _ {m : Machine} (valid : Valid m) {c : Config} {l : List Pending} (whole : Whole m c l) where
  ranged : {i : ℕ} → i < length m.transitions → InRange m.states (at m.transitions i)
  ranged {i} h = all-at none valid.ranged i h

  sized : length (waiting_in c l) ≡ c.waiting
  sized = length-take-le c.waiting l whole.lent

  module _ (f : Fields) (c' : Config) (l' : List Pending) where
    pub done-slim : (mv : Move) → MoveDone m c l mv f c' l' → Slim c'
    done-slim (Time t) d = subst Slim (sym d.config)
        (omega (arith, whole.state, valid.most), omega (arith, whole.inputs), omega (arith, whole.few), omega arith)
    done-slim (Input a) d = subst Slim (sym d.config) (
      omega (arith, (ranged d.opened.known).arrives, valid.most),
      omega (arith, whole.inputs),
      omega (arith, whole.few),
      omega arith,
    )
    done-slim Output d = subst Slim (sym d.config) (
      omega (arith, whole.state, valid.most),
      omega (arith, whole.inputs),
      omega (arith, whole.few),
      omega (arith, whole.timer),
    )

    time-over : (t : ℕ) → TimeDone c l t f c' l' → Over m c l (Time t) f c' l'
    time-over t d =
        let older : Pending → Pending = λ p. record { step = p.step; letter = p.letter; left = p.left - t } in
        let k : c'.waiting ≡ c.waiting = ap (λ (z : Config). z.waiting) d.config in
        record {
          new = map older (waiting_in c l);
          count = length-map (waiting_in c l) older ∙ sized ∙ sym k;
          inside = omega (arith, whole.lent);
          is = d.list ∙ rw k;
          narrow = λ s. all-image older (all_map (λ p q. (q.0, q.1, omega (arith, q.2))) (all_take c.waiting s));
          again = λ r e. record { says = d.says; config = d.config; list = rw (k, e) };
        }

    input-over : (a : ℕ) → c.waiting < length l → InputDone m c l a f c' l' → Over m c l (Input a) f c' l'
    input-over a h d =
        let t : Transition = at m.transitions d.i in
        let r : InRange m.states t = ranged d.opened.known in
        let p : Pending = record { step = suc c.inputs; letter = t.output; left = t.d * 256 } in
        let k : c'.waiting ≡ suc c.waiting = ap (λ (z : Config). z.waiting) d.config in
        let one : (r : List Pending) → waiting_in c l ++ (p ∷ drop (suc c.waiting) r) ≡ (waiting_in c l ++ (p ∷ [])) ++ drop c'.waiting r =
        λ r. rw k (sym (append_assoc (waiting_in c l) (p ∷ []) (drop (suc c.waiting) r))) in
        record {
          new = waiting_in c l ++ (p ∷ []);
          count = length-append (waiting_in c l) (p ∷ []) ∙ omega (arith, sized, k);
          inside = omega arith;
          is = d.list ∙ one l;
          narrow = λ s. all_append (all_take c.waiting s)
              (all_cons {a = p} (omega (arith, whole.inputs), omega (arith, r.answers), omega (arith, r.late)) all_nil);
          again = λ r e. record {
            i = d.i;
            opened = d.opened;
            lowest = d.lowest;
            says = d.says;
            config = d.config;
            list = rw e (sym (one r));
          };
        }

    output-over : OutputDone c l f c' l' → Over m c l Output f c' l'
    output-over d =
        let before : List Pending = d.first.before in
        let it : Pending = d.first.it in
        let after : List Pending = d.first.after in
        let k : c'.waiting ≡ c.waiting - 1 = ap (λ (z : Config). z.waiting) d.config in
        record {
          new = before ++ after;
          count = length-append before after ∙ omega (arith, k, sized, ap length d.first.stands, length-append before (it ∷ after));
          inside = omega (arith, whole.lent);
          is = d.list ∙ rw k;
          narrow = λ s.
              let q = all-part before (it ∷ after) (subst (All Narrow) d.first.stands (all_take c.waiting s)) in
              all_append q.0 (all_drop 1 q.1);
          again = λ r e. record {
            first = record { before = before; it = it; after = after; stands = e ∙ d.first.stands; due = d.first.due; later = d.first.later };
            says = d.says;
            config = d.config;
            list = rw k;
          };
        }

    pub done-over : (mv : Move) → 240 ≤ length l → Passes (move_tests m c l mv) → MoveDone m c l mv f c' l' → Over m c l mv f c' l'
    done-over (Time t) h p d = time-over t d
    done-over (Input a) h p d = input-over a (omega (arith, p.1.1.1.1.0)) d
    done-over Output h p d = output-over d
