-- A run that ends with none waiting issues exactly the conversion of the word of its inputs on the trace that it took.
use mathlib.Core.Path.{◌≡◌, ap, ◌∙◌}
use mathlib.Core.Logic.{⊎_elim}
use mathlib.Core.List.{List, []}
use Prim.Native.Nat.{ℕ, ◌*◌, ◌≤◌, ◌<◌}
use native.Mathlib.Omega.{arith}
use lib.ListN.{length}
use Rattle.model.specs.Lists.{In}
use Rattle.model.specs.Table.{Transition, Machine, at}
use Rattle.model.specs.Trace.{Trace, steps}
use Rattle.model.specs.Word.{Word, Activates}
use Rattle.model.specs.Order.{Response, response, due, Before, Conversion}
use Rattle.playing.specs.Runs.{Play, Run, played}
use Rattle.playing.proofs.Kept.{owe, Sooner, Kept, kept, map_same, sorted-same}
use Rattle.playing.proofs.Past.{Past, past}

pub record Replays (m : Machine) (q : ℕ) (f : 1 ≤ q) (p : Play) : Type 0 where
  pub path : Trace m.transitions m.initial p.trace p.state
  pub activates : Activates (steps m.transitions p.trace) (played q f p)
  pub converts : Conversion (steps m.transitions p.trace) (played q f p) p.issued

module _ (m : Machine) (q : ℕ) (f : 1 ≤ q) (quick : (i : ℕ) → i < length m.transitions
    → 1 ≤ (at m.transitions i).d * q) (p : Play) (r : Run m q p) (none_waits : p.waiting ≡ []) where
  abbrev tr : List Transition
  tr = steps m.transitions p.trace

  abbrev w : Word
  w = played q f p

  k : Kept p
  k = kept quick r

  g : Past m q f p
  g = past m q f r

  all-issued : (i : ℕ) → i < length tr → In i k.order
  all-issued i h = ⊎_elim (λ x. x) (λ z. absurd (rw none_waits at z.1)) (k.covers i (omega (arith, g.count)))

  time-is : (i : ℕ) → In i k.order → (owe p.owed i).time ≡ due tr w i
  time-is i x = ap (λ (z : Response). z.time) (g.means i (k.known i x))

  before : (i j : ℕ) → In i k.order → In j k.order → Sooner p.owed i j → Before (due tr w) i j
  before i j x y s = rw (← time-is i x, ← time-is j y) s

  pub replays : Replays m q f p
  replays = record {
    path = g.path;
    activates = g.takes;
    converts = record {
      order = k.order;
      ordered = record {
        sorted = sorted-same (Sooner p.owed) (Before (due tr w)) k.order before k.sorted;
        exact = λ i. (λ x. omega (arith, k.known i x, g.count), all-issued i);
      };
      lists = k.issues ∙ map_same (owe p.owed) (response tr w) k.order (λ i x. g.means i (k.known i x));
    };
  }
