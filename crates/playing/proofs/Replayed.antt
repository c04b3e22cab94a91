-- In 256ths of a tick: what is issued is what replay is promised to answer, on the stamps of the inputs.
use mathlib.Core.Path.{◌≡◌, refl}
use mathlib.Core.List.{List, []}
use Prim.Native.Nat.{ℕ, ◌*◌, ◌≤◌, ◌<◌, min}
use native.Mathlib.Omega.{arith}
use Rattle.std.proofs.Common.{lit≤}
use lib.ListN.{length}
use Rattle.model.specs.Lists.{All}
use Rattle.model.specs.Table.{Transition, Machine, InRange, Valid, at}
use Rattle.model.specs.Trace.{steps}
use Rattle.model.specs.Word.{Fits}
use Rattle.model.specs.Order.{Conversion}
use Rattle.model.specs.Stamps.{word_from, stamps_of}
use Rattle.model.proofs.Lists.{all-at, all-image, all_map}
use Rattle.model.proofs.Paths.{trace-known}
use Rattle.model.proofs.StampLaws.{symbols-back}
use Rattle.playing.specs.Runs.{Play, Run, played}
use Rattle.playing.proofs.Plays.{Replays, replays}

abbrev pub fine : 1 ≤ 256
fine = lit≤ tt

module _ (m : Machine) (valid : Valid m) where
  ranged : (i : ℕ) → i < length m.transitions → InRange m.states (at m.transitions i)
  ranged i h = all-at _ valid.ranged i h

  pub quick : (i : ℕ) → i < length m.transitions → 1 ≤ (at m.transitions i).d * 256
  quick i h = omega (arith, (ranged i h).soon)

  steps-ranged : (l : List ℕ) → All (λ i. i < length m.transitions) l → All (InRange m.states) (steps m.transitions l)
  unfolding steps
  steps-ranged l a = all-image (at m.transitions) (all_map ranged a)

  module _ (p : Play) (r : Run m 256 p) (none_waits : p.waiting ≡ []) (most : length (steps m.transitions p.trace) ≤ 512) where
    abbrev tr : List Transition
    tr = steps m.transitions p.trace

    pub done : Replays m 256 fine p
    done = replays m 256 fine quick p r none_waits

    same_word : word_from tr 0 (stamps_of (played 256 fine p)) ≡ played 256 fine p
    unfolding word_from
    same_word = rw (symbols-back (steps-ranged p.trace (trace-known m.transitions m.initial p.state p.trace done.path)) most
        (played 256 fine p) refl done.activates)

    pub as-replayed : Conversion tr (word_from tr 0 (stamps_of (played 256 fine p))) p.issued
    as-replayed = rw same_word done.converts

  -- the timer stops counting at 4,096 ticks: no guard can tell
  pub capped : (i g : ℕ) → i < length m.transitions → Fits 256 (at m.transitions i) (min g 1048576) → Fits 256 (at m.transitions i) g
  capped i g h f = record { after = omega (arith, f.after, f.within, (ranged i h).high); within = omega (arith, f.within, (ranged i h).high) }
