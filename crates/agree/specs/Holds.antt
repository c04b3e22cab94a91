-- A configuration and its list hold what a run has come to, and calls tell what it has been.
use Rattle.std.specs.Prelude.{◌≡◌, List, map, suc, ◌≤◌, min, length, take}
use Rattle.records.specs.declared.Pending.{Pending}
use Rattle.player.specs.declared.Config.{Config}
use Rattle.playing.specs.Runs.{Wait, Play}
use Rattle.agree.specs.Chain.{Call, clock_of, since_of, trace_of, symbols_of, issued_of}

-- a waiting response as a record: steps are counted from 1
abbrev pub coded : Wait → Pending
coded x = record { step = suc x.step; letter = x.letter; left = x.left }

pub record Holds (c : Config) (l : List Pending) (p : Play) : Type 0 where
  pub state : c.state ≡ p.state
  pub timer : c.timer ≡ min p.timer 1048576
  pub inputs : c.inputs ≡ length p.trace
  pub count : c.waiting ≡ length p.waiting
  pub lent : c.waiting ≤ length l
  pub records : take c.waiting l ≡ map coded p.waiting

pub record Told (h : List Call) (p : Play) : Type 0 where
  pub trace : p.trace ≡ trace_of h
  pub symbols : p.symbols ≡ symbols_of h
  pub issued : p.issued ≡ issued_of h
  pub clock : p.now ≡ clock_of h
  pub since : p.timer ≡ since_of h
