use mathlib.Core.Path.{◌≡◌}
use mathlib.Core.Bool.{false}
use Rattle.verdict.specs.Marks.{Clear}
use Rattle.verdict.proofs.sight.Outlook.any_between.Given as goal

abbrev pub invariant-loop-m : goal.invariant-loop-m
invariant-loop-m l = l.any ≡ false → Clear l.self.early.now l.self.late.now l.q l.a l.m
