use Rattle.std.proofs.Common.{◌≡◌}
use Rattle.words.proofs.WordLaws.{Writing}
use Rattle.words.proofs.write_word_on.Given as goal

abbrev pub invariant-loop-i : goal.invariant-loop-i
invariant-loop-i g l = record {
  writing : Writing l.rows l.trace l.k l.m (g.O.Layout.list l.initial.out) (g.O.Layout.list l.out) l.stamp l.i;
  rest : g.O.Layout.beside l.out ≡ g.O.Layout.beside l.initial.out;
}
