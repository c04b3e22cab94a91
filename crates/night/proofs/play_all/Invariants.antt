use Rattle.std.proofs.Common.{◌≡◌}
use Rattle.night.proofs.NightLaws.{Playing}
use Rattle.night.proofs.play_all.Given as goal

abbrev pub invariant-loop-w : goal.invariant-loop-w
invariant-loop-w g l = record {
  playing : Playing l.rows (g.T.Layout.list l.trace) (g.S.Layout.list l.starts) (g.S.Layout.list l.stamps) (g.O.Layout.list l.initial.order) (g.D.Layout.list l.initial.due)
      (g.O.Layout.list l.initial.marks) (g.O.Layout.list l.order) (g.D.Layout.list l.due) (g.O.Layout.list l.marks) l.at l.w;
  order_rest : g.O.Layout.beside l.order ≡ g.O.Layout.beside l.initial.order;
  due_rest : g.D.Layout.beside l.due ≡ g.D.Layout.beside l.initial.due;
  marks_rest : g.O.Layout.beside l.marks ≡ g.O.Layout.beside l.initial.marks;
}
