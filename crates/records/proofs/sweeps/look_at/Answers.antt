use Rattle.records.proofs.sweeps.look_at.Goals as goal

pub returns : goal.returns
returns c = simp (
  c.in_order-fine.ensures,
  c.lower-above.ensures,
  c.lesser-least.ensures,
  c.lowest-due.ensures,
  c.chosen-first.ensures,
)
