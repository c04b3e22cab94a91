use Rattle.std.proofs.Common.{◌≡◌, ◌≤◌, arith}
use Rattle.model.specs.Lists.{All}
use Rattle.table.specs.Rows.{machine_of, transitions}
use Rattle.table.proofs.TestLaws.{valid-count}
use Rattle.player.specs.Moves.{waiting_in}
use Rattle.player.specs.Steps.{LowestOpen}
use Rattle.player.proofs.MoveLaws.{input-closed, input-due, input-split, input-spent, input-full, row-inside, input-taken}
use Rattle.player.proofs.Config.input.Goals as goal
use Rattle.player.proofs.Config.input.Goals.{After-rows-rows, In-Some, Else-not-none_before}

-- the slice of a checked table holds its transitions
held : (p : After-rows-rows) → transitions p.rows-rows.result.now ≡ (machine_of p.args.t.now).transitions
held p = p.rows-rows.ensures.held (valid-count p.args.t.now p.requires.valid)

-- the lowest open one
first : (p : In-Some) → LowestOpen (machine_of p.args.t.now).transitions p.args.self.state p.args.letter p.args.self.timer p.in-Some.i
first p = let h = held (goal.at.In-Some p).After-rows-rows in rw h at p.in-Some.ensures

-- none is due
quiet : (p : Else-not-none_before) → All (λ r. 1 ≤ r.left) (waiting_in p.args.self p.args.list.now)
quiet p = rw (p.if-not-none_before.false, p.from-n.ensures) at p.none_before.ensures

pub returns-in_default : goal.returns-in_default
returns-in_default c =
    let a = c.args in
    let h = held (goal.at.returns-in_default c).After-rows-rows in
    let none = rw h at c.in_default.ensures in
    input-closed (machine_of a.t.now) c.requires.valid a.self a.list.now a.letter none

pub returns-then-not-none_before : goal.returns-then-not-none_before
returns-then-not-none_before c =
    let a = c.args in
    let due = rw (c.if-not-none_before.true, c.from-n.ensures) at c.none_before.ensures in
    input-due (machine_of a.t.now) c.requires.valid a.self a.list.now a.letter _ (first (goal.at.returns-then-not-none_before c).In-Some) due

pub returns-then-not-unsplit : goal.returns-then-not-unsplit
returns-then-not-unsplit c =
    let a = c.args in
    let g = goal.at.returns-then-not-unsplit c in
    input-split (machine_of a.t.now) c.requires.valid a.self a.list.now a.letter _ (first g.In-Some) (quiet g.Else-not-none_before)
    c.if-not-unsplit.ensures

pub returns-then-step-gt512 : goal.returns-then-step-gt512
returns-then-step-gt512 c =
    let a = c.args in
    let g = goal.at.returns-then-step-gt512 c in
    input-spent (machine_of a.t.now) c.requires.valid a.self a.list.now a.letter _ (first g.In-Some) (quiet g.Else-not-none_before)
    c.if-not-unsplit.ensures (omega arith)

pub returns-then-self-ge240 : goal.returns-then-self-ge240
returns-then-self-ge240 c =
    let a = c.args in
    let g = goal.at.returns-then-self-ge240 c in
    input-full (machine_of a.t.now) c.requires.valid a.self a.list.now a.letter _ (first g.In-Some) (quiet g.Else-not-none_before)
    c.if-not-unsplit.ensures (omega arith) c.if-self-ge240.true

pub overflow_cast-result : goal.overflow_cast-result
overflow_cast-result c =
    let a = c.args in
    let g = goal.at.overflow_cast-result c in
    omega (
      arith,
      row-inside (machine_of a.t.now) c.requires.valid a.self a.list.now a.letter _ (first g.In-Some) (quiet g.Else-not-none_before)
          c.if-not-unsplit.ensures _ (held g.After-rows-rows),
      c.rows-rows.ensures.number,
    )

pub returns : goal.returns
returns c =
    let a = c.args in
    let g = goal.at.returns c in
    input-taken (machine_of a.t.now) c.requires.valid a.self a.list.now a.letter _ (first g.In-Some) (quiet g.Else-not-none_before)
    c.if-not-unsplit.ensures _ (held g.After-rows-rows) c.row_of-r.ensures (omega arith) (omega arith) c.requires.room c.from.ensures (rw c.from-n.ensures)
