use native.Mathlib.Omega.{arith}
use Rattle.model.proofs.AnswerLaws.{tells-same}
use Rattle.table.proofs.FitLaws.{fit-sound}
use Rattle.walks.proofs.WalkLaws.{seen}
use Rattle.walks.proofs.StartLaws.{not-marked}
use Rattle.criterion.specs.declared.Goal.TheVariants.{Turns}
use Rattle.starts.proofs.TableLaws.{entry-there, start-law}
use Rattle.starts.proofs.search.starts.Goals as goal

pub returns-then-mark-eq0 : goal.returns-then-mark-eq0
returns-then-mark-eq0 c =
    let a = c.args in
    not-marked (seen a.fit a.k c.requires.0) Turns a.dist.now (omega arith)

pub entry-requires : goal.entry-requires
entry-requires c =
    let a = c.args in
    let y = c.requires.1 in
    let h = entry-there (fit-sound a.fit).ranged y (seen a.fit a.k c.requires.0) (omega arith) in
    (y.sized, rw c.from.ensures h)

pub returns : goal.returns
returns c =
    let a = c.args in
    let e = rw c.from.ensures at c.entry.ensures in
    let law = start-law (fit-sound a.fit).ranged c.requires.1 (seen a.fit a.k c.requires.0) (omega arith) e in
    tells-same c.asked.result law c.asked.ensures
