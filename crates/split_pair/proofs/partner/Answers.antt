-- The loop keeps that no number passed makes a pair with i.
use native.Mathlib.Omega.{arith}
use mathlib.Core.Path.{◌≡◌, ap}
use lib.ListN.{length}
use borrow.Author.Count.{below_more}
use Rattle.model.specs.Answers.{Tells}
use Rattle.model.specs.Table.{Transition, at}
use Rattle.model.proofs.AnswerLaws.{told, untold}
use Rattle.table.specs.Rows.{transitions}
use Rattle.table.proofs.RowLaws.{at_rows, length-rows}
use Rattle.reach.specs.Reach.{mark}
use Rattle.split_pair.specs.Split.{Forks}
use Rattle.split_pair.proofs.partner.Goals as goal
use Rattle.split_pair.proofs.partner.Goals.{After-mark_of, After-forks}

-- the mark that was read
read : (p : After-mark_of) → p.mark_of.result ≡ mark p.args.dist.now (at (transitions p.args.rows.now) p.args.i).from
read p =
    let t = p.args.rows.now in
    omega (arith, p.mark_of.ensures, ap (λ (x : Transition). mark p.args.dist.now x.from) (at_rows t (length t) p.args.i p.requires))

pub returns-then-mark_of-eq0 : goal.returns-then-mark_of-eq0
returns-then-mark_of-eq0 c = λ y m. omega (arith, read (goal.at.returns-then-mark_of-eq0 c).After-mark_of, m.marked)

-- the test of j, told of the two transitions
tested : (p : After-forks) → let ts = transitions p.args.rows.now in Tells p.forks.result (Forks (at ts p.args.i) (at ts p.loop-j.j))
tested p =
    let t = p.args.rows.now in
    rw (at_rows t (length t) p.args.i p.requires, at_rows t (length t) p.loop-j.j p.loop-j-test.true) p.forks.ensures

pub returns-then-forks : goal.returns-then-forks
returns-then-forks c =
    let t = c.args.rows.now in
    let p = goal.at.returns-then-forks c in (
      record {
        marked = omega (arith, read p.After-mark_of);
        ordered = omega arith;
        inside = omega (arith, length-rows t (length t));
        forks = told _ (tested p.After-forks) c.if-forks.true;
      },
      c.loop-j.invariant,
    )

pub loop-j-preserved : goal.loop-j-preserved
loop-j-preserved c = below_more _ c.loop-j.j c.loop-j.invariant (λ m. untold _ (tested (goal.at.loop-j-preserved c).After-forks) c.if-forks.false m.forks)

pub returns : goal.returns
returns c =
    let t = c.args.rows.now in
    λ y m. c.loop-j.invariant y (omega (arith, m.inside, length-rows t (length t))) m
