-- The loop keeps that no number passed begins a pair.
use native.Mathlib.Omega.{arith}
use lib.ListN.{length}
use Rattle.table.proofs.RowLaws.{length-rows}
use Rattle.model.proofs.AnswerLaws.{told}
use Rattle.split_pair.proofs.ApartLaws.{apart-unmarked}
use Rattle.split_pair.proofs.first_split.Goals as goal
use Rattle.split_pair.proofs.first_split.Goals.{then-rows-gt256-via-then-rows-gt256, then-rows-gt256-via-else-rows-gt256+then-apart}

pub returns-then-rows-gt256 : goal.returns-then-rows-gt256
returns-then-rows-gt256 c =
    elim c.then-rows-gt256.branch [
      | then-rows-gt256-via-then-rows-gt256 w ↦ λ few. absurd (omega (arith, w.if-rows-gt256.true))
      | then-rows-gt256-via-else-rows-gt256+then-apart w ↦ λ few. apart-unmarked (told _ w.apart.ensures w.if-apart.true) _
    ]

pub returns : goal.returns
returns c =
    let t = c.args.rows.now in
    λ few i j m. c.loop-i.invariant i (omega (arith, m.ordered, m.inside, length-rows t (length t))) j m
