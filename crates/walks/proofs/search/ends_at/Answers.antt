use Rattle.model.proofs.AnswerLaws.{told, untold, tells-same}
use Rattle.walks.proofs.WalkLaws.{seen}
use Rattle.walks.proofs.EndLaws.{not-possible, number-there, end-law, number_small}
use Rattle.walks.proofs.search.ends_at.Goals as goal

pub returns-then-not-possible : goal.returns-then-not-possible
returns-then-not-possible c =
    let a = c.args in
    let p = c.possible in
    not-possible a.goal a.k c.requires.2 a.m (seen a.fit a.k c.requires.0) (seen a.fit a.m c.requires.1)
    (untold p.result p.ensures (c.if-not-possible.true))

pub number-x-requires : goal.number-x-requires
number-x-requires c =
    let a = c.args in
    number-there a.goal a.k c.requires.2 a.m (seen a.fit a.k c.requires.0) (seen a.fit a.m c.requires.1) c.most_before.ensures

pub closes-requires : goal.closes-requires
closes-requires c =
    let a = c.args in
    let h = told c.possible.result c.possible.ensures (c.if-not-possible.false) in
    number_small a.goal a.k c.requires.2 a.m (seen a.fit a.k c.requires.0) (seen a.fit a.m c.requires.1) c.most_before.ensures c.number-x.ensures h

pub returns : goal.returns
returns c =
    let a = c.args in
    let e = end-law a.goal a.k c.requires.2 a.m (seen a.fit a.k c.requires.0) (seen a.fit a.m c.requires.1) c.most_before.ensures c.number-x.ensures in
    tells-same c.closes.result e c.closes.ensures
