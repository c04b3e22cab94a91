-- The measure is the sum of lower bounds: each call goes on with the walk before its step, which has a smaller one.
use Rattle.walks.proofs.walk.+walk_back.Given as goal

abbrev pub decreases-walk_back : goal.decreases-walk_back
decreases-walk_back l = l.sum
