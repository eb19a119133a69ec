-- The measure of `reaching::nearing::reach`, which calls itself: n, which is one less at the call.
use Rattle.reaching.proofs.nearing.+reach.Given as goal

abbrev pub decreases-reach : goal.decreases-reach
decreases-reach l = l.n
