-- `reaching::searching::lowest` meets its contract. The loop's invariant: it is so of no number passed.
use Prim.Native.Nat.{ℕ, ◌<◌}
use mathlib.Core.Bool.{false}
use Rattle.reaching.proofs.searching.lowest.Given as goal

abbrev pub invariant-loop-i : goal.invariant-loop-i
invariant-loop-i g l = (k : ℕ) → k < l.i → goal.F-post g l.is k false
