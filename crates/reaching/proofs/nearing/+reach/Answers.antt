-- The proof of `reaching::nearing::reach`, which calls itself: in no link a desk reaches itself alone, and in n links by the numbers of one less.
use mathlib.Core.Path.{◌∙◌}
use native.Mathlib.Omega.{arith}
use Prim.Native.Nat.{◌-◌}
use Rattle.rules.proofs.Told.{known}
use Rattle.reaching.specs.Tables.{links_in}
use Rattle.reaching.proofs.Nearer.{reach_none, reach_more, none_stands}
use Rattle.reaching.proofs.nearing.+reach.Goals as goal

pub returns-then-n-eq0 : goal.returns-then-n-eq0
returns-then-n-eq0 t c = rw c.if-n-eq0.true (reach_none (links_in c.args.links.now) c.args.b c.requires.1)

pub returns-then-not-stands : goal.returns-then-not-stands
returns-then-not-stands t c =
    let links = links_in c.args.links.now in
    none_stands links c.args.b _ (c.args.n - 1) c.reach-before.ensures (omega (arith, c.requires.2)) (known c.stands.ensures c.if-not-stands.true)
    ∙ reach_more links c.args.b c.args.n c.if-n-eq0.false

pub returns : goal.returns
returns t c = rw (c.nearer.ensures, c.reach-before.ensures) (reach_more (links_in c.args.links.now) c.args.b c.args.n c.if-n-eq0.false)
