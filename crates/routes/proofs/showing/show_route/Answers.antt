-- `routes::showing::show_route` meets its contract: the numbers of links tell the chain, and the writer writes the list along it.
use Prim.Native.Nat.{◌<◌, ◌≤◌}
use mathlib.Core.Path.{sym, ◌∙◌}
use native.Mathlib.Omega.{arith}
use Rattle.std.specs.Prelude.{Some, None}
use Rattle.chains.specs.Chains.{far, fewest_links}
use Rattle.reaching.specs.Tables.{links_in}
use Rattle.routes.proofs.Reports.{told_none, told_shown, with_none, with_shown}
use Rattle.routes.proofs.Reached.{fewest_told, walked_is, ready}
use Rattle.routes.proofs.showing.show_route.Goals as goal

pub returns-then-to-a-ge-FAR : goal.returns-then-to-a-ge-FAR
returns-then-to-a-ge-FAR c =
    let at = c.args in
    let links = links_in at.links.now in
    -- the number at desk a is the fewest links from there to desk b
    let same = fewest_told at.a at.b at.links.now c.reach-to.ensures c.requires.from in
    let h : far ≤ fewest_links links at.a at.b = omega (arith, same, c.if-to-a-ge-FAR.true) in
    record { value = sym (told_none links at.a at.b Some None h); room = sym (with_none at.setup.now at.a at.b at.room.now links h) }

pub write_route-calls-requires : goal.write_route-calls-requires
write_route-calls-requires c =
    ready c.args.a c.args.b c.args.links.now c.reach-to.ensures c.requires c.if-to-a-ge-FAR.false

pub returns : goal.returns
returns c =
    let room = c.args.room.now in
    let links = links_in c.args.links.now in
    let same = fewest_told c.args.a c.args.b c.args.links.now c.reach-to.ensures c.requires.from in
    let h : fewest_links links c.args.a c.args.b < far = omega (arith, same, c.if-to-a-ge-FAR.false) in
    let chain = walked_is c.args.a c.args.b c.args.links.now c.reach-to.ensures c.requires.from in
    record {
      value = rw (told_shown links c.args.a c.args.b Some None h, ← same) (simp c.write_route-calls.ensures.value);
      room = rw (with_shown c.args.setup.now c.args.a c.args.b room links h) (c.write_route-calls.ensures.room ∙ rw (chain, same));
    }
