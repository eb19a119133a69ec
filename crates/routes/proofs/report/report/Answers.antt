-- `routes::report::report` meets its contract: the refusal, no route and the list are the report's, and so they meet demand 3.
use mathlib.Core.Path.{◌≡◌, sym}
use native.Mathlib.Omega.{arith}
use lib.ListN.{length}
use Rattle.rules.proofs.Setups.{accepted_sizes}
use Rattle.reaching.specs.Tables.{most_pairs}
use Rattle.routes.proofs.Reports.{route_sound, refused_kept, way_reported}
use Rattle.routes.proofs.Demands.{promised}
use borrow.Author.Rules.{rules}
use Rattle.routes.proofs.report.report.Goals as goal

pub returns-in_err-route_refusal-clause-room : goal.returns-in_err-route_refusal-clause-room
returns-in_err-route_refusal-clause-room c = refused_kept _ _ _ _ _ c.in_err-route_refusal.ensures

pub links_of-links-requires : goal.links_of-links-requires
links_of-links-requires c = (route_sound _ _ _ _ (sym c.in_ok-route_refusal.ensures)).setup

pub show_route-calls-requires : goal.show_route-calls-requires
show_route-calls-requires c =
    let h = route_sound _ _ _ _ (sym c.in_ok-route_refusal.ensures) in
    let sizes = accepted_sizes _ h.setup in
    let long : length c.links_of-links.result ≡ most_pairs = search rules in
    record {
      setup = h.setup;
      long = long;
      own = λ d e k. rw c.links_of-links.ensures at k;
      from = omega (arith, h.from, sizes.of_desks.high);
      onto = omega (arith, h.onto, sizes.of_desks.high);
      apart = h.apart;
      spacious = h.spacious;
    }

pub returns : goal.returns
returns c =
    let at = c.args in
    let shown = c.show_route-calls.ensures in
    let h = way_reported at.setup at.a at.b at.room.now c.links_of-links.ensures c.in_ok-route_refusal.ensures (shown.value, shown.room) in
    promised at.setup at.a at.b at.room.now h.0 h.1
