-- Demand 3: what the route report answers and writes is what it promises of the two desks.
-- Assumes nothing.
use Prim.Native.Nat.{ℕ, ◌<◌, ◌≤◌}
use mathlib.Core.Path.{◌≡◌, ap}
use mathlib.Core.Logic.{◌↔◌}
use mathlib.Core.List.{List, ◌++◌}
use native.Mathlib.Omega.{arith}
use lib.ListN.{length}
use Rattle.std.specs.Prelude.{Option, None, Result, Ok}
use Rattle.rules.specs.Sizes.{most_desks}
use Rattle.rules.specs.Calls.{in_quads}
use Rattle.rules.specs.Links.{linked}
use Rattle.rules.specs.Answers.{told_numbers_of}
use Rattle.rules.specs.declared.Setup.{Setup}
use Rattle.rules.proofs.Setups.{accepted_sizes}
use Rattle.rules.proofs.Told.{refused_or_not}
use Rattle.chains.specs.Chains.{far, fewest_links, chain_of}
use Rattle.chains.proofs.Chains.{every_desk}
use Rattle.chains.proofs.Acts.{linked_among_most}
use Rattle.chains.proofs.Enough.{by_way, one_by_way, fewest_links_iff, way_tells}
use Rattle.demand.specs.Routes.{route_calls, calls_for}
use Rattle.demand.specs.Heard.{Unheard}
use Rattle.demand.proofs.Exactly.{exactly}
use Rattle.routes.specs.Reports.{route_refusal, routed, room_after}
use Rattle.routes.specs.Demand3.{ShownBy, Demand3}
use Rattle.routes.proofs.Fronts.{front_shows}
use Rattle.routes.proofs.Reports.{with_shown, Sound, route_sound, routed_refused, room_refused, room_is, routed_none, routed_shown}

module _ (s : Setup) (a b : ℕ) {n : ℕ} (h : Sound s a b n) where
  is_desk : a < most_desks
  is_desk = omega (arith, h.from, (accepted_sizes s h.setup).of_desks.high)

  -- the number of links tells whether desk b can hear desk a
  unheard_told : (fewest_links (linked s) a b < far → ¬ Unheard s a b) × (far ≤ fewest_links (linked s) a b → Unheard s a b)
  unheard_told = way_tells (linked_among_most s h.setup) a b is_desk (exactly s h.setup a b is_desk h.apart)

  -- the list at the front of a room shows the route
  front_told : fewest_links (linked s) a b < far → (rest : List ℕ)
      → ShownBy s a b (calls_for (fewest_links (linked s) a b)) (in_quads (route_calls s a (chain_of (linked s) a b)) ++ rest)
  front_told near rest =
      let r = (fewest_links_iff (linked_among_most s h.setup) a b is_desk).0 near in
      let f = front_shows s h.setup every_desk a b is_desk h.apart r rest in
      record { chain = f.chain; taken = f.taken; count = f.count; list = f.list; shows = f.shows; hears = unheard_told.0 near }

-- the report's answer, and the room as it leaves it, meet demand 3
pub demand3_met : (s : Setup) (a b : ℕ) (room : List ℕ) → Demand3 s a b (routed s a b (length room)) (room_after s a b room)
demand3_met s a b room =
    refused_or_not (route_refusal s a b (length room))
    (λ e.
    let h = route_sound s a b (length room) e in
    by_way (linked s) a b
    (λ near. rw (routed_shown s a b room e near, room_is s a b room e, with_shown s a b room (linked s) near) (front_told s a b h near _))
    (λ none. rw (routed_none s a b room e none) ((unheard_told s a b h).1 none)))
    (λ h. rw (routed_refused s a b room h, room_refused s a b room h))

-- so an answer and a room that are the report's keep all that it promises
pub promised : (s : Setup) (a b : ℕ) (was : List ℕ) {after : List ℕ} {r : Result (Option ℕ) ℕ} → r ≡ routed s a b (length was) → after ≡ room_after s a b was
    → record {
      value : r ≡ routed s a b (length was);
      room : after ≡ room_after s a b was;
      demand3 : Demand3 s a b r after;
      numbers : told_numbers_of r ≡ told_numbers_of (routed s a b (length was));
    }
promised s a b was e w = record { value = e; room = w; demand3 = rw (e, w) (demand3_met s a b was); numbers = ap told_numbers_of e }

-- where no refusal is given, "no route" is the answer exactly where no list of calls lets desk b hear desk a
pub no_route_exactly : (s : Setup) (a b : ℕ) (room : List ℕ) → route_refusal s a b (length room) ≡ 0 → (routed s a b (length room) ≡ Ok None) ↔ Unheard s a b
no_route_exactly s a b room e =
    let told = unheard_told s a b (route_sound s a b (length room) e) in
    one_by_way (linked s) a b
    (λ near. (λ q. let z : ◌≡◌ {A = ℕ} 0 1 = cc (routed_shown s a b room e near, q) in omega arith, told.0 near))
    (λ none. (routed_none s a b room e none, told.1 none))
