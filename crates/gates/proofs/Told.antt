-- What the gate report answers and writes is what it promises of the three desks.
-- Assumes nothing.
use Prim.Native.Nat.{ℕ, ◌<◌, ◌≤◌}
use mathlib.Core.Path.{◌≡◌, ap, ◌∙◌}
use mathlib.Core.Logic.{◌↔◌}
use mathlib.Core.List.{List, ◌++◌}
use native.Mathlib.Omega.{arith}
use lib.ListN.{length}
use Rattle.std.specs.Prelude.{Option, Some, None, Result, Ok}
use Rattle.rules.specs.Sizes.{most_desks}
use Rattle.rules.specs.Calls.{in_quads}
use Rattle.rules.specs.Answers.{told_numbers_of}
use Rattle.rules.specs.declared.Setup.{Setup}
use Rattle.rules.proofs.Setups.{accepted_sizes}
use Rattle.rules.proofs.Told.{refused_or_not}
use Rattle.chains.specs.Chains.{others, HasRoute, far, fewest_links, chain_of}
use Rattle.chains.proofs.Acts.{acting_most}
use Rattle.chains.proofs.Enough.{by_way, one_by_way, fewest_links_iff, way_tells}
use Rattle.demand.specs.Routes.{route_calls, calls_for}
use Rattle.demand.specs.Heard.{GuardedBy}
use Rattle.demand.proofs.Exactly.{none_of, exactly_around}
use Rattle.routes.proofs.Reports.{told_none, told_shown, with_shown}
use Rattle.routes.proofs.Fronts.{front_shows}
use Rattle.gates.specs.Gates.{gate_refusal, links_around, gated, room_after, GoesAround, GateTells}
use Rattle.gates.proofs.Whole.{Sound, gate_sound, gated_refused, room_refused, gated_is, room_is}

module _ (s : Setup) (a b c : ℕ) {n : ℕ} (h : Sound s a b c n) where
  is_desk : a < most_desks
  is_desk = omega (arith, h.route.from, (accepted_sizes s h.route.setup).of_desks.high)

  -- c guards exactly where no route runs among the other desks, as the number of links tells
  pub guarded_exactly : GuardedBy s a b c ↔ (¬ HasRoute (links_around s c) a b)
  guarded_exactly = exactly_around s h.route.setup a b is_desk h.route.apart c h.from_gate h.onto_gate

  guarded_told : (fewest_links (links_around s c) a b < far → ¬ GuardedBy s a b c) × (far ≤ fewest_links (links_around s c) a b → GuardedBy s a b c)
  guarded_told = way_tells (acting_most s h.route.setup (others c)) a b is_desk guarded_exactly

  -- the list at the front of a room goes around c
  goes_around : fewest_links (links_around s c) a b < far → (rest : List ℕ)
      → GoesAround s a b c (calls_for (fewest_links (links_around s c) a b)) (in_quads (route_calls s a (chain_of (links_around s c) a b)) ++ rest)
  goes_around near rest =
      let r = (fewest_links_iff (acting_most s h.route.setup (others c)) a b is_desk).0 near in
      let f = front_shows s h.route.setup (others c) a b is_desk h.route.apart r rest in
      record {
        chain = f.chain;
        taken = f.taken;
        count = f.count;
        list = f.list;
        silent = none_of s c _ f.by;
        shows = f.shows;
        hears = guarded_told.0 near;
      }

-- what is told of the way around c is the answer
module _ (s : Setup) (a b c : ℕ) (room : List ℕ) (e : gate_refusal s a b c (length room) ≡ 0) where
  gated_none : far ≤ fewest_links (links_around s c) a b → gated s a b c (length room) ≡ Ok None
  gated_none none = gated_is s a b c room e ∙ ap Ok (told_none (links_around s c) a b Some None none)

  gated_shown : fewest_links (links_around s c) a b < far → gated s a b c (length room) ≡ Ok (Some (calls_for (fewest_links (links_around s c) a b)))
  gated_shown near = gated_is s a b c room e ∙ ap Ok (told_shown (links_around s c) a b Some None near)

-- the report's answer, and the room as it leaves it, tell what they promise
pub gate_tells : (s : Setup) (a b c : ℕ) (room : List ℕ) → GateTells s a b c (gated s a b c (length room)) (room_after s a b c room)
gate_tells s a b c room =
    refused_or_not (gate_refusal s a b c (length room))
    (λ e.
    let h = gate_sound s a b c (length room) e in
    by_way (links_around s c) a b
    (λ near. rw (gated_shown s a b c room e near, room_is s a b c room e, with_shown s a b room (links_around s c) near) (goes_around s a b c h near _))
    (λ none. rw (gated_none s a b c room e none) ((guarded_told s a b c h).1 none)))
    (λ h. rw (gated_refused s a b c room h, room_refused s a b c room h))

-- so an answer and a room that are the gate's keep all that it promises
pub promised : (s : Setup) (a b c : ℕ) (was : List ℕ) {after : List ℕ} {r : Result (Option ℕ) ℕ} → r ≡ gated s a b c (length was) → after ≡ room_after s a b c was
    → record {
      value : r ≡ gated s a b c (length was);
      room : after ≡ room_after s a b c was;
      guarded : GateTells s a b c r after;
      numbers : told_numbers_of r ≡ told_numbers_of (gated s a b c (length was));
    }
promised s a b c was e w = record { value = e; room = w; guarded = rw (e, w) (gate_tells s a b c was); numbers = ap told_numbers_of e }

-- where no refusal is given, "guarded" is the answer exactly where no list of calls in which c makes none lets desk b hear desk a
pub guarded_iff : (s : Setup) (a b c : ℕ) (room : List ℕ) → gate_refusal s a b c (length room) ≡ 0 → (gated s a b c (length room) ≡ Ok None) ↔ GuardedBy s a b c
guarded_iff s a b c room e =
    let told = guarded_told s a b c (gate_sound s a b c (length room) e) in
    one_by_way (links_around s c) a b
    (λ near. (λ q. let z : ◌≡◌ {A = ℕ} 0 1 = cc (gated_shown s a b c room e near, q) in omega arith, told.0 near))
    (λ none. (gated_none s a b c room e none, told.1 none))
