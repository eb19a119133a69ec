-- Laws of a way by some links, and of the route report as a whole: when it is refused, and what its answer and its room are in each case.
-- Assumes nothing.
use Prim.Native.Nat.{ℕ, ◌*◌, ◌<◌, ◌≤◌}
use mathlib.Core.Path.{◌≡◌, refl, ap, sym, ◌∙◌}
use mathlib.Core.Bool.{true}
use mathlib.Core.Logic.{◌≢◌}
use mathlib.Core.List.{List, ◌++◌}
use native.Mathlib.Omega.{arith}
use borrow.Author.Tests.{ltb-false, leb-false, eqb-false, not-false, lt-ltb, le-ltb, lt-leb, ne_eqb}
use lib.ListN.{length, drop}
use Rattle.std.specs.Prelude.{Option, Some, None, Ok, Err}
use Rattle.rules.specs.Setups.{accepted}
use Rattle.rules.specs.Calls.{call_width, in_quads}
use Rattle.rules.specs.Links.{linked}
use Rattle.rules.specs.declared.Setup.{Setup}
use Rattle.rules.proofs.Lists.{neither}
use Rattle.rules.proofs.Refusals.{unmet_iff}
use Rattle.rules.specs.Refusals.{number_of, numbered}
use Rattle.rules.specs.Answers.{told_numbers_of}
use Rattle.rules.specs.declared.refusal.Refusal.{Refusal}
use Rattle.rules.proofs.Told.{unless_refused}
use Rattle.rules.proofs.RefusalNumbers.{unless_numbered, numbered_refused}
use Rattle.chains.specs.Chains.{Links, most_links, far, fewest_links, chain_of}
use Rattle.demand.specs.Routes.{route_calls, calls_for}
use Rattle.routes.specs.Reports.{most_route_numbers, route_order, route_refusal, told_by, with_route, routed, room_after}
use Rattle.routes.specs.Writers.{calls_along}

-- "61 calls or 244 numbers suffice"
pub most_route_calls : calls_for most_links ≡ 61
most_route_calls = refl

pub most_numbers : most_route_numbers ≡ 244
most_numbers = refl

module _ {A : Type 0} (links : Links) (a b : ℕ) (some : ℕ → A) (none : A) where
  -- what is told of a way, by whether there is a chain
  pub told_none : far ≤ fewest_links links a b → told_by links a b some none ≡ none
  unfolding told_by
  told_none h = rw (le-ltb (fewest_links links a b) far h)

  pub told_shown : fewest_links links a b < far → told_by links a b some none ≡ some (calls_for (fewest_links links a b))
  unfolding told_by
  told_shown h = rw (lt-ltb (fewest_links links a b) far h)

module _ (s : Setup) (a b : ℕ) (room : List ℕ) where
  -- what is left in the room
  pub with_none : (links : Links) → far ≤ fewest_links links a b → with_route s links a b room ≡ room
  unfolding with_route
  with_none links = told_none links a b _ room

  pub with_shown : (links : Links) → fewest_links links a b < far
      → with_route s links a b room ≡ in_quads (route_calls s a (chain_of links a b)) ++ drop (calls_for (fewest_links links a b) * call_width) room
  unfolding with_route
  with_shown links = told_shown links a b _ room

  -- a way by some links is the way by any that they are
  pub way_by : {links own : Links} → links ≡ own → {n : Option ℕ} {after : List ℕ} → (n ≡ calls_along links a b) × (after ≡ with_route s links a b room)
      → (n ≡ calls_along own a b) × (after ≡ with_route s own a b room)
  way_by q h = (h.0 ∙ ap (λ (l : Links). calls_along l a b) q, h.1 ∙ ap (λ (l : Links). with_route s l a b room) q)

-- a route that is not refused has an accepted setup, two of its desks that are not equal, and room for the longest list
pub record Sound (s : Setup) (a b room : ℕ) : Type 0 where
  pub setup : accepted s ≡ true
  pub from : a < s.desks
  pub onto : b < s.desks
  pub apart : a ≢ b
  pub spacious : most_route_numbers ≤ room

pub route_sound : (s : Setup) (a b room : ℕ) → route_refusal s a b room ≡ 0 → Sound s a b room
unfolding route_refusal
route_sound s a b room e =
    let u = (unmet_iff (route_order s a b room) (omega arith)).0 e in
    let twelve = (neither _ _).0 u.1.0 in
    record {
      setup = not-false _ u.0;
      from = leb-false _ _ twelve.0;
      onto = leb-false _ _ twelve.1;
      apart = eqb-false _ _ u.1.1.0;
      spacious = ltb-false _ _ u.1.1.1.0;
    }

pub sound_unrefused : {s : Setup} {a b room : ℕ} → Sound s a b room → route_refusal s a b room ≡ 0
unfolding route_refusal
sound_unrefused {s} {a} {b} {room} h =
    simp (h.setup, lt-leb s.desks a h.from, lt-leb s.desks b h.onto, ne_eqb a b h.apart, le-ltb room most_route_numbers h.spacious)

module _ (s : Setup) (a b : ℕ) (room : List ℕ) where
  -- a refused route writes nothing
  module _ (h : route_refusal s a b (length room) ≢ 0) where
    pub routed_refused : routed s a b (length room) ≡ Err (route_refusal s a b (length room))
    unfolding routed
    routed_refused = unless_refused _ _ _ h

    pub room_refused : room_after s a b room ≡ room
    unfolding room_after
    room_refused = unless_refused _ _ _ h

  -- and else the way by the setup's links is told, and written if there is one
  module _ (e : route_refusal s a b (length room) ≡ 0) where
    pub routed_is : routed s a b (length room) ≡ Ok (told_by (linked s) a b Some None)
    unfolding routed
    routed_is = rw e

    pub room_is : room_after s a b room ≡ with_route s (linked s) a b room
    unfolding room_after
    room_is = rw e

    pub routed_none : far ≤ fewest_links (linked s) a b → routed s a b (length room) ≡ Ok None
    routed_none h = routed_is ∙ ap Ok (told_none (linked s) a b Some None h)

    pub routed_shown : fewest_links (linked s) a b < far → routed s a b (length room) ≡ Ok (Some (calls_for (fewest_links (linked s) a b)))
    routed_shown h = routed_is ∙ ap Ok (told_shown (linked s) a b Some None h)

module _ (s : Setup) (a b : ℕ) (room : List ℕ) where
  -- so it is of a refusal
  module _ (r : Refusal) (e : number_of r ≡ route_refusal s a b (length room)) where
    pub refused_told : numbered {A = Option ℕ} (Err r) ≡ routed s a b (length room)
    unfolding routed
    refused_told = numbered_refused r _ _ e

    pub refused_numbers : told_numbers_of (numbered {A = Option ℕ} (Err r)) ≡ told_numbers_of (routed s a b (length room))
    refused_numbers = ap told_numbers_of refused_told

    pub refused_kept : room ≡ room_after s a b room
    unfolding room_after
    refused_kept = sym (unless_numbered r _ _ _ e)

  -- and of what a way by the setup's links gives
  pub way_reported : {links : Links} → links ≡ linked s → 0 ≡ route_refusal s a b (length room) → {calls : Option ℕ} {after : List ℕ}
      → (calls ≡ calls_along links a b) × (after ≡ with_route s links a b room) → (Ok calls ≡ routed s a b (length room)) × (after ≡ room_after s a b room)
  way_reported q e h = let way = way_by s a b room q h in (ap Ok way.0 ∙ sym (routed_is s a b room (sym e)), way.1 ∙ sym (room_is s a b room (sym e)))
