-- The list at the front of a room, of any set of desks that act: it is the one that 01's rules say, of those desks' calls, and shows the route.
-- Assumes nothing.
use Prim.Native.Nat.{ℕ, ◌*◌, ◌<◌}
use mathlib.Core.Path.{◌≡◌, ap, sym, ◌∙◌}
use mathlib.Core.Bool.{true}
use mathlib.Core.Logic.{◌≢◌}
use mathlib.Core.List.{List, ◌++◌}
use lib.ListN.{length, take}
use lib.Seq.{take_at}
use Rattle.rules.specs.Sizes.{most_desks}
use Rattle.rules.specs.Setups.{accepted}
use Rattle.rules.specs.Calls.{call_width, calls_of, in_quads}
use Rattle.rules.specs.declared.Setup.{Setup}
use Rattle.rules.proofs.Quads.{in_quads-length, calls_of_quads}
use Rattle.chains.specs.Chains.{Links, Acting, HasRoute, Taken, fewest_links, chain_of}
use Rattle.chains.proofs.Chains.{some_link}
use Rattle.chains.proofs.Walk.{chain_of-length}
use Rattle.chains.proofs.Enough.{report_takes}
use Rattle.chains.proofs.Acts.{linked_among, acting_most}
use Rattle.demand.specs.Routes.{route_calls, calls_for}
use Rattle.demand.specs.Heard.{Shows}
use Rattle.demand.proofs.Routes.{OfActing, route_calls-length}
use Rattle.demand.proofs.Exactly.{report_allowed, report_shows}

-- n calls at the front of the room are those along the chain that is taken among the desks that act, and let b hear a
pub record FrontShows (s : Setup) (acting : Acting) (a b n : ℕ) (room : List ℕ) : Type 0 where
  pub chain : List ℕ
  pub taken : Taken (linked_among s acting) a b chain
  pub count : n ≡ calls_for (length chain)
  pub list : calls_of (take (n * call_width) room) ≡ route_calls s a chain
  pub by : OfActing s acting (calls_of (take (n * call_width) room))
  pub shows : Shows s a b (calls_of (take (n * call_width) room))

module _ (s : Setup) (e : accepted s ≡ true) (acting : Acting) (a b : ℕ) (l : a < most_desks) (other : a ≢ b)
    (r : HasRoute (linked_among s acting) a b) where
  abbrev links : Links
  links = linked_among s acting

  taken_is : Taken links a b (chain_of links a b)
  taken_is = report_takes (acting_most s e acting) a b l r

  -- the chain that is taken has a link, so the list along it has as many calls as are told
  calls_counted : length (route_calls s a (chain_of links a b)) ≡ calls_for (fewest_links links a b)
  calls_counted =
      route_calls-length s a (chain_of links a b) (some_link links a b (chain_of links a b) taken_is.of_fewest.chain other)
      ∙ ap calls_for (chain_of-length links a b)

  pub front_shows : (rest : List ℕ) → FrontShows s acting a b (calls_for (fewest_links links a b)) (in_quads (route_calls s a (chain_of links a b)) ++ rest)
  front_shows rest =
      let calls = route_calls s a (chain_of links a b) in
      let n = calls_for (fewest_links links a b) * call_width in
      let long : length (in_quads calls) ≡ n = in_quads-length calls ∙ ap (λ (m : ℕ). m * call_width) calls_counted in
      let list : calls_of (take n (in_quads calls ++ rest)) ≡ calls = ap calls_of (take_at (in_quads calls) rest n long) ∙ calls_of_quads calls in
      record {
        chain = chain_of links a b;
        taken = taken_is;
        count = ap calls_for (sym (chain_of-length links a b));
        list = list;
        by = rw list (λ n m. (report_allowed s e acting a b l r n m).by);
        shows = rw list (report_shows s e acting a b l r other);
      }
