-- What a table of links and the numbers of links to desk b tell at desk a: the fewest links, the chain that is taken, and all that its writer asks.
-- Assumes nothing.
use Prim.Native.Nat.{ℕ, ◌<◌}
use mathlib.Core.Path.{◌≡◌}
use mathlib.Core.List.{List}
use native.Mathlib.Omega.{arith}
use lib.ListN.{get_or}
use Rattle.rules.specs.Sizes.{most_desks}
use Rattle.rules.specs.declared.Setup.{Setup}
use Rattle.chains.specs.Chains.{most_links, far, reach, fewest_links, chain_of}
use Rattle.chains.proofs.Chains.{AmongDesks, some_link}
use Rattle.chains.proofs.Acts.{linked_among_most}
use Rattle.chains.proofs.Walk.{chain_of-length, chain_of_taken}
use Rattle.reaching.specs.Tables.{links_in}
use Rattle.reaching.proofs.Linked.{get_or-inside}
use Rattle.reaching.proofs.Nearer.{reach_long}
use Rattle.routes.specs.Writers.{Asked, walked, Ready}

module _ (a b : ℕ) (links : List ℕ) {to : List ℕ} (reached : to ≡ reach (links_in links) b most_links) where
  pub fewest_told : a < most_desks → get_or to a 0 ≡ fewest_links (links_in links) a b
  fewest_told l = rw reached (get_or-inside (reach (links_in links) b most_links) a 0 far (omega (arith, reach_long (links_in links) b most_links)))

  pub walked_is : a < most_desks → walked links to a ≡ chain_of (links_in links) a b
  unfolding chain_of
  walked_is l = rw (fewest_told l, reached)

  pub ready : {s : Setup} {room : List ℕ} → Asked s links a b room → get_or to a 0 < far → Ready s links to a room
  ready {s} h near =
      let within : AmongDesks most_desks (links_in links) = record { ends = λ d e k. (linked_among_most s h.setup).ends d e (h.own d e k) } in
      let fewest = fewest_told h.from in
      let taken = chain_of_taken within a b h.from (omega (arith, fewest)) in
      let chain = chain_of (links_in links) a b in
      record {
        setup = h.setup;
        long = h.long;
        own = h.own;
        numbers = rw reached (reach_long (links_in links) b most_links);
        from = h.from;
        end = b;
        chain = rw (walked_is h.from) taken.of_fewest.chain;
        some = omega (arith, fewest, some_link (links_in links) a b chain taken.of_fewest.chain h.apart, chain_of-length (links_in links) a b);
        few = omega arith;
        spacious = h.spacious;
      }
