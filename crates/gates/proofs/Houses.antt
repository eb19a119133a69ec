-- What a house asks of a gate desk beside the report's promise: that every way passes it, that where there is no way every desk guards,
-- and that it stands on the way that the route report shows.
-- Assumes nothing.
use Prim.Native.Nat.{ℕ, ◌<◌}
use mathlib.Core.Path.{◌≡◌}
use mathlib.Core.Bool.{true}
use mathlib.Core.Logic.{◌↔◌}
use mathlib.Core.List.{List}
use native.Mathlib.Omega.{arith}
use lib.ListN.{length}
use Rattle.std.specs.Prelude.{None, Ok}
use Rattle.rules.specs.Sizes.{most_desks}
use Rattle.rules.specs.Links.{linked}
use Rattle.rules.specs.declared.Setup.{Setup}
use Rattle.rules.proofs.Setups.{accepted_sizes}
use Rattle.chains.specs.Chains.{is_chain, HasRoute, chain_of}
use Rattle.chains.proofs.Acts.{linked_among_most}
use Rattle.chains.proofs.Avoids.{is_on}
use Rattle.chains.proofs.EveryChain.{on_every_chain}
use Rattle.chains.proofs.Enough.{report_takes}
use Rattle.routes.specs.Reports.{routed}
use Rattle.routes.proofs.Reports.{sound_unrefused}
use Rattle.routes.proofs.Demands.{no_route_exactly}
use Rattle.gates.specs.Gates.{gate_refusal, gated}
use Rattle.gates.proofs.Whole.{Sound, gate_sound}
use Rattle.gates.proofs.Told.{guarded_exactly, guarded_iff}

module _ (s : Setup) (a b c : ℕ) (room : List ℕ) (e : gate_refusal s a b c (length room) ≡ 0) where
  sound : Sound s a b c (length room)
  sound = gate_sound s a b c (length room) e

  -- "guarded" is the answer exactly where every chain of links from a to b has c on it
  pub on_every_way : (gated s a b c (length room) ≡ Ok None) ↔ ((xs : List ℕ) → is_chain (linked s) a b xs ≡ true → is_on c xs ≡ true)
  on_every_way =
      let answer = guarded_iff s a b c room e in
      let routes = guarded_exactly s a b c sound in
      let chains = on_every_chain (linked s) c b a sound.from_gate in
      (λ q. chains.0 (routes.0 (answer.0 q)), λ every. answer.1 (routes.1 (chains.1 every)))

  -- where the route report answers "no route", every other desk guards
  pub no_route_guarded : routed s a b (length room) ≡ Ok None → gated s a b c (length room) ≡ Ok None
  no_route_guarded q =
      let unheard = (no_route_exactly s a b room (sound_unrefused sound.route)).0 q in
      (guarded_iff s a b c room e).1 (λ acts small silent. unheard acts small)

  -- where there is a route, and c guards, c is on the chain that the route report takes and writes its list along
  pub on_shown_chain : HasRoute (linked s) a b → gated s a b c (length room) ≡ Ok None → is_on c (chain_of (linked s) a b) ≡ true
  on_shown_chain r q =
      let h = sound.route in
      let is_desk : a < most_desks = omega (arith, h.from, (accepted_sizes s h.setup).of_desks.high) in
      on_every_way.0 q (chain_of (linked s) a b) (report_takes (linked_among_most s h.setup) a b is_desk r).of_fewest.chain
