-- Where no route runs from A to B among the desks that act, no list of their calls lets B hear A: what A reaches is closed against
-- what it does not.
-- Assumes nothing.
use Prim.Native.Nat.{ℕ, ◌<◌}
use mathlib.Core.Path.{◌≡◌, refl}
use mathlib.Core.Bool.{true}
use mathlib.Core.List.{List, [], ◌∷◌, ◌++◌}
use mathlib.Core.Option.{Option, none, some}
use Rattle.secrecy.specs.Sets.{Desks, OfEither, of_H, of_L, of_nobody, Closed}
use Rattle.secrecy.proofs.Closed.{desk_unheard}
use Rattle.rules.specs.Sizes.{most_desks}
use Rattle.rules.specs.Setups.{accepted}
use Rattle.rules.specs.Stores.{fresh_store}
use Rattle.rules.specs.Links.{desk_of_call, linked}
use Rattle.rules.specs.declared.Numbers.{Numbers}
use Rattle.rules.specs.declared.Setup.{Setup}
use Rattle.views.specs.Machine.{machine, linked_to}
use Rattle.views.proofs.Unwinding.{unwound}
use Rattle.chains.specs.Chains.{Links, Acting, HasRoute}
use Rattle.chains.proofs.Chains.{chain_none, chain_link, chain_joined, links_among_iff}
use Rattle.chains.proofs.Acts.{linked_among, acting_most}
use Rattle.chains.proofs.Enough.{by_route}
use Rattle.demand.specs.Heard.{heard, without}
use Rattle.demand.proofs.Routes.{ByActing, OfActing}

module _ (s : Setup) (acting : Acting) (a : ℕ) where
  abbrev links : Links
  links = linked_among s acting

  -- of the desks that act, those that desk a reaches, itself among them, and those that it does not
  abbrev Reached : Desks
  Reached d = (acting d ≡ true) × HasRoute links a d

  abbrev Unreached : Desks
  Unreached d = (acting d ≡ true) × (¬ HasRoute links a d)

  -- a link from a desk that is reached reaches
  closed : Closed (linked_to s) Reached Unreached
  closed =
      record {
        apart = λ d h k. k.1 h.1;
        no_link =
            λ d u h k link.
            let own = (links_among_iff acting (linked s) d u).1 (h.0, k.0, link) in
            let on = chain_joined links a d u h.1.through (u ∷ []) h.1.chain (chain_link links d u own) in
            k.1 (record { through = h.1.through ++ (u ∷ []); chain = on });
      }

  -- a call's desk is reached or it is not
  sides : accepted s ≡ true → a < most_desks → (n : Numbers) → ByActing s acting n → OfEither (machine s) Reached Unreached n
  sides e l n by = go (desk_of_call s n) refl
    where
      go : (o : Option ℕ) → desk_of_call s n ≡ o → OfEither (machine s) Reached Unreached n
      go none q = of_nobody q
      go (some d) q =
          by_route (acting_most s e acting) a d l (λ r. of_H (record { who = d; belongs = q; inside = (by d q, r) }))
          (λ none. of_L (record { who = d; belongs = q; inside = (by d q, none) }))

-- so no list of acting desks' calls, whatever its numbers are, lets one of them that is not reached hear desk a
pub no_route_unheard : (s : Setup) → accepted s ≡ true → (acting : Acting) (a b : ℕ) → a < most_desks → acting a ≡ true → acting b ≡ true
    → ¬ HasRoute (linked_among s acting) a b → (calls : List Numbers) → OfActing s acting calls → heard s b calls ≡ heard s b (without s a calls)
no_route_unheard s e acting a b l acts hears unreached calls by =
    let links = linked_among s acting in
    let itself : HasRoute links a a = record { through = []; chain = (chain_none links a a).1 refl } in
    desk_unheard (unwound s e) (closed s acting a) a (acts, itself) calls (λ n i. sides s acting a e l n (by n i)) b (hears, unreached) fresh_store
