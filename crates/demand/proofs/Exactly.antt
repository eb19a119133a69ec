-- Demand 3, of any set of desks that act: desk B never hears desk A exactly where no route runs from A to B among them. The route report
-- is about every desk, and the gate report about the desks other than the gate.
-- Assumes nothing.
use Prim.Native.Nat.{ℕ, ◌<◌}
use mathlib.Core.Path.{◌≡◌, refl}
use mathlib.Core.Bool.{true}
use mathlib.Core.Logic.{◌↔◌, ◌≢◌}
use mathlib.Core.List.{List}
use native.Mathlib.Omega.{arith}
use Rattle.secrecy.specs.Sets.{Every}
use Rattle.rules.specs.Sizes.{most_desks}
use Rattle.rules.specs.Setups.{accepted}
use Rattle.rules.specs.Calls.{Is32}
use Rattle.rules.specs.Links.{linked}
use Rattle.rules.specs.declared.Numbers.{Numbers}
use Rattle.rules.specs.declared.Setup.{Setup}
use Rattle.chains.specs.Chains.{Acting, others, HasRoute, Fewest, chain_of}
use Rattle.chains.proofs.Chains.{every_desk}
use Rattle.chains.proofs.Acts.{linked_among, acting_most}
use Rattle.chains.proofs.Avoids.{others_iff}
use Rattle.chains.proofs.Enough.{report_takes}
use Rattle.demand.specs.Routes.{route_calls}
use Rattle.demand.specs.Heard.{heard, without, Unheard, NoneOf, GuardedBy, Shows}
use Rattle.demand.proofs.Routes.{OfActing, Allowed, route_calls_allowed}
use Rattle.demand.proofs.Shown.{route_shows}
use Rattle.demand.proofs.Unheard.{no_route_unheard}

-- no list of the acting desks' calls lets desk b hear whether desk a's are in it
abbrev UnheardAmong : Setup → Acting → ℕ → ℕ → Type 0
UnheardAmong s acting a b = (acts : List Numbers) → Every Is32 acts → OfActing s acting acts → heard s b acts ≡ heard s b (without s a acts)

module _ (s : Setup) (e : accepted s ≡ true) (acting : Acting) (a b : ℕ) (l : a < most_desks) (r : HasRoute (linked_among s acting) a b) where
  -- where a route runs, the report takes a chain with the fewest links
  takes_fewest : Fewest (linked_among s acting) a b (chain_of (linked_among s acting) a b)
  takes_fewest = (report_takes (acting_most s e acting) a b l r).of_fewest

  -- the list along it is of acting desks' calls, and shows the route
  pub report_allowed : Every (Allowed s acting) (route_calls s a (chain_of (linked_among s acting) a b))
  report_allowed = route_calls_allowed s e acting a b (chain_of (linked_among s acting) a b) takes_fewest.chain

  pub report_shows : a ≢ b → Shows s a b (route_calls s a (chain_of (linked_among s acting) a b))
  report_shows other = route_shows s e acting other takes_fewest

-- both halves together
exactly_among : (s : Setup) → accepted s ≡ true → (acting : Acting) (a b : ℕ) → a < most_desks → a ≢ b → acting a ≡ true → acting b ≡ true
    → UnheardAmong s acting a b ↔ (¬ HasRoute (linked_among s acting) a b)
exactly_among s e acting a b l other acts hears = (
  λ unheard r.
      let shows = report_shows s e acting a b l r other in
      let allowed = report_allowed s e acting a b l r in
      let z : ◌≡◌ {A = ℕ} 0 1 = cc (shows.with_them, shows.without_them, unheard _ (λ n m. (allowed n m).small) (λ n m. (allowed n m).by)) in
      omega arith,
  λ unreached calls small. no_route_unheard s e acting a b l acts hears unreached calls,
)

-- a call of the desks other than c is none of c's
pub none_of : (s : Setup) (c : ℕ) (acts : List Numbers) → OfActing s (others c) acts → NoneOf s c acts
none_of s c acts by n m q = (others_iff c c).0 (by n m c q) refl

module _ (s : Setup) (e : accepted s ≡ true) (a b : ℕ) (l : a < most_desks) (other : a ≢ b) where
  -- of every desk
  pub exactly : Unheard s a b ↔ (¬ HasRoute (linked s) a b)
  exactly =
      let i = exactly_among s e every_desk a b l other refl refl in
      (λ unheard. i.0 (λ acts small by. unheard acts small), λ none acts small. i.1 none acts small (λ n m d q. refl))

  -- of the desks other than one
  pub exactly_around : (c : ℕ) → a ≢ c → b ≢ c → GuardedBy s a b c ↔ (¬ HasRoute (linked_among s (others c)) a b)
  exactly_around c from onto =
      let i = exactly_among s e (others c) a b l other ((others_iff c a).1 from) ((others_iff c b).1 onto) in (
        λ guarded. i.0 (λ acts small by. guarded acts small (none_of s c acts by)),
        λ none acts small silent. i.1 none acts small (λ n m d q. (others_iff c d).1 (λ same. silent n m (rw same at q))),
      )
