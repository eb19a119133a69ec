-- A law of chains among the desks other than one, beside those of Avoids.
-- Assumes nothing.
use Prim.Native.Nat.{ℕ}
use mathlib.Core.Path.{◌≡◌, sym, ◌∙◌}
use mathlib.Core.Bool.{true, true≢false}
use mathlib.Core.Logic.{◌↔◌, ◌≢◌}
use mathlib.Core.List.{List}
use Rattle.rules.proofs.Lists.{by_test}
use Rattle.chains.specs.Chains.{Links, others, links_among, is_chain, HasRoute}
use Rattle.chains.proofs.Avoids.{is_on, avoids_iff}

module _ (links : Links) (c b : ℕ) where
  -- no route runs among the others exactly where c is on every chain
  pub on_every_chain : (a : ℕ) → a ≢ c → (¬ HasRoute (links_among (others c) links) a b) ↔ ((xs : List ℕ) → is_chain links a b xs ≡ true → is_on c xs ≡ true)
  on_every_chain a other = (
    λ none xs h. by_test (is_on c xs) (λ t. t) (λ t. absurd (none (record { through = xs; chain = (avoids_iff links c b a other xs).1 (h, t) }))),
    λ every r. let (h, t) = (avoids_iff links c b a other r.through).0 r.chain in true≢false (sym (every r.through h) ∙ t),
  )
