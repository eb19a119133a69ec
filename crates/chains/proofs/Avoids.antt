-- Laws of chains among the desks other than one: they are the chains that it is not on.
-- Assumes nothing.
use Prim.Native.Nat.{ℕ}
use mathlib.Core.Path.{◌≡◌, refl}
use mathlib.Core.Bool.{Bool, true, false, ◌||◌}
use mathlib.Core.Logic.{◌↔◌, ◌≢◌}
use mathlib.Core.List.{List, [], ◌∷◌}
use borrow.Author.Tests.{eqb-false, ne_eqb, not-true}
use lib.Dec.{eqb}
use Rattle.rules.proofs.Lists.{neither}
use Rattle.chains.specs.Chains.{Links, others, links_among, is_chain}
use Rattle.chains.proofs.Chains.{chain_none, chain_first, links_among_iff}

-- a desk is among the others exactly where it is not the one
pub others_iff : (c d : ℕ) → (others c d ≡ true) ↔ (d ≢ c)
others_iff c d = (λ h. eqb-false d c (not-true (eqb d c) h), λ h. rw (ne_eqb d c h))

-- desk c is one of those that a chain lists
unfoldable pub is_on : ℕ → List ℕ → Bool
is_on c [] = false
is_on c (d ∷ rest) = eqb d c || is_on c rest

module _ (links : Links) (c b : ℕ) where
  -- from a desk that is not c, a chain among the others is a chain that c is not on
  pub avoids_iff : (a : ℕ) → a ≢ c → (xs : List ℕ)
      → (is_chain (links_among (others c) links) a b xs ≡ true) ↔ ((is_chain links a b xs ≡ true) × (is_on c xs ≡ false))
  unfolding is_on
  avoids_iff a other [] =
      (λ h. ((chain_none links a b).1 ((chain_none (links_among (others c) links) a b).0 h), refl), λ h. (chain_none (links_among (others c) links) a b).1 ((chain_none links a b).0 h.0))
  avoids_iff a other (d ∷ xs) =
      let link = links_among_iff (others c) links a d in
      let one = chain_first links a b d xs in
      let past = chain_first (links_among (others c) links) a b d xs in
      let off = neither (eqb d c) (is_on c xs) in (
        λ h.
            let (l, r) = past.0 h in
            let (_, away, own) = link.0 l in
            let apart = (others_iff c d).0 away in
            let (chain, rest) = (avoids_iff d apart xs).0 r in
            (one.1 (own, chain), off.1 (ne_eqb d c apart, rest)),
        λ h.
            let (l, r) = one.0 h.0 in
            let (away, rest) = off.0 h.1 in
            let apart = eqb-false d c away in
            past.1 (link.1 ((others_iff c a).1 other, (others_iff c d).1 apart, l), (avoids_iff d apart xs).1 (r, rest)),
      )
