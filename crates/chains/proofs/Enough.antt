-- Where there is a route at all there is one of fewer links than desks: with the most desks, `most_links` links are enough.
-- Assumes nothing.
use Prim.Native.Nat.{ℕ, zero, suc, ◌-◌, ◌<◌, ◌≤◌}
use mathlib.Core.Path.{◌≡◌}
use mathlib.Core.Bool.{true}
use mathlib.Core.Logic.{◌↔◌, ⊎_elim}
use mathlib.Core.List.{List, []}
use native.Mathlib.Omega.{arith}
use borrow.Author.Tests.{ltb-true, ltb-false}
use lib.Dec.{ltb}
use lib.ListN.{length}
use Rattle.rules.specs.Sizes.{most_desks}
use Rattle.rules.proofs.Lists.{by_test}
use Rattle.chains.specs.Chains.{Links, is_chain, desk_at, HasRoute, ReachedIn, Fewest, Taken, most_links, far, fewest_links, chain_of}
use Rattle.chains.proofs.Chains.{AmongDesks, chain_none, chain_lt, detour, detour-length, detour_chain}
use Rattle.chains.proofs.Pigeons.{pigeons}
use Rattle.chains.proofs.Reach.{reach_iff, reach_else}
use Rattle.chains.proofs.Walk.{chain_of_taken}

module _ {n : ℕ} {links : Links} (among : AmongDesks n links) {a b : ℕ} where
  -- a chain of as many links as there are desks, or more, visits a desk twice, so a shorter one leaves the round between out
  cut_short : (m : ℕ) (xs : List ℕ) → length xs ≤ m → is_chain links a b xs ≡ true → ReachedIn links a b (n - 1)
  cut_short zero xs h c = record { through = xs; chain = c; short = omega arith }
  cut_short (suc m) xs h c =
      by_test (ltb (n - 1) (length xs))
      (λ t.
      let long = ltb-true (n - 1) (length xs) t in
      let w = pigeons n (suc (length xs)) (desk_at a xs) (λ i l. chain_lt among a b xs c (omega arith) i (omega arith)) (omega arith) in
      let i : w.one ≤ length xs = omega (arith, w.apart, w.inside) in
      let j : w.other ≤ length xs = omega (arith, w.inside) in
      cut_short m (detour xs w.one w.other []) (omega (arith, detour-length xs w.one w.other [] i, w.apart))
      (detour_chain links a b xs c w.one w.other i j [] ((chain_none links _ _).1 w.same)))
      (λ t. record { through = xs; chain = c; short = ltb-false (n - 1) (length xs) t })

  -- where there is a route, there is one of fewer links than there are desks
  pub enough-links : HasRoute links a b → ReachedIn links a b (n - 1)
  enough-links r = cut_short (length r.through) r.through (omega arith) r.chain

  -- so a chain with the fewest links has no more
  pub fewest_most : {xs : List ℕ} → Fewest links a b xs → length xs ≤ n - 1
  fewest_most {xs} f =
      let r = enough-links (record { through = xs; chain = f.chain }) in omega (arith, f.fewest r.through r.chain, r.short)

module _ (links : Links) (a b : ℕ) where
  -- what follows where the number of links stands below `far` and where it does not follows
  pub by_way {ℓ} : {C : Type ℓ} → (fewest_links links a b < far → C) → (far ≤ fewest_links links a b → C) → C
  by_way f g = let k = fewest_links links a b in by_test (ltb k far) (λ t. f (ltb-true k far t)) (λ t. g (ltb-false k far t))

  -- two things neither of which is so below `far`, and both of which are so past it, are one
  pub one_by_way : {P Q : Type 0} → (fewest_links links a b < far → (¬ P) × (¬ Q)) → (far ≤ fewest_links links a b → P × Q) → P ↔ Q
  one_by_way f g = by_way (λ near. (λ p. absurd ((f near).0 p), λ q. absurd ((f near).1 q))) (λ none. (λ p. (g none).1, λ q. (g none).0))

module _ {links : Links} (among : AmongDesks most_desks links) (a b : ℕ) (l : a < most_desks) where
  -- the number of links stands below `far` exactly where there is a route
  pub fewest_links_iff : (fewest_links links a b < far) ↔ HasRoute links a b
  fewest_links_iff =
      let i = reach_iff among b most_links (omega arith) a l in
      (λ h. let r = i.0 (omega arith) in record { through = r.through; chain = r.chain }, λ r. omega (arith, i.1 (enough-links among r)))

  -- and is `far` exactly where there is none
  pub fewest_links_none : (fewest_links links a b ≡ far) ↔ (¬ HasRoute links a b)
  fewest_links_none = (
    λ q r. omega (arith, fewest_links_iff.1 r),
    λ none. ⊎_elim (λ h. absurd (none (fewest_links_iff.0 (omega arith)))) (λ q. q) (reach_else among b most_links (omega arith) a l),
  )

  -- so there is a route or there is none,
  pub by_route {ℓ} : {C : Type ℓ} → (HasRoute links a b → C) → ((¬ HasRoute links a b) → C) → C
  by_route f g = by_way links a b (λ near. f (fewest_links_iff.0 near)) (λ none. g (λ r. omega (arith, none, fewest_links_iff.1 r)))

  -- and what is so exactly where there is none is told by the number
  pub way_tells : {P : Type 0} → P ↔ (¬ HasRoute links a b) → (fewest_links links a b < far → ¬ P) × (far ≤ fewest_links links a b → P)
  way_tells i = (λ near p. i.0 p (fewest_links_iff.0 near), λ none. i.1 (λ r. omega (arith, none, fewest_links_iff.1 r)))

  -- where there is a route, the report takes the chain that 01 says
  pub report_takes : HasRoute links a b → Taken links a b (chain_of links a b)
  report_takes r = chain_of_taken among a b l (fewest_links_iff.1 r)
