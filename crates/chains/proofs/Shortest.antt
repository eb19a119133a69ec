-- Laws of a chain with the fewest links: what is left of it has the fewest too, it visits no desk twice and skips no desk by a link.
-- Assumes nothing.
use Prim.Native.Nat.{ℕ, suc, ◌+◌, ◌<◌, ◌≤◌}
use mathlib.Core.Path.{◌≡◌}
use mathlib.Core.Bool.{true}
use mathlib.Core.Logic.{◌≢◌}
use mathlib.Core.List.{List, [], ◌∷◌}
use native.Mathlib.Omega.{arith}
use lib.ListN.{length}
use Rattle.chains.specs.Chains.{Links, is_chain, desk_at, Fewest}
use Rattle.chains.proofs.Chains.{chain_none, chain_first, chain_link, detour, detour-length, detour_chain}

module _ {links : Links} {a b d : ℕ} {rest : List ℕ} (h : Fewest links a b (d ∷ rest)) where
  -- the rest of it has the fewest links
  pub fewest_rest : Fewest links d b rest
  fewest_rest =
      let (l, r) = (chain_first links a b d rest).0 h.chain in
      record { chain = r; fewest = λ ys k. omega (arith, h.fewest (d ∷ ys) ((chain_first links a b d ys).1 (l, k))) }

  -- the desk from which it runs is not the one to which it runs
  pub fewest_apart : a ≢ b
  fewest_apart q = omega (arith, h.fewest [] ((chain_none links a b).1 q))

module _ {links : Links} {a b : ℕ} {xs : List ℕ} (h : Fewest links a b xs) where
  -- between two of its desks no chain has fewer links
  pub between_fewest : (i j : ℕ) → i ≤ j → j ≤ length xs → (ys : List ℕ) → is_chain links (desk_at a xs i) (desk_at a xs j) ys ≡ true → j ≤ i + length ys
  between_fewest i j l m ys c =
      omega (arith, detour-length xs i j ys (omega arith), h.fewest (detour xs i j ys) (detour_chain links a b xs h.chain i j (omega arith) m ys c))

  -- it visits no desk twice
  pub desks_apart : (i j : ℕ) → i < j → j ≤ length xs → desk_at a xs i ≢ desk_at a xs j
  desks_apart i j l m q = omega (arith, between_fewest i j (omega arith) m [] ((chain_none links (desk_at a xs i) (desk_at a xs j)).1 q))

  -- no link runs from one of its desks past the next
  pub links_apart : (i j : ℕ) → suc i < j → j ≤ length xs → links (desk_at a xs i) (desk_at a xs j) ≡ true → ⊥
  links_apart i j l m k =
      let u = desk_at a xs j in omega (arith, between_fewest i j (omega arith) m (u ∷ []) (chain_link links (desk_at a xs i) u k))
