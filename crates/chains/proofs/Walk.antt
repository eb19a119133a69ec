-- Laws of the chain that the report takes: it has the fewest links, and no other of as many has the smaller desk at the first difference.
-- Assumes nothing.
use Prim.Native.Nat.{ℕ, zero, suc, ◌<◌, ◌≤◌}
use mathlib.Core.Path.{◌≡◌, refl, ap, sym, ◌∙◌}
use mathlib.Core.Bool.{true, false}
use mathlib.Core.List.{List, [], ◌∷◌}
use native.Mathlib.Omega.{arith}
use lib.ListN.{length}
use Rattle.rules.specs.Sizes.{most_desks, some_below}
use Rattle.rules.proofs.Sizes.{some_below-true}
use Rattle.chains.specs.Chains.{Links, is_chain, Fewest, is_before, Taken, most_links, far, leads, reach, fewest_links, next_desk, walk, chain_of}
use Rattle.chains.proofs.Lowest.{lowest_iff, lowest_holds, lowest_below}
use Rattle.chains.proofs.Before.{not-before_iff, neither_before}
use Rattle.chains.proofs.Chains.{AmongDesks, chain_first}
use Rattle.chains.proofs.Reach.{Tells, fewest_links_lem, no_chain, leads_iff, reach-tells, reach_fewest}

pub walk-length : (links : Links) (to : List ℕ) (d k : ℕ) → length (walk links to d k) ≡ k
unfolding walk
walk-length links to d zero = refl
walk-length links to d (suc k) = ap suc (walk-length links to (next_desk links to d k) k)

-- desk d stands k links from b
record Stands (links : Links) (d b k : ℕ) : Type 0 where
  is_desk : d < most_desks
  many : fewest_links links d b ≡ k
  near : k < far

module _ {links : Links} (among : AmongDesks most_desks links) (b : ℕ) where
  -- how far each desk stands from b
  abbrev to : List ℕ
  to = reach links b most_links

  -- so many are the fewest links from it
  stands_fewest : {d k : ℕ} → Stands links d b k → (xs : List ℕ) × Fewest links d b xs × (length xs ≡ k)
  stands_fewest {d} at =
      let (xs, f, q) = reach_fewest among b most_links (omega arith) d at.is_desk (omega (arith, at.many, at.near)) in (xs, f, q ∙ at.many)

  module _ {d k : ℕ} (at : Stands links d b (suc k)) where
    module _ (u : ℕ) (rest : List ℕ) (c : is_chain links d b (u ∷ rest) ≡ true) (q : length rest ≡ k) where
      -- the first desk of a chain of as many links stands one link nearer
      first_stands : Stands links u b k
      first_stands =
          let (l, r) = (chain_first links d b u rest).0 c in
          let desk = (among.ends d u l).1 in
          record { is_desk = desk; many = from l r (reach-tells among b most_links (omega arith) u desk); near = omega (arith, at.near) }
        where
          from : links d u ≡ true → is_chain links u b rest ≡ true → Tells links u b most_links (fewest_links links u b) → fewest_links links u b ≡ k
          from l r (fewest_links_lem m xs f z) =
              let (ys, g, w) = stands_fewest at in
              omega (arith, f.fewest rest r, g.fewest (u ∷ xs) ((chain_first links d b u xs).1 (l, f.chain)))
          from l r (no_chain z none) = absurd (omega (arith, none rest r, at.near))

      -- so it is one of those of which the lowest is next
      first_leads : leads links to d k u ≡ true
      first_leads = (leads_iff links to d k u).1 (((chain_first links d b u rest).0 c).0, first_stands.many)

      -- and the next desk is none above it
      next_le : next_desk links to d k ≤ u
      unfolding next_desk
      next_le = lowest_below most_desks (leads links to d k) u first_leads

    -- the next desk has a link from here and stands one link nearer
    next_stands : (links d (next_desk links to d k) ≡ true) × Stands links (next_desk links to d k) b k
    unfolding next_desk
    next_stands =
        let (xs, f, q) = stands_fewest at in
        let h = (lowest_iff most_desks (leads links to d k)).1 (some_leads xs f.chain q) in
        let (l, m) = (leads_iff links to d k _).0 (lowest_holds most_desks (leads links to d k) h) in
        (l, record { is_desk = h; many = m; near = omega (arith, at.near) })
      where
        some_leads : (xs : List ℕ) → is_chain links d b xs ≡ true → length xs ≡ suc k → some_below most_desks (leads links to d k) ≡ true
        some_leads [] c q = absurd (omega arith)
        some_leads (u ∷ rest) c q =
            some_below-true most_desks (leads links to d k) u (first_stands u rest c (omega arith)).is_desk (first_leads u rest c (omega arith))

  walk_chain : (k d : ℕ) → Stands links d b k → is_chain links d b (walk links to d k) ≡ true
  unfolding walk
  walk_chain zero d at = let (xs, f, q) = stands_fewest at in empty xs f.chain q
    where
      empty : (xs : List ℕ) → is_chain links d b xs ≡ true → length xs ≡ 0 → is_chain links d b [] ≡ true
      empty [] c q = c
      empty (u ∷ xs) c q = absurd (omega arith)
  walk_chain (suc k) d at = let (l, next) = next_stands at in (chain_first links d b _ _).1 (l, walk_chain k _ next)

  walk_first : (k d : ℕ) → Stands links d b k → (ys : List ℕ) → is_chain links d b ys ≡ true → length ys ≡ k → is_before ys (walk links to d k) ≡ false
  unfolding walk is_before
  walk_first k d at [] c q = refl
  walk_first zero d at (u ∷ ys) c q = absurd (omega arith)
  walk_first (suc k) d at (u ∷ ys) c q =
      let next = next_desk links to d k in
      (not-before_iff u next ys (walk links to next k)).1 (
        next_le at u ys c (omega arith),
        λ same. walk_first k next (next_stands at).1 ys (rw same at ((chain_first links d b u ys).0 c).1) (omega arith),
      )

-- the chain that the report takes has as many links as the report says
pub chain_of-length : (links : Links) (a b : ℕ) → length (chain_of links a b) ≡ fewest_links links a b
unfolding chain_of
chain_of-length links a b = walk-length links (reach links b most_links) a (fewest_links links a b)

-- "The report takes the fewest links k; among those, the chain with the smallest desk number at the first difference"
pub chain_of_taken : {links : Links} → AmongDesks most_desks links → (a b : ℕ) → a < most_desks → fewest_links links a b < far → Taken links a b (chain_of links a b)
unfolding chain_of
chain_of_taken {links} among a b l h =
    let k = fewest_links links a b in
    let at : Stands links a b k = record { is_desk = l; many = refl; near = h } in
    let (xs, f, q) = stands_fewest among b at in
    let long = walk-length links (reach links b most_links) a k in
    record {
      of_fewest = record { chain = walk_chain among b k a at; fewest = λ ys c. omega (arith, f.fewest ys c) };
      first = λ ys c m. walk_first among b k a at ys c (m ∙ long);
    }

-- only one chain is the one to take
pub taken_only : {links : Links} {a b : ℕ} {xs ys : List ℕ} → Taken links a b xs → Taken links a b ys → xs ≡ ys
taken_only {xs} {ys} t u =
    let q : length xs ≡ length ys = omega (arith, t.of_fewest.fewest ys u.of_fewest.chain, u.of_fewest.fewest xs t.of_fewest.chain) in
    neither_before xs ys q (u.first xs t.of_fewest.chain q) (t.first ys u.of_fewest.chain (sym q))
