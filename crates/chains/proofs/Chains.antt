-- Laws of chains: their links, their parts, and the desks that they run over.
-- Assumes nothing.
use Prim.Native.Nat.{ℕ, zero, suc, ◌+◌, ◌-◌, ◌<◌, ◌≤◌}
use mathlib.Core.Path.{◌≡◌, refl}
use mathlib.Core.Bool.{true, ◌&&◌, and-eq-true_iff}
use mathlib.Core.Logic.{◌↔◌, ◌≢◌}
use mathlib.Core.List.{List, [], ◌∷◌, ◌++◌}
use native.Mathlib.Nat.{not-suc-le-zero, le_of_suc-le-suc}
use native.Mathlib.Omega.{arith}
use borrow.Author.Tests.{eqb-true, eq-eqb}
use lib.ListN.{length, take, drop, length-append, length-take, length-drop}
use Rattle.chains.specs.Chains.{Links, Acting, links_among, is_chain, desk_at}

-- links run among the desks below n alone
pub record AmongDesks (n : ℕ) (links : Links) : Type 0 where
  pub ends : (d u : ℕ) → links d u ≡ true → (d < n) × (u < n)

module _ (links : Links) where
  -- what is tested of a chain of no link, and of one that has a first link
  pub chain_none : (a b : ℕ) → (is_chain links a b [] ≡ true) ↔ (a ≡ b)
  unfolding is_chain
  chain_none a b = (eqb-true a b, eq-eqb a b)

  pub chain_first : (a b d : ℕ) (rest : List ℕ) → (is_chain links a b (d ∷ rest) ≡ true) ↔ ((links a d ≡ true) × (is_chain links d b rest ≡ true))
  unfolding is_chain
  chain_first a b d rest = and-eq-true_iff (links a d) (is_chain links d b rest)

  -- a link is a chain
  pub chain_link : (a b : ℕ) → links a b ≡ true → is_chain links a b (b ∷ []) ≡ true
  chain_link a b h = (chain_first a b b []).1 (h, (chain_none b b).1 refl)

  -- a chain to another desk has a link
  pub some_link : (a b : ℕ) (xs : List ℕ) → is_chain links a b xs ≡ true → a ≢ b → 0 < length xs
  some_link a b [] c h = absurd (h ((chain_none a b).0 c))
  some_link a b (d ∷ xs) c h = omega arith

  -- a chain to the desk where another starts makes one chain with it
  pub chain_joined : (a b c : ℕ) (xs ys : List ℕ) → is_chain links a b xs ≡ true → is_chain links b c ys ≡ true → is_chain links a c (xs ++ ys) ≡ true
  chain_joined a b c [] ys h k = rw ((chain_none a b).0 h) k
  chain_joined a b c (d ∷ xs) ys h k =
      let (l, r) = (chain_first a b d xs).0 h in (chain_first a c d (xs ++ ys)).1 (l, chain_joined d b c xs ys r k)

  -- as far as one of its desks a chain is a chain to that desk, and from there on a chain from it
  chain_front : (a b : ℕ) (xs : List ℕ) → is_chain links a b xs ≡ true → (i : ℕ) → i ≤ length xs → is_chain links a (desk_at a xs i) (take i xs) ≡ true
  chain_front a b xs h zero l = (chain_none a a).1 refl
  chain_front a b [] h (suc i) l = absurd (not-suc-le-zero l)
  chain_front a b (d ∷ xs) h (suc i) l =
      let (k, r) = (chain_first a b d xs).0 h in (chain_first a (desk_at d xs i) d (take i xs)).1 (k, chain_front d b xs r i (le_of_suc-le-suc l))

  chain_back : (a b : ℕ) (xs : List ℕ) → is_chain links a b xs ≡ true → (i : ℕ) → i ≤ length xs → is_chain links (desk_at a xs i) b (drop i xs) ≡ true
  chain_back a b xs h zero l = h
  chain_back a b [] h (suc i) l = absurd (not-suc-le-zero l)
  chain_back a b (d ∷ xs) h (suc i) l = chain_back d b xs ((chain_first a b d xs).0 h).1 i (le_of_suc-le-suc l)

  -- a link runs from each desk of a chain to the next
  pub link_at : (a b : ℕ) (xs : List ℕ) → is_chain links a b xs ≡ true → (i : ℕ) → i < length xs → links (desk_at a xs i) (desk_at a xs (suc i)) ≡ true
  link_at a b [] h i l = absurd (not-suc-le-zero l)
  link_at a b (d ∷ xs) h zero l = ((chain_first a b d xs).0 h).0
  link_at a b (d ∷ xs) h (suc i) l = link_at d b xs ((chain_first a b d xs).0 h).1 i (le_of_suc-le-suc l)

-- a chain of some links is one of any links that have them
pub chain_mono : {links more : Links} → ((d u : ℕ) → links d u ≡ true → more d u ≡ true)
    → (a b : ℕ) (xs : List ℕ) → is_chain links a b xs ≡ true → is_chain more a b xs ≡ true
chain_mono {links} {more} has a b [] h = (chain_none more a b).1 ((chain_none links a b).0 h)
chain_mono {links} {more} has a b (d ∷ xs) h =
    let (l, r) = (chain_first links a b d xs).0 h in (chain_first more a b d xs).1 (has a d l, chain_mono has d b xs r)

-- where every desk acts, the links among them are all
abbrev pub every_desk : Acting
every_desk d = true

-- what is tested of a link among the desks that act
pub links_among_iff : (acting : Acting) (links : Links) (d u : ℕ)
    → (links_among acting links d u ≡ true) ↔ ((acting d ≡ true) × (acting u ≡ true) × (links d u ≡ true))
links_among_iff acting links d u =
    let both = and-eq-true_iff (acting d) (acting u) in
    let all = and-eq-true_iff (acting d && acting u) (links d u) in
    (λ h. let (k, l) = all.0 h in ((both.0 k).0, (both.0 k).1, l), λ h. all.1 (both.1 (h.0, h.1), h.2))

-- it is one of the links, so it runs among the same desks
pub links_among_own : (acting : Acting) (links : Links) (d u : ℕ) → links_among acting links d u ≡ true → links d u ≡ true
links_among_own acting links d u h = ((links_among_iff acting links d u).0 h).2

pub links_among_desks : {n : ℕ} {links : Links} (acting : Acting) → AmongDesks n links → AmongDesks n (links_among acting links)
links_among_desks {links} acting within = record { ends = λ d u h. within.ends d u (links_among_own acting links d u h) }

-- a chain that has a link runs over desks among which the links run
pub chain_lt : {n : ℕ} {links : Links} → AmongDesks n links
    → (a b : ℕ) (xs : List ℕ) → is_chain links a b xs ≡ true → 0 < length xs → (i : ℕ) → i ≤ length xs → desk_at a xs i < n
chain_lt {links} among a b xs h l zero k = (among.ends a (desk_at a xs 1) (link_at links a b xs h zero l)).0
chain_lt {links} among a b xs h l (suc i) k = (among.ends (desk_at a xs i) (desk_at a xs (suc i)) (link_at links a b xs h i k)).1

-- a chain goes another way from place i to place j: as far as i, by ys, and on from j
abbrev pub detour : List ℕ → ℕ → ℕ → List ℕ → List ℕ
detour xs i j ys = take i xs ++ (ys ++ drop j xs)

pub detour-length : (xs : List ℕ) (i j : ℕ) (ys : List ℕ) → i ≤ length xs → length (detour xs i j ys) ≡ i + (length ys + (length xs - j))
detour-length xs i j ys l = simp (length-append, length-take, length-drop) (omega arith)

pub detour_chain : (links : Links) (a b : ℕ) (xs : List ℕ) → is_chain links a b xs ≡ true → (i j : ℕ) → i ≤ length xs → j ≤ length xs
    → (ys : List ℕ) → is_chain links (desk_at a xs i) (desk_at a xs j) ys ≡ true → is_chain links a b (detour xs i j ys) ≡ true
detour_chain links a b xs h i j l m ys c =
    chain_joined links a (desk_at a xs i) b (take i xs) (ys ++ drop j xs) (chain_front links a b xs h i l)
    (chain_joined links (desk_at a xs i) (desk_at a xs j) b ys (drop j xs) c (chain_back links a b xs h j m))
