-- Laws of reach: the number at a desk is the fewest links from it, and stands past them where no chain is that short.
-- Assumes nothing.
use Prim.Native.Nat.{ℕ, zero, suc, ◌<◌, ◌≤◌}
use mathlib.Core.Path.{◌≡◌, refl, sym, ◌∙◌}
use mathlib.Core.Bool.{true, false, cond, true≢false, and-eq-true_iff}
use mathlib.Core.Logic.{◌↔◌, ◌⊎◌, inl, inr}
use mathlib.Core.List.{List, [], ◌∷◌}
use native.Mathlib.Nat.{not-suc-le-zero}
use native.Mathlib.Omega.{arith}
use borrow.Author.Tests.{ltb-true, ltb-false, eqb-true, eqb-false, lt-ltb, eq-eqb}
use lib.Dec.{ltb, eqb}
use lib.ListN.{length, get_or}
use Rattle.rules.specs.Sizes.{most_desks, some_below}
use Rattle.rules.proofs.Lists.{by_test, cond_holds}
use Rattle.rules.proofs.Sizes.{get_or-table, some_below_iff, some_below-true}
use Rattle.chains.specs.Chains.{Links, is_chain, ReachedIn, Fewest, most_links, far, leads, nearer, reach}
use Rattle.chains.proofs.Chains.{AmongDesks, chain_none, chain_first, some_link}

-- no chain from a to b is as short as n links
abbrev pub NoneIn : Links → ℕ → ℕ → ℕ → Type 0
NoneIn links a b n = (ys : List ℕ) → is_chain links a b ys ≡ true → n < length ys

-- a number v of links tells how desk a reaches b: the fewest links where they are at most n, else that no chain is that short
pub data Tells (links : Links) (a b n v : ℕ) : Type 0 where
  fewest_links_lem : v ≤ n → (xs : List ℕ) → Fewest links a b xs → length xs ≡ v → Tells links a b n v
  no_chain : v ≡ far → NoneIn links a b n → Tells links a b n v

module _ {links : Links} {a b n v : ℕ} where
  tells_iff : n ≤ most_links → Tells links a b n v → (v ≤ n) ↔ ReachedIn links a b n
  tells_iff h (fewest_links_lem k xs f q) = (λ m. record { through = xs; chain = f.chain; short = omega arith }, λ m. k)
  tells_iff h (no_chain z none) = (λ m. absurd (omega arith), λ r. absurd (omega (arith, none r.through r.chain)))

  tells_fewest : n ≤ most_links → Tells links a b n v → v ≤ n → (xs : List ℕ) × Fewest links a b xs × (length xs ≡ v)
  tells_fewest h (fewest_links_lem k xs f q) m = (xs, f, q)
  tells_fewest h (no_chain z none) m = absurd (omega arith)

  tells_else : Tells links a b n v → (v ≤ n) ⊎ (v ≡ far)
  tells_else (fewest_links_lem k xs f q) = inl k
  tells_else (no_chain z none) = inr z

-- what is tested of a link to a desk that stands k links from the end
pub leads_iff : (links : Links) (to : List ℕ) (d k u : ℕ) → (leads links to d k u ≡ true) ↔ ((links d u ≡ true) × (get_or to u far ≡ k))
leads_iff links to d k u =
    let both = and-eq-true_iff (links d u) (eqb (get_or to u far) k) in
    (λ h. ((both.0 h).0, eqb-true (get_or to u far) k (both.0 h).1), λ h. both.1 (h.0, eq-eqb (get_or to u far) k h.1))

-- each desk's number tells how it reaches b
abbrev AllTell : Links → ℕ → ℕ → List ℕ → Type 0
AllTell links b n to = (d : ℕ) → d < most_desks → Tells links d b n (get_or to d far)

module _ {links : Links} (among : AmongDesks most_desks links) (b : ℕ) where
  -- in no link a desk reaches itself alone
  none_tells : (d : ℕ) → Tells links d b 0 (cond (eqb d b) 0 far)
  none_tells d =
      cond_holds (Tells links d b 0) (eqb d b)
      (λ t. fewest_links_lem (omega arith) [] (record { chain = (chain_none links d b).1 (eqb-true d b t); fewest = λ ys c. omega arith }) refl)
      (λ t. no_chain refl (λ ys c. some_link links d b ys c (eqb-false d b t)))

  module _ (before : List ℕ) (n : ℕ) (h : n < most_links) (tells : AllTell links b n before) (d : ℕ) (none : NoneIn links d b n) where
    -- a link to a desk that stands n links from the end makes a chain of one link more
    one_more : (u : ℕ) → links d u ≡ true → get_or before u far ≡ n → Tells links u b n (get_or before u far) → Tells links d b (suc n) (suc n)
    one_more u k q (fewest_links_lem l xs f m) =
        fewest_links_lem (omega arith) (u ∷ xs)
        (record { chain = (chain_first links d b u xs).1 (k, f.chain); fewest = λ ys c. omega (arith, none ys c) }) (omega arith)
    one_more u k q (no_chain z g) = absurd (omega arith)

    -- a desk that is the first of such a chain stands n links from the end
    first_at : (u : ℕ) (rest : List ℕ) → links d u ≡ true → is_chain links u b rest ≡ true → length rest ≤ n
        → Tells links u b n (get_or before u far) → get_or before u far ≡ n
    first_at u rest k r l (fewest_links_lem m xs f q) = omega (arith, none (u ∷ xs) ((chain_first links d b u xs).1 (k, f.chain)))
    first_at u rest k r l (no_chain z g) = absurd (omega (arith, g rest r))

    -- so where there is no such desk, no chain has one link more
    none_more : some_below most_desks (leads links before d n) ≡ false → NoneIn links d b (suc n)
    none_more t [] c = absurd (not-suc-le-zero (none [] c))
    none_more t (u ∷ rest) c =
        let (k, r) = (chain_first links d b u rest).0 c in
        let l = (among.ends d u k).1 in
        by_test (ltb n (length rest)) (λ w. omega (arith, ltb-true n (length rest) w))
        (λ w.
        let stands = first_at u rest k r (ltb-false n (length rest) w) (tells u l) in
        absurd (true≢false (sym (some_below-true most_desks (leads links before d n) u l ((leads_iff links before d n u).1 (k, stands))) ∙ t)))

  -- one link more tells as much of one link more
  nearer-tells : (before : List ℕ) (n : ℕ) → n < most_links → AllTell links b n before
      → (d : ℕ) → d < most_desks → Tells links d b (suc n) (nearer links before n d)
  unfolding nearer
  nearer-tells before n h tells d l = from (tells d l)
    where
      from : Tells links d b n (get_or before d far) → Tells links d b (suc n) (nearer links before n d)
      from (fewest_links_lem m xs f q) = rw (lt-ltb (get_or before d far) far (omega arith)) (fewest_links_lem (omega arith) xs f q)
      from (no_chain z none) =
          rw z
          (cond_holds (Tells links d b (suc n)) (some_below most_desks (leads links before d n))
          (λ t.
          let (u, k, q) = (some_below_iff most_desks (leads links before d n)).0 t in
          let (x, y) = (leads_iff links before d n u).0 q in
          one_more before n h tells d none u x y (tells u k))
          (λ t. no_chain refl (none_more before n h tells d none t)))

  -- "reached in at most n links when a chain that short exists": what the number at a desk tells
  pub reach-tells : (n : ℕ) → n ≤ most_links → (d : ℕ) → d < most_desks → Tells links d b n (get_or (reach links b n) d far)
  unfolding reach
  reach-tells zero h d l = rw (get_or-table most_desks (λ d. cond (eqb d b) 0 far) d far l) (none_tells d)
  reach-tells (suc n) h d l =
      rw (get_or-table most_desks (nearer links (reach links b n) n) d far l) (nearer-tells (reach links b n) n h (reach-tells n (omega arith)) d l)

  module _ (n : ℕ) (h : n ≤ most_links) (d : ℕ) (l : d < most_desks) where
    -- the number at a desk is at most n exactly where a chain that short exists
    pub reach_iff : (get_or (reach links b n) d far ≤ n) ↔ ReachedIn links d b n
    reach_iff = tells_iff h (reach-tells n h d l)

    -- it is then the fewest links from the desk to b
    pub reach_fewest : get_or (reach links b n) d far ≤ n → (xs : List ℕ) × Fewest links d b xs × (length xs ≡ get_or (reach links b n) d far)
    reach_fewest = tells_fewest h (reach-tells n h d l)

    -- and there is no number between n and `far`
    pub reach_else : (get_or (reach links b n) d far ≤ n) ⊎ (get_or (reach links b n) d far ≡ far)
    reach_else = tells_else (reach-tells n h d l)
