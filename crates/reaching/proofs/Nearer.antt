-- Laws of the number that one link more gives a desk, by whether a link leads on, and so of reach in n links by reach in one less.
-- Assumes nothing.
use Prim.Native.Nat.{ℕ, zero, suc, ◌+◌, ◌-◌, ◌<◌, ◌≤◌}
use mathlib.Core.Path.{◌≡◌, refl, sym, ◌∙◌}
use mathlib.Core.Bool.{true, false, cond, true≢false}
use mathlib.Core.List.{List}
use native.Mathlib.Nat.{le_antisymm}
use native.Mathlib.Omega.{arith}
use native.Mathlib.Numerals.{add-one, sub-one}
use borrow.Author.Tests.{lt-ltb, le-ltb, ltb-false, eqb-true, eqb-false, eq-eqb}
use lib.Dec.{ltb, eqb}
use lib.ListN.{length, get_or, set, replicate, length-set, length-replicate, get_or-replicate}
use lib.Seq.{get_or-set_same, get_or-set_other}
use Rattle.rules.specs.Sizes.{most_desks, some_below, table}
use Rattle.rules.proofs.Lists.{by_test, cond_holds}
use Rattle.rules.proofs.Sizes.{length-table, get_or-table, table_is, some_below-true, some_below_iff}
use Rattle.chains.specs.Chains.{Links, most_links, far, leads, nearer, reach}
use Rattle.chains.proofs.Reach.{leads_iff}
use Rattle.reaching.proofs.Linked.{get_or-inside}

module _ (links : Links) (before : List ℕ) (n d : ℕ) (l : d < length before) where
  -- a number that stood there stays
  pub nearer_was : get_or before d 0 < far → get_or before d 0 ≡ nearer links before n d
  unfolding nearer
  nearer_was h = rw (get_or-inside before d far 0 l, lt-ltb (get_or before d 0) far h)

  -- where none did, it is one more than n if a link leads on, and past every number of links if none does
  pub nearer_one : far ≤ get_or before d 0 → some_below most_desks (leads links before d n) ≡ true → n + 1 ≡ nearer links before n d
  unfolding nearer
  nearer_one h k = rw (get_or-inside before d far 0 l, le-ltb (get_or before d 0) far h, k) (add-one n)

  pub nearer_none : far ≤ get_or before d 0 → some_below most_desks (leads links before d n) ≡ false → far ≡ nearer links before n d
  unfolding nearer
  nearer_none h k = rw (get_or-inside before d far 0 l, le-ltb (get_or before d 0) far h, k)

module _ (links : Links) (b : ℕ) where
  -- in no link a desk reaches itself alone
  pub reach_none : b < most_desks → set (replicate most_desks far) b 0 ≡ reach links b 0
  unfolding reach
  reach_none l = table_is most_desks (λ d. cond (eqb d b) 0 far) (set (replicate most_desks far) b 0) 0 (length-set (replicate most_desks far) b 0 ∙ length-replicate most_desks far) at_each
    where
      at_each : (d : ℕ) → d < most_desks → get_or (set (replicate most_desks far) b 0) d 0 ≡ cond (eqb d b) 0 far
      at_each d k =
          by_test (eqb d b) (λ t. rw (t, eqb-true d b t) (get_or-set_same (replicate most_desks far) b 0 0 (rw length-replicate l)))
          (λ t. rw (t, get_or-set_other (replicate most_desks far) b d 0 0 (eqb-false d b t)) (get_or-replicate most_desks d far 0 k))

  -- in one link more, by the numbers of one link less
  pub reach_more : (n : ℕ) → (n ≡ 0 → ⊥) → table most_desks (nearer links (reach links b (n - 1)) (n - 1)) ≡ reach links b n
  unfolding reach
  reach_more zero h = absurd (h refl)
  reach_more (suc n) h = rw (sub-one (suc n))

  -- no number of links is past the one that stands for none
  reach-le : (n d : ℕ) → n ≤ most_links → d < most_desks → get_or (reach links b n) d far ≤ far
  unfolding reach nearer
  reach-le zero d h l = rw (get_or-table most_desks (λ u. cond (eqb u b) 0 far) d far l) (cond_holds (λ (v : ℕ). v ≤ far) (eqb d b) (λ t. omega arith) (λ t. omega arith))
  reach-le (suc n) d h l =
      rw (get_or-table most_desks (nearer links (reach links b n) n) d far l)
      (cond_holds (λ (v : ℕ). v ≤ far) (ltb (get_or (reach links b n) d far) far) (λ t. reach-le n d (omega arith) l)
      (λ t. cond_holds (λ (v : ℕ). v ≤ far) (some_below most_desks (leads links (reach links b n) d n)) (λ u. omega arith) (λ u. omega arith)))

  pub reach_long : (n : ℕ) → length (reach links b n) ≡ most_desks
  unfolding reach
  reach_long zero = length-table most_desks _
  reach_long (suc n) = length-table most_desks _

  -- where no desk stands n links from the end, one link more reaches no other desk
  module _ (n : ℕ) (h : n ≤ most_links) (none : some_below most_desks (λ e. eqb (get_or (reach links b n) e 0) n) ≡ false) where
    no_lead : (d : ℕ) → some_below most_desks (leads links (reach links b n) d n) ≡ false
    no_lead d =
        by_test (some_below most_desks (leads links (reach links b n) d n))
        (λ t.
        let (e, l, q) = (some_below_iff most_desks (leads links (reach links b n) d n)).0 t in
        let at : get_or (reach links b n) e far ≡ n = ((leads_iff links (reach links b n) d n e).0 q).1 in
        let there : get_or (reach links b n) e 0 ≡ n = get_or-inside (reach links b n) e 0 far (omega (arith, reach_long n)) ∙ at in
        absurd (true≢false (sym (some_below-true most_desks _ e l (eq-eqb _ n there)) ∙ none)))
        (λ t. t)

    reach-same : reach links b n ≡ table most_desks (nearer links (reach links b n) n)
    unfolding nearer
    reach-same =
        table_is most_desks _ (reach links b n) far (reach_long n)
        (λ d l.
        by_test (ltb (get_or (reach links b n) d far) far) (λ t. rw t)
        (λ t. rw (t, no_lead d) (le_antisymm (reach-le n d h l) (ltb-false (get_or (reach links b n) d far) far t))))

  -- so numbers of which none is n are those of one link more too
  pub none_stands : (before : List ℕ) (n : ℕ) → before ≡ reach links b n → n ≤ most_links → some_below (length before) (λ e. eqb (get_or before e 0) n) ≡ false
      → before ≡ table most_desks (nearer links (reach links b n) n)
  none_stands before n q h e = q ∙ reach-same n h (rw (q, reach_long n) at e)
