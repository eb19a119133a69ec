-- Laws of a table of links that a desk is taken out of: none runs from it, none to it, and every other link is as it was.
-- Assumes nothing.
use Prim.Native.Nat.{ℕ, ◌+◌, ◌*◌, ◌<◌, ◌≤◌}
use mathlib.Core.Path.{◌≡◌, refl, ap, sym, ◌∙◌, fun_ext}
use mathlib.Core.Bool.{false, ◌&&◌, and-eq-true_iff, and-false}
use mathlib.Core.Logic.{◌≢◌, ⊎_elim}
use mathlib.Core.List.{List}
use native.Mathlib.Nat.{eq-or-lt_of_le}
use native.Mathlib.Omega.{arith}
use borrow.Author.Tests.{ltb-true, eqb-true, eqb-false}
use lib.Dec.{ltb, eqb}
use lib.ListN.{length, get_or, set, length-set}
use lib.Seq.{get_or-set_same, get_or-set_other}
use Rattle.rules.specs.Sizes.{most_desks}
use Rattle.rules.proofs.Lists.{by_test, set_holds}
use Rattle.chains.specs.Chains.{others, links_among}
use Rattle.reaching.specs.Tables.{most_pairs, links_in}
use Rattle.reaching.proofs.Linked.{links_in-at}

-- desk c is taken out of a table as far as the desks before n: no link is marked from it to them or to it from them
pub record TakenOut (was : List ℕ) (c : ℕ) (links : List ℕ) (n : ℕ) : Type 0 where
  pub long : length links ≡ most_pairs
  pub none_from : (d : ℕ) → d < n → get_or links (c * most_desks + d) 0 ≡ 0
  pub none_to : (d : ℕ) → d < n → get_or links (d * most_desks + c) 0 ≡ 0
  pub others_are : (d e : ℕ) → d < most_desks → e < most_desks → d ≢ c → e ≢ c → get_or links (d * most_desks + e) 0 ≡ get_or was (d * most_desks + e) 0

pub taken_none : (was : List ℕ) (c : ℕ) → length was ≡ most_pairs → TakenOut was c was 0
taken_none was c l =
    record {
      long = l;
      none_from = λ d h. absurd (omega arith);
      none_to = λ d h. absurd (omega arith);
      others_are = λ d e k m x y. refl;
    }

-- one desk more
pub taken_more : (was : List ℕ) (c : ℕ) (links : List ℕ) (n : ℕ) → c < most_desks → TakenOut was c links n → n < most_desks
    → TakenOut was c (set (set links (c * most_desks + n) 0) (n * most_desks + c) 0) (n + 1)
taken_more was c links n desk h l =
    let from = set links (c * most_desks + n) 0 in
    let zero-stays : (xs : List ℕ) (i j : ℕ) → get_or xs j 0 ≡ 0 → get_or (set xs i 0) j 0 ≡ 0 = λ xs i j z. set_holds (λ (v : ℕ). v ≡ 0) xs i j 0 0 z (λ q. refl) in
    let put : (xs : List ℕ) (i : ℕ) → length xs ≡ most_pairs → i < most_pairs → get_or (set xs i 0) i 0 ≡ 0 = λ xs i m k. get_or-set_same xs i 0 0 (omega (arith, m)) in
    let long : length from ≡ most_pairs = length-set links (c * most_desks + n) 0 ∙ h.long in
    record {
      long = length-set from (n * most_desks + c) 0 ∙ long;
      none_from = λ d k.
          zero-stays from _ _
          (⊎_elim (λ q. rw q (put links (c * most_desks + n) h.long (omega arith))) (λ m. zero-stays links _ _ (h.none_from d m)) (eq-or-lt_of_le (omega arith)));
      none_to = λ d k.
          ⊎_elim (λ q. rw q (put from (n * most_desks + c) long (omega arith))) (λ m. zero-stays from _ _ (zero-stays links _ _ (h.none_to d m)))
          (eq-or-lt_of_le (omega arith));
      others_are = λ d e k m x y.
          get_or-set_other from (n * most_desks + c) (d * most_desks + e) 0 0 (λ q. y (omega (arith, q)))
          ∙ get_or-set_other links (c * most_desks + n) (d * most_desks + e) 0 0 (λ q. x (omega (arith, q)))
          ∙ h.others_are d e k m x y;
    }

module _ (was : List ℕ) (c : ℕ) (links : List ℕ) (n : ℕ) (h : TakenOut was c links n) (l : most_desks ≤ n) where
  -- where no mark stands no link runs
  unmarked : (d e : ℕ) → d < most_desks → e < most_desks → get_or links (d * most_desks + e) 0 ≡ 0 → links_in links d e ≡ false
  unmarked d e k m z = links_in-at links d e k m ∙ rw z

  -- so between desks the links are those among the others
  taken_at : (d e : ℕ) → d < most_desks → e < most_desks → links_in links d e ≡ links_among (others c) (links_in was) d e
  taken_at d e k m =
      by_test (eqb d c) (λ t. rw t (unmarked d e k m (rw (eqb-true d c t) (h.none_from e (omega arith)))))
      (λ t.
      by_test (eqb e c) (λ u. rw (t, u) (unmarked d e k m (rw (eqb-true e c u) (h.none_to d (omega arith)))))
      (λ u.
      let same = h.others_are d e k m (eqb-false d c t) (eqb-false e c u) in
      rw (t, u) (links_in-at links d e k m ∙ ap (λ (v : ℕ). eqb v 1) same ∙ sym (links_in-at was d e k m))))

  -- and from or to a number that is no desk none runs
  pub taken_all : links_in links ≡ links_among (others c) (links_in was)
  unfolding links_in
  taken_all =
      fun_ext (λ d. fun_ext (λ e.
      by_test (ltb d most_desks && ltb e most_desks)
      (λ t. let (k, m) = (and-eq-true_iff (ltb d most_desks) (ltb e most_desks)).0 t in taken_at d e (ltb-true d most_desks k) (ltb-true e most_desks m))
      (λ t. rw t (sym (and-false (others c d && others c e))))))
