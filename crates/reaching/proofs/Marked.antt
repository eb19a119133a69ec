-- What the loop that marks each number among the first entries of a table keeps, and what it has marked at its end.
-- Assumes nothing.
use Prim.Native.Nat.{ℕ, ◌+◌, ◌<◌}
use mathlib.Core.Path.{◌≡◌, refl, sym, ◌∙◌}
use mathlib.Core.Bool.{Bool, true, false, not, ◌&&◌, ◌||◌, or-true, or-false}
use mathlib.Core.List.{List}
use native.Mathlib.Numerals.{add-one}
use native.Mathlib.Omega.{arith}
use borrow.Author.Tests.{eqb-true, eqb-false}
use lib.Dec.{eqb}
use lib.ListN.{length, get_or, set, replicate, length-set, length-replicate, get_or-replicate}
use lib.Seq.{get_or-set_same, get_or-set_other}
use Rattle.rules.specs.Sizes.{every, some_below}
use Rattle.rules.proofs.Lists.{by_test}
use Rattle.rules.proofs.Sizes.{table_is}
use Rattle.reaching.specs.Tables.{marks_of}

-- a condition holds of some number below n + 1 where it holds of some below n, or of n
pub some_more : (n : ℕ) (p : ℕ → Bool) → some_below (n + 1) p ≡ (some_below n p || p n)
unfolding some_below every
some_more n p = rw (add-one n) (either (every n (λ k. not (p k))) (p n))
  where
    either : (a b : Bool) → not (a && not b) ≡ (not a || b)
    either true true = refl
    either true false = refl
    either false b = refl

-- and of none below 0
pub some_none : (p : ℕ → Bool) → some_below 0 p ≡ false
unfolding some_below every
some_none p = refl

-- each number that stands among the first i entries is marked, and no other
pub record Marked (n : ℕ) (entries : List ℕ) (marks : List Bool) (i : ℕ) : Type 0 where
  pub long : length marks ≡ n
  pub each : (k : ℕ) → k < n → get_or marks k false ≡ some_below i (λ j. eqb (get_or entries j 0) k)

module _ (n : ℕ) (entries : List ℕ) where
  pub marked_none : Marked n entries (replicate n false) 0
  marked_none = record { long = length-replicate n false; each = λ k l. get_or-replicate n k false false l ∙ sym (some_none _) }

  pub marked_more : (marks : List Bool) (i : ℕ) → Marked n entries marks i → get_or entries i 0 < n → Marked n entries (set marks (get_or entries i 0) true) (i + 1)
  marked_more marks i h b =
      let at = get_or entries i 0 in
      record {
        long = length-set marks at true ∙ h.long;
        each = λ k m.
            rw (some_more i (λ j. eqb (get_or entries j 0) k))
            (by_test (eqb at k)
            (λ t. rw (t, or-true, eqb-true at k t) (get_or-set_same marks k true false (omega (arith, h.long))))
            (λ t. rw (t, or-false, get_or-set_other marks at k true false (λ q. eqb-false at k t (sym q))) (h.each k m)));
      }

  pub marked_all : (marks : List Bool) (i : ℕ) → Marked n entries marks i → i ≡ length entries → marks ≡ marks_of n entries
  unfolding marks_of
  marked_all marks i h l = table_is n _ marks false h.long (rw l at h.each)
