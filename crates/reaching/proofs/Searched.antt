-- What a search for the lowest number below n of which a condition holds answers: it holds of no number passed.
-- Assumes nothing.
use Prim.Native.Nat.{ℕ, ◌<◌, ◌≤◌}
use mathlib.Core.Path.{◌≡◌, sym, ◌∙◌}
use mathlib.Core.Bool.{Bool, true, false, not, true≢false}
use native.Mathlib.Omega.{arith}
use borrow.Author.Tests.{ltb-true, ltb-false}
use lib.Dec.{ltb}
use Rattle.rules.proofs.Lists.{by_test}
use Rattle.rules.proofs.Passed.{Passed}
use Rattle.chains.specs.Chains.{lowest}
use Rattle.chains.proofs.Lowest.{lowest-le, lowest_holds, lowest_is}

-- the opposite held of each number before i, as docs/ names it
abbrev pub Searched : ℕ → (ℕ → Bool) → ℕ → Type 0
Searched n p = Passed n (λ k. not (p k))

-- it holds of no number before i
abbrev pub NoneBefore : (ℕ → Bool) → ℕ → Type 0
NoneBefore p i = (k : ℕ) → k < i → p k ≡ false

module _ (n : ℕ) (p : ℕ → Bool) (i : ℕ) (none : NoneBefore p i) where
  -- once all are passed, there is none
  pub searched_all : n ≤ i → n ≡ lowest n p
  searched_all l =
      by_test (ltb (lowest n p) n)
      (λ t. let b = ltb-true (lowest n p) n t in absurd (true≢false (sym (lowest_holds n p b) ∙ none (lowest n p) (omega arith))))
      (λ t. omega (arith, lowest-le n p, ltb-false (lowest n p) n t))

  -- the first of which it holds is the lowest
  pub found_at : i < n → p i ≡ true → i ≡ lowest n p
  found_at l e = sym (lowest_is n p i l e none)

  -- so is what such a search promises: a number of which it holds, or n
  pub searched : i ≤ n → (i < n → p i ≡ true) → i ≡ lowest n p
  searched l e = by_test (ltb i n) (λ t. let b = ltb-true i n t in found_at b (e b)) (λ t. let m = ltb-false i n t in let q : i ≡ n = omega (arith, l, m) in q ∙ searched_all m)
