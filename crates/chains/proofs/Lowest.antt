-- Laws of the lowest number of which a condition holds.
-- Assumes nothing.
use Prim.Native.Nat.{ℕ, zero, suc, ◌<◌, ◌≤◌}
use mathlib.Core.Path.{◌≡◌, sym, ◌∙◌}
use mathlib.Core.Bool.{Bool, true, false, true≢false}
use mathlib.Core.Logic.{◌↔◌}
use native.Mathlib.Nat.{not-suc-le-zero, le_of_suc-le-suc}
use native.Mathlib.Omega.{arith}
use borrow.Author.Tests.{ltb-true, ltb-false}
use lib.Dec.{ltb}
use Rattle.rules.specs.Sizes.{some_below}
use Rattle.rules.proofs.Lists.{by_test, cond_holds}
use Rattle.rules.proofs.Sizes.{some_below_iff}
use Rattle.chains.specs.Chains.{lowest}

pub lowest-le : (n : ℕ) (p : ℕ → Bool) → lowest n p ≤ n
unfolding lowest
lowest-le zero p = omega arith
lowest-le (suc n) p = cond_holds (λ (m : ℕ). m ≤ suc n) (p zero) (λ t. omega arith) (λ t. omega (arith, lowest-le n (λ k. p (suc k))))

-- below n, the condition holds of it
pub lowest_holds : (n : ℕ) (p : ℕ → Bool) → lowest n p < n → p (lowest n p) ≡ true
unfolding lowest
lowest_holds zero p h = absurd (not-suc-le-zero h)
lowest_holds (suc n) p h =
    cond_holds (λ (m : ℕ). m < suc n → p m ≡ true) (p zero) (λ t l. t) (λ t l. lowest_holds n (λ k. p (suc k)) (le_of_suc-le-suc l)) h

-- and of no number below it
pub lowest-least : (n : ℕ) (p : ℕ → Bool) (k : ℕ) → k < lowest n p → p k ≡ false
unfolding lowest
lowest-least zero p k h = absurd (not-suc-le-zero h)
lowest-least (suc n) p zero h = cond_holds (λ (m : ℕ). zero < m → p zero ≡ false) (p zero) (λ t l. absurd (not-suc-le-zero l)) (λ t l. t) h
lowest-least (suc n) p (suc k) h =
    cond_holds (λ (m : ℕ). suc k < m → p (suc k) ≡ false) (p zero) (λ t l. absurd (not-suc-le-zero l))
    (λ t l. lowest-least n (λ i. p (suc i)) k (le_of_suc-le-suc l)) h

-- no number of which the condition holds is below it
pub lowest_below : (n : ℕ) (p : ℕ → Bool) (k : ℕ) → p k ≡ true → lowest n p ≤ k
lowest_below n p k e =
    by_test (ltb k (lowest n p)) (λ t. absurd (true≢false (sym e ∙ lowest-least n p k (ltb-true k (lowest n p) t)))) (ltb-false k (lowest n p))

-- it is below n exactly where the condition holds of some number below n
pub lowest_iff : (n : ℕ) (p : ℕ → Bool) → (lowest n p < n) ↔ (some_below n p ≡ true)
lowest_iff n p = (
  λ h. (some_below_iff n p).1 (lowest n p, h, lowest_holds n p h),
  λ e. let (k, l, q) = (some_below_iff n p).0 e in omega (arith, lowest_below n p k q),
)

-- a number of which the condition holds, and of none below it, is the lowest
pub lowest_is : (n : ℕ) (p : ℕ → Bool) (k : ℕ) → k < n → p k ≡ true → ((j : ℕ) → j < k → p j ≡ false) → lowest n p ≡ k
lowest_is n p k h e least =
    let low = lowest_below n p k e in
    by_test (ltb (lowest n p) k) (λ t. let l = ltb-true (lowest n p) k t in absurd (true≢false (sym (lowest_holds n p (omega arith)) ∙ least (lowest n p) l)))
    (λ t. omega (arith, ltb-false (lowest n p) k t))
