-- Laws of `every`, `some_below` and `table`.
-- Assumes nothing.
use Prim.Native.Nat.{ℕ, zero, suc, ◌+◌, ◌<◌, ◌≤◌}
use mathlib.Core.Path.{◌≡◌, refl, ap, sym, ◌∙◌, subst}
use mathlib.Core.Bool.{Bool, true, false, not, ◌&&◌, and-eq-true_iff, and-false, true≢false}
use mathlib.Core.List.{List}
use mathlib.Core.Logic.{◌↔◌, ⊎_elim}
use native.Mathlib.Nat.{not-suc-le-zero, le_of_suc-le-suc, eq-or-lt_of_le}
use native.Mathlib.Omega.{arith}
use borrow.Author.Tests.{not-true, not-false}
use lib.ListN.{length, get_or, take, drop, length-take, length-drop}
use lib.Seq.{ext_get_or, get_or-take, get_or-drop}
use Rattle.rules.specs.Sizes.{every, some_below, table}
use Rattle.rules.proofs.Lists.{by_test, not_both}

-- what holds of every number below n holds of each, and the other way
pub every-at : (n : ℕ) (p : ℕ → Bool) → every n p ≡ true → (k : ℕ) → k < n → p k ≡ true
unfolding every
every-at zero p e k h = absurd (not-suc-le-zero h)
every-at (suc n) p e k h =
    let b = (and-eq-true_iff (every n p) (p n)).0 e in
    ⊎_elim (λ q. subst (λ (i : ℕ). p i ≡ true) (sym q) b.1) (λ l. every-at n p b.0 k l)
    (eq-or-lt_of_le (le_of_suc-le-suc h))

pub every_true : (n : ℕ) (p : ℕ → Bool) → ((k : ℕ) → k < n → p k ≡ true) → every n p ≡ true
unfolding every
every_true zero p h = refl
every_true (suc n) p h = (and-eq-true_iff (every n p) (p n)).1 (every_true n p (λ k l. h k (omega arith)), h n (omega arith))

-- one number below n of which it does not hold is enough
pub every-false : (n : ℕ) (p : ℕ → Bool) (k : ℕ) → k < n → p k ≡ false → every n p ≡ false
unfolding every
every-false zero p k h e = absurd (not-suc-le-zero h)
every-false (suc n) p k h e =
    ⊎_elim (λ q. ap (λ (b : Bool). every n p && b) (subst (λ (i : ℕ). p i ≡ false) q e) ∙ and-false (every n p))
    (λ l. ap (λ (b : Bool). b && p n) (every-false n p k l e)) (eq-or-lt_of_le (le_of_suc-le-suc h))

-- where it does not hold of every number below n, there is one of which it does not
every_fails : (n : ℕ) (p : ℕ → Bool) → every n p ≡ false → (k : ℕ) × (k < n) × (p k ≡ false)
unfolding every
every_fails zero p e = absurd (true≢false e)
every_fails (suc n) p e =
    by_test (every n p) (λ t. (n, omega arith, (not_both (every n p) (p n)).0 e t))
    (λ f. let (k, l, h) = every_fails n p f in (k, omega arith, h))

-- conditions that agree below n are joined alike
pub every_cong : (n : ℕ) (p q : ℕ → Bool) → ((k : ℕ) → k < n → p k ≡ q k) → every n p ≡ every n q
unfolding every
every_cong zero p q h = refl
every_cong (suc n) p q h = cc (every_cong n p q (λ k l. h k (omega arith)), h n (omega arith))

pub length-table {ℓ} : {A : Type ℓ} (n : ℕ) (f : ℕ → A) → length (table n f) ≡ n
unfolding table
length-table zero f = refl
length-table (suc n) f = ap suc (length-table n (λ k. f (suc k)))

pub get_or-table {ℓ} : {A : Type ℓ} (n : ℕ) (f : ℕ → A) (k : ℕ) (d : A) → k < n → get_or (table n f) k d ≡ f k
unfolding table
get_or-table zero f k d h = absurd (not-suc-le-zero h)
get_or-table (suc n) f zero d h = refl
get_or-table (suc n) f (suc k) d h = get_or-table n (λ i. f (suc i)) k d (le_of_suc-le-suc h)

-- a list of n entries is the table of what stands at each
pub table_is {ℓ} : {A : Type ℓ} (n : ℕ) (f : ℕ → A) (xs : List A) (d : A) → length xs ≡ n → ((k : ℕ) → k < n → get_or xs k d ≡ f k) → xs ≡ table n f
table_is n f xs d l h =
    ext_get_or d xs (table n f) (l ∙ sym (length-table n f))
    (λ i b. let c : i < n = subst (λ (m : ℕ). i < m) l b in h i c ∙ sym (get_or-table n f i d c))

-- a condition on the entries of a part is one on the entries of the whole, from the part's start on
pub every_part : (xs : List ℕ) (start n : ℕ) (p : ℕ → ℕ → Bool) → start + n ≤ length xs
    → every (length (take n (drop start xs))) (λ i. p i (get_or (take n (drop start xs)) i 0)) ≡ every n (λ i. p i (get_or xs (start + i) 0))
every_part xs start n p h =
    let long : length (take n (drop start xs)) ≡ n = simp (length-take, length-drop) (omega arith) in
    ap (λ (k : ℕ). every k (λ i. p i (get_or (take n (drop start xs)) i 0))) long
    ∙ every_cong n _ _ (λ i l. ap (p i) (get_or-take n (drop start xs) i 0 l ∙ get_or-drop start xs i 0))

-- one number below n of which it holds is enough
pub some_below-true : (n : ℕ) (p : ℕ → Bool) (k : ℕ) → k < n → p k ≡ true → some_below n p ≡ true
unfolding some_below
some_below-true n p k h e = ap not (every-false n (λ i. not (p i)) k h (ap not e))

-- it holds of some number below n exactly where there is a number below n of which it holds
pub some_below_iff : (n : ℕ) (p : ℕ → Bool) → (some_below n p ≡ true) ↔ ((k : ℕ) × (k < n) × (p k ≡ true))
unfolding some_below
some_below_iff n p = (
  λ e. let (k, l, h) = every_fails n (λ i. not (p i)) (not-true _ e) in (k, l, not-false (p k) h),
  λ h. some_below-true n p h.0 h.1 h.2,
)
