-- Among more numbers below n than n, two are the same.
-- Assumes nothing.
use Prim.Native.Nat.{ℕ, zero, suc, ◌<◌}
use mathlib.Core.Path.{◌≡◌, sym, ◌∙◌}
use mathlib.Core.Bool.{true≢false, cond}
use native.Mathlib.Nat.{not-suc-le-zero}
use native.Mathlib.Omega.{arith}
use borrow.Author.Tests.{eqb-true, eqb-false, eq-eqb}
use lib.Dec.{eqb}
use Rattle.rules.specs.Sizes.{some_below}
use Rattle.rules.proofs.Lists.{by_test, cond_holds}
use Rattle.rules.proofs.Sizes.{some_below_iff, some_below-true}

-- two of the numbers f gives below m are the same
pub record Twice (m : ℕ) (f : ℕ → ℕ) : Type 0 where
  pub one : ℕ
  pub other : ℕ
  pub apart : one < other
  pub inside : other < m
  pub same : f one ≡ f other

-- z in place of n, and every other number as it is
abbrev placed : ℕ → ℕ → ℕ → ℕ
placed n z x = cond (eqb x n) z x

-- which tells numbers apart that are not z
placed_apart : (n z x y : ℕ) → (x ≡ z → ⊥) → (y ≡ z → ⊥) → placed n z x ≡ placed n z y → x ≡ y
placed_apart n z x y h k q =
    by_test (eqb x n)
    (λ t. by_test (eqb y n) (λ u. eqb-true x n t ∙ sym (eqb-true y n u)) (λ u. absurd (k (sym (rw (t, u) at q)))))
    (λ t. by_test (eqb y n) (λ u. absurd (h (rw (t, u) at q))) (λ u. rw (t, u) at q))

pub pigeons : (n m : ℕ) (f : ℕ → ℕ) → ((i : ℕ) → i < m → f i < n) → n < m → Twice m f
pigeons zero m f h l = absurd (not-suc-le-zero (h zero l))
pigeons (suc n) zero f h l = absurd (not-suc-le-zero l)
pigeons (suc n) (suc m) f h l =
    by_test (some_below m (λ i. eqb (f i) (f m)))
    (λ t.
    let (i, k, q) = (some_below_iff m (λ i. eqb (f i) (f m))).0 t in
    record { one = i; other = m; apart = k; inside = omega arith; same = eqb-true (f i) (f m) q })
    (λ t.
    let unlike : (i : ℕ) → i < m → f i ≡ f m → ⊥ = λ i k q. true≢false (sym (some_below-true m (λ i. eqb (f i) (f m)) i k (eq-eqb (f i) (f m) q)) ∙ t) in
    let w = pigeons n m (λ i. placed n (f m) (f i)) (fits unlike) (omega arith) in
    record {
      one = w.one;
      other = w.other;
      apart = w.apart;
      inside = omega (arith, w.inside);
      same = placed_apart n (f m) (f w.one) (f w.other) (unlike w.one (omega (arith, w.apart, w.inside))) (unlike w.other w.inside) w.same;
    })
  where
    fits : ((i : ℕ) → i < m → f i ≡ f m → ⊥) → (i : ℕ) → i < m → placed n (f m) (f i) < n
    fits unlike i k =
        cond_holds (λ (v : ℕ). v < n) (eqb (f i) n) (λ t. omega (arith, h m (omega arith), unlike i k, eqb-true (f i) n t))
        (λ t. omega (arith, h i (omega arith), eqb-false (f i) n t))
