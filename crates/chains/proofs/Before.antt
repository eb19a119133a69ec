-- Laws of the order of lists by the first difference.
-- Assumes nothing.
use Prim.Native.Nat.{ℕ, ◌≤◌}
use mathlib.Core.Path.{◌≡◌, refl, sym}
use mathlib.Core.Bool.{Bool, false}
use mathlib.Core.Logic.{◌↔◌}
use mathlib.Core.List.{List, [], ◌∷◌}
use native.Mathlib.Omega.{arith}
use borrow.Author.Tests.{ltb-false, eqb-true, eqb-false, le-ltb}
use lib.Dec.{eqb}
use lib.ListN.{length}
use Rattle.rules.proofs.Lists.{by_test, cond_holds}
use Rattle.chains.specs.Chains.{is_before}

-- a list is not before another where the other's first number is no greater and, if it is the same, the rest is not before the other's
pub not-before_iff : (x y : ℕ) (xs ys : List ℕ) → (is_before (x ∷ xs) (y ∷ ys) ≡ false) ↔ ((y ≤ x) × (x ≡ y → is_before xs ys ≡ false))
unfolding is_before
not-before_iff x y xs ys = (
  λ h.
      by_test (eqb x y) (λ t. let same = eqb-true x y t in (omega arith, λ z. rw t at h))
      (λ t. (ltb-false x y (rw t at h), λ same. absurd (eqb-false x y t same))),
  λ h. cond_holds (λ (t : Bool). t ≡ false) (eqb x y) (λ t. h.1 (eqb-true x y t)) (λ t. le-ltb x y h.0),
)

-- lists of one length neither of which is before the other are the same
pub neither_before : (xs ys : List ℕ) → length xs ≡ length ys → is_before xs ys ≡ false → is_before ys xs ≡ false → xs ≡ ys
neither_before [] [] q f g = refl
neither_before [] (y ∷ ys) q f g = absurd (omega arith)
neither_before (x ∷ xs) [] q f g = absurd (omega arith)
neither_before (x ∷ xs) (y ∷ ys) q f g =
    let (k, z) = (not-before_iff x y xs ys).0 f in
    let (l, w) = (not-before_iff y x ys xs).0 g in
    let same : x ≡ y = omega arith in
    cc (neither_before xs ys (omega arith) (z same) (w (sym same)))
