-- The laws of a list that has one more in front where a test passes.
-- Assumes nothing.
use Prim.Native.Nat.{suc, ◌≤◌}
use native.Mathlib.Omega.{arith}
use mathlib.Core.Path.{◌≡◌, refl}
use mathlib.Core.Bool.{Bool, true, false}
use mathlib.Core.List.{List, ◌∷◌, ◌++◌}
use lib.Dec.{T}
use lib.ListN.{length}
use Rattle.secrecy.specs.Machine.{front_if}

module _ {A : Type 0} where
  pub front_if_passes : (b : Bool) → T b → (x : A) (xs : List A) → front_if b x xs ≡ x ∷ xs
  front_if_passes true t x xs = refl
  front_if_passes false t x xs = absurd t

  pub front_if_fails : (b : Bool) → ¬ T b → (x : A) (xs : List A) → front_if b x xs ≡ xs
  front_if_fails true f x xs = absurd (f tt)
  front_if_fails false f x xs = refl

  pub front_if_agree : (b : Bool) {x y : A} → (T b → x ≡ y) → (xs : List A) → front_if b x xs ≡ front_if b y xs
  front_if_agree true e xs = rw (e tt)
  front_if_agree false e xs = refl

  pub front_if_append : (b : Bool) (x : A) (xs ys : List A) → front_if b x (xs ++ ys) ≡ front_if b x xs ++ ys
  front_if_append true x xs ys = refl
  front_if_append false x xs ys = refl

  pub front_if-length : (b : Bool) (x : A) (xs : List A) → length (front_if b x xs) ≤ suc (length xs)
  front_if-length true x xs = omega arith
  front_if-length false x xs = omega arith
