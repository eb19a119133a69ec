-- Laws of tests, choices and lists that the laws of the rules share.
-- Assumes nothing.
use Prim.Native.Nat.{ℕ, zero, suc, ◌<◌}
use mathlib.Core.Path.{◌≡◌, refl, ap}
use mathlib.Core.Bool.{Bool, true, false, ◌&&◌, ◌||◌, cond, and-eq-true_iff, true≢false, false≢true}
use mathlib.Core.Logic.{◌↔◌}
use mathlib.Core.List.{List, [], ◌∷◌, foldl}
use mathlib.Core.Option.{some}
use native.Mathlib.Nat.{not-suc-le-zero, le_of_suc-le-suc}
use native.Mathlib.Omega.{arith}
use lib.ListN.{length, get_or, get_elem?, set, replicate}
use Rattle.rules.specs.Setups.{all_of}

-- what follows from a test's passing and from its failing follows
pub by_test {ℓ} : {C : Type ℓ} (b : Bool) → (b ≡ true → C) → (b ≡ false → C) → C
by_test true f g = f refl
by_test false f g = g refl

-- what holds of both sides of a choice, each under its test, holds of the choice
pub cond_holds {ℓ κ} : {A : Type ℓ} (P : A → Type κ) (b : Bool) {x y : A} → (b ≡ true → P x) → (b ≡ false → P y) → P (cond b x y)
cond_holds P true f g = f refl
cond_holds P false f g = g refl

-- each condition of a list holds
abbrev pub Met : List Bool → Type 0
Met [] = Unit {0}
Met (c ∷ cs) = (c ≡ true) × Met cs

-- all of a list hold exactly where each does
pub met_iff : (conditions : List Bool) → (all_of conditions ≡ true) ↔ Met conditions
met_iff conditions = let i = joined true conditions in (λ e. (i.0 e).1, λ m. i.1 (refl, m))
  where
    joined : (held : Bool) (cs : List Bool) → (foldl ◌&&◌ held cs ≡ true) ↔ ((held ≡ true) × Met cs)
    joined held [] = (λ e. (e, tt), λ m. m.0)
    joined held (c ∷ cs) =
        let i = joined (held && c) cs in
        let b = and-eq-true_iff held c in (
          λ e. let (h, m) = i.0 e in ((b.0 h).0, ((b.0 h).1, m)),
          λ m. i.1 (b.1 (m.0, m.1.0), m.1.1),
        )

-- not one of two tests passes exactly where both fail
pub neither : (a b : Bool) → (a || b ≡ false) ↔ ((a ≡ false) × (b ≡ false))
neither true b = (λ e. absurd (true≢false e), λ h. h.0)
neither false b = (λ e. (refl, e), λ h. h.1)

-- two tests do not both pass exactly where the second fails if the first passes
pub not_both : (a b : Bool) → (a && b ≡ false) ↔ (a ≡ true → b ≡ false)
not_both true b = (λ e t. e, λ h. h refl)
not_both false b = (λ e t. absurd (false≢true t), λ h. refl)

-- what holds of the entry that stood there, and of the new one at its own place, holds after the new one is set
pub set_holds {ℓ κ} : {A : Type ℓ} (P : A → Type κ) (l : List A) (i j : ℕ) (a d : A) → P (get_or l j d) → (j ≡ i → P a) → P (get_or (set l i a) j d)
set_holds P [] i j a d p h = p
set_holds P (x ∷ l) zero zero a d p h = h refl
set_holds P (x ∷ l) zero (suc j) a d p h = p
set_holds P (x ∷ l) (suc i) zero a d p h = p
set_holds P (x ∷ l) (suc i) (suc j) a d p h = set_holds P l i j a d p (λ e. h (ap suc e))

-- two lists of one length that agree at f still do when both are set at g, if what they are set to agrees where f is g
pub both_set : {A : Type 0} (xs ys : List A) (g f : ℕ) {a b : A} (d : A) → length xs ≡ length ys →
    get_or xs f d ≡ get_or ys f d → (f ≡ g → a ≡ b) → get_or (set xs g a) f d ≡ get_or (set ys g b) f d
both_set [] [] g f d e old new = old
both_set [] (y ∷ ys) g f d e old new = absurd (omega arith)
both_set (x ∷ xs) [] g f d e old new = absurd (omega arith)
both_set (x ∷ xs) (y ∷ ys) zero zero d e old new = new refl
both_set (x ∷ xs) (y ∷ ys) zero (suc f) d e old new = old
both_set (x ∷ xs) (y ∷ ys) (suc g) zero d e old new = old
both_set (x ∷ xs) (y ∷ ys) (suc g) (suc f) d e old new = both_set xs ys g f d (omega arith) old (λ q. new (rw q))

-- a list of one entry only has it at every place, and past its end where it stands in for what is missing
pub get_or-alike {ℓ} : {A : Type ℓ} (n i : ℕ) (a : A) → get_or (replicate n a) i a ≡ a
get_or-alike zero i a = refl
get_or-alike (suc n) zero a = refl
get_or-alike (suc n) (suc i) a = get_or-alike n i a

-- before a list's end what stands there stands there, whatever would stand in for what is missing
pub get_or_by_option {ℓ} : {A : Type ℓ} (l : List A) (i : ℕ) (d : A) → i < length l → get_elem? l i ≡ some (get_or l i d)
get_or_by_option [] i d h = absurd (not-suc-le-zero h)
get_or_by_option (x ∷ l) zero d h = refl
get_or_by_option (x ∷ l) (suc i) d h = get_or_by_option l i d (le_of_suc-le-suc h)
