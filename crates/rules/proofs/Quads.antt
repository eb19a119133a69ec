-- Laws of calls as the numbers of a list, four each.
-- Assumes nothing.
use Prim.Native.Nat.{ℕ, zero, suc, ◌*◌, ◌<◌}
use mathlib.Core.Path.{◌≡◌, refl, ap, sym, ◌∙◌}
use mathlib.Core.List.{List, [], ◌∷◌, ◌++◌}
use native.Mathlib.Nat.{suc-add, not-suc-le-zero, le_of_suc-le-suc}
use native.Mathlib.Omega.{arith}
use lib.ListN.{length, get_or}
use Rattle.rules.specs.Calls.{numbers, call_width, calls_in, numbers_at, calls_of, in_quads}
use Rattle.rules.specs.declared.Numbers.{Numbers}
use Rattle.rules.proofs.Sizes.{table_is}

pub in_quads_append : (xs ys : List Numbers) → in_quads (xs ++ ys) ≡ in_quads xs ++ in_quads ys
unfolding in_quads
in_quads_append [] ys = refl
in_quads_append (n ∷ xs) ys = ap (λ (l : List ℕ). n.operation ∷ n.process ∷ n.file ∷ n.extra ∷ l) (in_quads_append xs ys)

pub in_quads-length : (xs : List Numbers) → length (in_quads xs) ≡ length xs * call_width
unfolding in_quads
in_quads-length [] = refl
in_quads-length (n ∷ xs) = let e = in_quads-length xs in omega arith

-- each call stands at its four places
quad_at : (xs : List Numbers) (k : ℕ) (d : Numbers) → k < length xs → get_or xs k d ≡ numbers_at (in_quads xs) k
unfolding in_quads
quad_at [] k d h = absurd (not-suc-le-zero h)
quad_at (n ∷ xs) zero d h = refl
quad_at (n ∷ xs) (suc k) d h =
    let further : suc k * call_width ≡ suc (suc (suc (suc (k * call_width)))) = omega arith in
    quad_at xs k d (le_of_suc-le-suc h) ∙ simp (further, suc-add)

-- so the calls of a list written out are the calls
pub calls_of_quads : (xs : List Numbers) → calls_of (in_quads xs) ≡ xs
unfolding calls_of
calls_of_quads xs =
    let long : length xs ≡ calls_in (in_quads xs) = omega (arith, in_quads-length xs) in
    sym (table_is (calls_in (in_quads xs)) (numbers_at (in_quads xs)) xs (numbers 0 0 0 0) long (λ k l. quad_at xs k (numbers 0 0 0 0) (omega arith)))
