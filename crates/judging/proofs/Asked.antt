-- What a chain answers that asks a condition of each of n items, and what an array is that is made by a function of the place.
-- Assumes nothing.
use Prim.Native.Nat.{ℕ, zero, suc, ◌+◌, ◌<◌, ◌≤◌}
use mathlib.Core.Path.{◌≡◌, refl, ap, sym, ◌∙◌, subst}
use mathlib.Core.Bool.{Bool, true, false, not, ◌&&◌, and-true, and_assoc, true≢false}
use mathlib.Core.List.{List}
use mathlib.Core.Logic.{⊎_elim}
use native.Mathlib.Nat.{eq-or-lt_of_le, add-zero, zero-add}
use native.Mathlib.Omega.{arith}
use denote.Param.Members.{Mut}
use lib.ListN.{length, get_or, take, drop, length-take, length-drop}
use lib.Seq.{get_or-take, get_or-drop}
use Rattle.std.specs.Array.{IsFromFnResult, IsFromFnResultFrom}
use Rattle.std.specs.Fn.{Called}
use Rattle.std.specs.List.{list_all, range_with_len, IsAnyAnswer}
use Rattle.rules.specs.Sizes.{every, some_below, table}
use Rattle.rules.proofs.Sizes.{every_true, every-false, every_cong, some_below-true, length-table, get_or-table, table_is}
use Rattle.rules.proofs.Lists.{by_test}

-- `all` says yes where the condition holds of each number below n, and no where there is one of which it does not
pub asked_all : (n : ℕ) (p : ℕ → Bool) (r : Bool) → (r ≡ true → (k : ℕ) → k < n → p k ≡ true) → (r ≡ false → (k : ℕ) × (k < n) × (p k ≡ false)) → r ≡ every n p
asked_all n p r each one =
    by_test r (λ e. e ∙ sym (every_true n p (each e))) (λ e. let (k, l, f) = one e in e ∙ sym (every-false n p k l f))

every_front : (n : ℕ) (p : ℕ → Bool) → every (suc n) p ≡ (p 0 && every n (λ k. p (suc k)))
unfolding every
every_front zero p = sym (and-true (p 0))
every_front (suc n) p = ap (λ b. b && p (suc n)) (every_front n p) ∙ and_assoc (p 0) (every n (λ k. p (suc k))) (p (suc n))

below_from : (a n : ℕ) (p q : ℕ → Bool) → ((k : ℕ) → p (a + k) ≡ q k) → list_all p (range_with_len a n) ≡ every n q
unfolding every
below_from a zero p q h = refl
below_from a (suc n) p q h =
    cc (subst (λ (i : ℕ). p i ≡ q 0) (add-zero a) (h 0), below_from (a + 1) n p (λ k. q (suc k)) (λ k. subst (λ (i : ℕ). p i ≡ q (suc k)) (omega arith) (h (suc k))), every_front n q)

-- so says a chain over the numbers below n
pub asked_below : (n : ℕ) (p : ℕ → Bool) (r : Bool) → r ≡ list_all p (range_with_len 0 n) → r ≡ every n p
asked_below n p r e = e ∙ below_from 0 n p p (λ k. ap p (zero-add k))

-- `any` says yes where there is a number below n of which the condition holds, and no where it holds of none
pub asked_any : (n : ℕ) (p : ℕ → Bool) (r : Bool) → (r ≡ true → (k : ℕ) × (k < n) × (p k ≡ true)) → (r ≡ false → (k : ℕ) → k < n → p k ≡ false) → r ≡ some_below n p
unfolding some_below
asked_any n p r one each =
    by_test r (λ e. let (k, l, h) = one e in e ∙ sym (some_below-true n p k l h))
    (λ e. e ∙ sym (ap not (every_true n _ (λ k l. ap not (each e k l)))))

-- so says whether a list has an element of which the condition holds
pub asked_of_some : (xs : List ℕ) (p : ℕ → Bool) (r : Bool) → IsAnyAnswer (λ y b. p y ≡ b) xs r → r ≡ some_below (length xs) (λ k. p (get_or xs k 0))
asked_of_some xs p true h = asked_any (length xs) _ true (λ e. (h.0, h.1, h.2 0)) (λ e. absurd (true≢false e))
asked_of_some xs p false h = asked_any (length xs) _ false (λ e. absurd (true≢false (sym e))) (λ e k l. h k 0 (omega arith) l)

-- what is asked of each entry of a list that is a table is asked of the table's function
pub every_table : (n : ℕ) (f : ℕ → ℕ) (p : ℕ → ℕ → Bool) (xs : List ℕ) → xs ≡ table n f → every (length xs) (λ k. p k (get_or xs k 0)) ≡ every n (λ k. p k (f k))
every_table n f p xs e =
    rw (e, length-table n f) (every_cong n _ _ (λ k l. ap (p k) (get_or-table n f k 0 l)))

-- n entries of a list, from start on, are a table
pub part_table : (xs : List ℕ) (start n : ℕ) → start + n ≤ length xs → take n (drop start xs) ≡ table n (λ k. get_or xs (start + k) 0)
part_table xs start n h =
    table_is n _ _ 0 (simp (length-take, length-drop) (omega arith))
    (λ k l. get_or-take n (drop start xs) k 0 l ∙ get_or-drop start xs k 0)

module _ {F : Type 0} (g : Mut F (ℕ × Unit {0}) ℕ) (f : F) (h : ℕ → ℕ) (n : ℕ) (same : (i y : ℕ) (q : F) → i < n → Called g f (i, tt) y q → (q ≡ f) × (y ≡ h i)) where
  made_from : (ys : List ℕ) (i m : ℕ) (p : F) → p ≡ f → i + m ≤ n → IsFromFnResultFrom g p ys i m → (k : ℕ) → i ≤ k → k < i + m → get_or ys k 0 ≡ h k
  made_from ys i zero p e l r k a b = absurd (omega arith)
  made_from ys i (suc m) p e l (q, y, at, called, rest) k a b =
      let (kept, value) = same i y q (omega arith) (subst (λ (s : F). Called g s (i, tt) y q) e called) in
      ⊎_elim (λ c. subst (λ (j : ℕ). get_or ys j 0 ≡ h j) c (at.1 0 ∙ value))
      (λ c. made_from ys (i + 1) m q kept (omega arith) rest k (omega arith) (omega arith)) (eq-or-lt_of_le a)

  -- an array made by calls of a function of the place is its table
  pub made_table : (ys : List ℕ) → IsFromFnResult g f ys n → ys ≡ table n h
  made_table ys r = table_is n h ys 0 r.long (λ k b. made_from ys 0 n f refl (omega arith) r.each k (omega arith) (omega arith))
