-- Laws of answers as numbers, and of a table with one entry more.
-- Assumes nothing.
use Prim.Native.Nat.{ℕ, zero, suc, ◌+◌, ◌*◌, ◌≤◌}
use mathlib.Core.Path.{◌≡◌, refl, ap, ◌∙◌}
use mathlib.Core.List.{List, [], ◌∷◌, ◌++◌, append_assoc}
use native.Mathlib.Numerals.{add-two}
use native.Mathlib.Omega.{arith}
use lib.ListN.{length, get_or, set, drop, length-append}
use lib.Seq.{drop-cons, set_at, append_snoc}
use Rattle.rules.specs.Sizes.{table}
use Rattle.rules.specs.Answers.{kind_of, value_of}
use Rattle.rules.specs.declared.Answer.{Answer}
use Rattle.lists.specs.Lists.{answer_width, in_numbers}

-- a table of one entry more is the table and that entry
pub table_more {ℓ} : {A : Type ℓ} (n : ℕ) (f : ℕ → A) → table (suc n) f ≡ table n f ++ (f n ∷ [])
unfolding table
table_more zero f = refl
table_more (suc n) f = ap (λ xs. f zero ∷ xs) (table_more n (λ k. f (suc k)))

pub in_numbers_append : (xs ys : List Answer) → in_numbers (xs ++ ys) ≡ in_numbers xs ++ in_numbers ys
unfolding in_numbers
in_numbers_append [] ys = refl
in_numbers_append (x ∷ xs) ys = ap (λ l. kind_of x ∷ value_of x ∷ l) (in_numbers_append xs ys)

pub in_numbers-length : (xs : List Answer) → length (in_numbers xs) ≡ length xs * answer_width
unfolding in_numbers
in_numbers-length [] = refl
in_numbers-length (x ∷ xs) = let e = in_numbers-length xs in omega arith

-- two numbers set right after a front, on what was there before, lengthen the front by them
pub set_two : (front room : List ℕ) (n a b : ℕ) → length front ≡ n → n + answer_width ≤ length room → set (set (front ++ drop n room) n a) (n + 1) b ≡ (front ++ a ∷ b ∷ []) ++ drop (n + answer_width) room
set_two front room n a b l h =
    let x = get_or room n 0 in
    let y = get_or room (suc n) 0 in
    let rest = drop (suc (suc n)) room in
    let two : drop n room ≡ x ∷ y ∷ rest = drop-cons room n 0 (omega arith) ∙ ap (λ (t : List ℕ). x ∷ t) (drop-cons room (suc n) 0 (omega arith)) in
    let longer : length (front ++ a ∷ []) ≡ n + 1 = simp length-append (omega arith) in
    rw (two, set_at front x (y ∷ rest) a n l, ← append_snoc front a (y ∷ rest), set_at (front ++ a ∷ []) y rest b (n + 1) longer)
    (simp (append_assoc, add-two))
