-- Laws of numbers: a field is the number n exactly when it is n's decimal digits, and n is no larger than a number may be.
-- Assumes nothing.
use Prim.Native.Nat.{ℕ, zero, suc, ◌+◌, ◌-◌, ◌*◌, ◌/◌, ◌%◌, ◌<◌, ◌≤◌}
use mathlib.Core.Path.{◌≡◌, refl, ap, sym, ◌∙◌}
use mathlib.Core.Bool.{Bool, true, false, not, ◌&&◌, and-eq-true_iff, false≢true}
use mathlib.Core.Logic.{◌↔◌}
use mathlib.Core.List.{List, [], ◌∷◌, ◌++◌, append-nil, append_assoc}
use mathlib.Core.Option.{Option, some, none}
use native.Mathlib.Omega.{arith}
use borrow.Author.Tests.{ltb-true, ltb-false, leb-true, eqb-false, not-true, lt-ltb, le-ltb, le-leb, ne_eqb}
use lib.Dec.{ltb, leb, eqb}
use Rattle.rules.specs.Sizes.{most_number}
use Rattle.rules.proofs.Lists.{by_test}
use Rattle.lines.specs.Bytes.{digit0, digit}
use Rattle.lines.specs.Decimals.{ten, is_digit, are_digits, starts_well, value_after, field_value, is_number, number_of, digits_within, digits_of}

-- one digit more on the right
pub value_after_more : (v : ℕ) (xs : List ℕ) (b : ℕ) → value_after v (xs ++ (b ∷ [])) ≡ value_after v xs * ten + (b - digit0)
value_after_more v [] b = refl
value_after_more v (x ∷ xs) b = value_after_more (v * ten + (x - digit0)) xs b

pub are_digits_more : (xs : List ℕ) (b : ℕ) → are_digits xs ≡ true → is_digit b ≡ true → are_digits (xs ++ (b ∷ [])) ≡ true
are_digits_more [] b h k = rw k
are_digits_more (x ∷ xs) b h k =
    let (d, ds) = (and-eq-true_iff (is_digit x) (are_digits xs)).0 h in
    (and-eq-true_iff (is_digit x) (are_digits (xs ++ (b ∷ [])))).1 (d, are_digits_more xs b ds k)

pub is_digit_iff : (b : ℕ) → (is_digit b ≡ true) ↔ ((digit0 ≤ b) × (b < digit ten))
is_digit_iff b = (
  λ h. let (l, m) = (and-eq-true_iff (leb digit0 b) (ltb b (digit ten))).0 h in (leb-true digit0 b l, ltb-true b (digit ten) m),
  λ h. (and-eq-true_iff (leb digit0 b) (ltb b (digit ten))).1 (le-leb digit0 b h.0, lt-ltb b (digit ten) h.1),
)

is_digit-digit : (d : ℕ) → d < ten → is_digit (digit d) ≡ true
is_digit-digit d l = (is_digit_iff (digit d)).1 (omega arith, omega arith)

-- bytes whose first is another than the digit 0
not_zero_first : List ℕ → Bool
not_zero_first [] = false
not_zero_first (b ∷ rest) = not (eqb b digit0)

not_zero_first_more : (xs : List ℕ) (b : ℕ) → not_zero_first xs ≡ true → not_zero_first (xs ++ (b ∷ [])) ≡ true
unfolding not_zero_first
not_zero_first_more [] b h = absurd (false≢true h)
not_zero_first_more (x ∷ xs) b h = h

not_zero_first_well : (xs : List ℕ) → not_zero_first xs ≡ true → starts_well xs ≡ true
unfolding not_zero_first
not_zero_first_well [] h = h
not_zero_first_well (x ∷ []) h = refl
not_zero_first_well (x ∷ (y ∷ xs)) h = h

module _ (most n : ℕ) where
  -- the digits of a number below ten, and of a larger one
  within_small : n < ten → digits_within (suc most) n ≡ digit n ∷ []
  unfolding digits_within
  within_small l = rw (lt-ltb n ten l)

  within_large : ten ≤ n → digits_within (suc most) n ≡ digits_within most (n / ten) ++ (digit (n % ten) ∷ [])
  unfolding digits_within
  within_large l = rw (le-ltb n ten l)

-- what a number's digits are: they have its value, they are digits, and the first is no 0 where the number is none
record Writes (n : ℕ) (xs : List ℕ) : Type 0 where
  value : field_value xs ≡ n
  digits : are_digits xs ≡ true
  starts : starts_well xs ≡ true
  leading : 0 < n → not_zero_first xs ≡ true

within_sound : (most n : ℕ) → n < most → Writes n (digits_within most n)
within_sound zero n l = absurd (omega arith)
within_sound (suc most) n l =
    by_test (ltb n ten)
    (λ t.
    let k = ltb-true n ten t in
    rw (within_small most n k)
    (record {
      value = omega arith;
      digits = (and-eq-true_iff (is_digit (digit n)) true).1 (is_digit-digit n k, refl);
      starts = refl;
      leading = λ p. unfold not_zero_first in ap not (ne_eqb (digit n) digit0 (omega arith));
    }))
    (λ f.
    let k = ltb-false n ten f in
    let s = within_sound most (n / ten) (omega arith) in
    let front = digits_within most (n / ten) in
    let led : not_zero_first (front ++ (digit (n % ten) ∷ [])) ≡ true = not_zero_first_more front (digit (n % ten)) (s.leading (omega arith)) in
    rw (within_large most n k)
    (record {
      value = value_after_more 0 front (digit (n % ten)) ∙ rw s.value (omega arith);
      digits = are_digits_more front (digit (n % ten)) s.digits (is_digit-digit (n % ten) (omega arith));
      starts = not_zero_first_well (front ++ (digit (n % ten) ∷ [])) led;
      leading = λ p. led;
    }))

-- enough is enough
within_enough : (m k n : ℕ) → n < m → n < k → digits_within m n ≡ digits_within k n
within_enough zero k n l h = absurd (omega arith)
within_enough (suc m) zero n l h = absurd (omega arith)
within_enough (suc m) (suc k) n l h =
    by_test (ltb n ten) (λ t. let s = ltb-true n ten t in within_small m n s ∙ sym (within_small k n s))
    (λ f.
    let s = ltb-false n ten f in
    within_large m n s
    ∙ ap (λ (xs : List ℕ). xs ++ (digit (n % ten) ∷ [])) (within_enough m k (n / ten) (omega arith) (omega arith))
    ∙ sym (within_large k n s))

-- one digit, and one more digit on the right of a number that is not 0
pub digits_of_small : (n : ℕ) → n < ten → digits_of n ≡ digit n ∷ []
unfolding digits_of
digits_of_small n l = within_small n n l

pub digits_of_more : (v d : ℕ) → 0 < v → d < ten → digits_of (v * ten + d) ≡ digits_of v ++ (digit d ∷ [])
unfolding digits_of
digits_of_more v d p l =
    let q : (v * ten + d) / ten ≡ v = omega arith in
    let r : (v * ten + d) % ten ≡ d = omega arith in
    within_large (v * ten + d) (v * ten + d) (omega arith)
    ∙ rw (q, r, within_enough (v * ten + d) (suc v) v (omega arith) (omega arith))

-- digits after a number that is not 0 are the digits of what they make of it
digits_after : (v : ℕ) (xs : List ℕ) → 0 < v → are_digits xs ≡ true → digits_of (value_after v xs) ≡ digits_of v ++ xs
digits_after v [] p h = sym (append-nil (digits_of v))
digits_after v (x ∷ xs) p h =
    let (d, ds) = (and-eq-true_iff (is_digit x) (are_digits xs)).0 h in
    let (low, high) = (is_digit_iff x).0 d in
    let same : digit (x - digit0) ≡ x = omega arith in
    digits_after (v * ten + (x - digit0)) xs (omega arith) ds
    ∙ ap (λ (ys : List ℕ). ys ++ xs) (digits_of_more v (x - digit0) p (omega arith))
    ∙ append_assoc (digits_of v) (digit (x - digit0) ∷ []) xs ∙ ap (λ (y : ℕ). digits_of v ++ (y ∷ xs)) same

first_value : (b : ℕ) → 0 * ten + (b - digit0) ≡ b - digit0
first_value b = omega arith

-- a field that starts well and is digits is the digits of its value
pub digits_of_value : (field : List ℕ) → starts_well field ≡ true → are_digits field ≡ true → digits_of (field_value field) ≡ field
digits_of_value [] s h = absurd (false≢true s)
digits_of_value (b ∷ []) s h =
    let (low, high) = (is_digit_iff b).0 ((and-eq-true_iff (is_digit b) true).0 h).0 in
    let same : digit (b - digit0) ≡ b = omega arith in
    ap digits_of (first_value b) ∙ digits_of_small (b - digit0) (omega arith) ∙ ap (λ (y : ℕ). y ∷ []) same
digits_of_value (b ∷ (c ∷ rest)) s h =
    let (d, ds) = (and-eq-true_iff (is_digit b) (are_digits (c ∷ rest))).0 h in
    let (low, high) = (is_digit_iff b).0 d in
    let other = eqb-false b digit0 (not-true (eqb b digit0) s) in
    let same : digit (b - digit0) ≡ b = omega arith in
    ap (λ (v : ℕ). digits_of (value_after v (c ∷ rest))) (first_value b)
    ∙ digits_after (b - digit0) (c ∷ rest) (omega arith) ds
    ∙ ap (λ (ys : List ℕ). ys ++ (c ∷ rest)) (digits_of_small (b - digit0) (omega arith)) ∙ ap (λ (y : ℕ). y ∷ (c ∷ rest)) same

-- a field is the number n exactly when it is n's decimal digits and n is at most 4,294,967,295
pub number_of_iff : (field : List ℕ) (n : ℕ) → (number_of field ≡ some n) ↔ ((field ≡ digits_of n) × (n ≤ most_number))
unfolding number_of is_number
number_of_iff field n = (
  λ e.
      by_test (is_number field)
      (λ t.
      let (wd, small) = (and-eq-true_iff (starts_well field && are_digits field) (leb (field_value field) most_number)).0 t in
      let (w, d) = (and-eq-true_iff (starts_well field) (are_digits field)).0 wd in
      let is : field_value field ≡ n = cc (rw t at e) in
      (sym (digits_of_value field w d) ∙ ap digits_of is, rw is at (leb-true (field_value field) most_number small)))
      (λ f. absurd (never n (rw f at e))),
  λ h.
      let s : Writes n (digits_of n) = unfold digits_of in within_sound (suc n) n (omega arith) in
      rw (h.0, s.starts, s.digits, s.value, le-leb n most_number h.1),
)
  where
    never : (m : ℕ) → ◌≡◌ {A = Option ℕ} none (some m) → ⊥
    never m q = let z : ◌≡◌ {A = ℕ} 0 1 = cc in omega arith
