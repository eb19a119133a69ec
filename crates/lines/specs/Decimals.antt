-- 01, "Line rules": the number that a field is, and the digits that a number is written with.
use Rattle.std.specs.Prelude.{ℕ, zero, suc, ◌+◌, ◌-◌, ◌*◌, ◌/◌, ◌%◌, Bool, true, false, not, ◌&&◌, cond, List, [], ◌∷◌, ◌++◌, ltb, leb, eqb}
use Rattle.std.proofs.Math.Option.{Option, some, none}
use Rattle.rules.specs.Sizes.{most_number}
use Rattle.lines.specs.Bytes.{digit0, digit}

-- "numbers are decimal"
abbrev pub ten : ℕ
ten = 10

abbrev pub is_digit : ℕ → Bool
is_digit b = leb digit0 b && ltb b (digit ten)

abbrev pub are_digits : List ℕ → Bool
are_digits [] = true
are_digits (b ∷ rest) = is_digit b && are_digits rest

-- "no leading zero but for 0 itself", and some digit
abbrev pub starts_well : List ℕ → Bool
starts_well [] = false
starts_well (b ∷ []) = true
starts_well (b ∷ (c ∷ rest)) = not (eqb b digit0)

-- the value of digits that follow others, and of a whole field
abbrev pub value_after : ℕ → List ℕ → ℕ
value_after before [] = before
value_after before (b ∷ rest) = value_after (before * ten + (b - digit0)) rest

abbrev pub field_value : List ℕ → ℕ
field_value field = value_after 0 field

-- "decimal, no sign, no leading zero but for 0 itself, at most 4,294,967,295"
unfoldable pub is_number : List ℕ → Bool
is_number field = starts_well field && are_digits field && leb (field_value field) most_number

unfoldable pub number_of : List ℕ → Option ℕ
number_of field = cond (is_number field) (some (field_value field)) none

-- the last digits of n, as many as it has where that is at most `most`
unfoldable pub digits_within : ℕ → ℕ → List ℕ
digits_within zero n = []
digits_within (suc most) n =
    let longer = digits_within most (n / ten) ++ (digit (n % ten) ∷ []) in
    cond (ltb n ten) (digit n ∷ []) longer

-- n's decimal digits, which are no more than n and one
unfoldable pub digits_of : ℕ → List ℕ
digits_of n = digits_within (suc n) n
