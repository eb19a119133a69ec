-- Laws of how long numbers and lines are.
-- Assumes nothing.
use Prim.Native.Nat.{ℕ, zero, suc, ◌+◌, ◌*◌, ◌/◌, ◌%◌, ◌^◌, ◌<◌, ◌≤◌}
use mathlib.Core.Path.{◌≡◌, ap, sym, ◌∙◌}
use mathlib.Core.List.{List, [], ◌∷◌, ◌++◌}
use native.Mathlib.Nat.{pow-suc}
use native.Mathlib.Omega.{arith}
use borrow.Author.Tests.{lt-ltb, le-ltb, ltb-true, ltb-false}
use lib.Dec.{ltb}
use lib.ListN.{length, length-append}
use Rattle.std.specs.Fmt.{decimal}
use Rattle.std.proofs.lemmas.Fmt.{decimal_from_appends, length-decimal-le_succ}
use Rattle.rules.specs.Sizes.{most_number, most_calls}
use Rattle.rules.specs.Answers.{value_of, answer_of}
use Rattle.rules.specs.declared.Answer.{Answer}
use Rattle.rules.specs.declared.Answer.TheVariants.{Nothing, Figure, Yes, No, Refused}
use Rattle.rules.proofs.Lists.{by_test}
use Rattle.lines.specs.Bytes.{tab, digit}
use Rattle.lines.specs.Decimals.{ten, digits_within, digits_of}
use Rattle.lines.proofs.Decimals.{digits_of_small, digits_of_more}
use Rattle.printing.specs.Outputs.{word_figure, word_refused, answer_line, refusal_line}
use Rattle.printing.specs.Writers.{longest_position, longest_number, longest_offset, longest_word, longest_line, longest_refusal, Fit}
use Rattle.printing.specs.declared.writing.Writer.{Writer}
use Rattle.printing.proofs.Parts.{answer_end, answer_parts, last_of, refusal_parts}

-- the library's text of a number is its digits
pub digits_decimal : (n : ℕ) → n < 2 ^ 64 → decimal n ≡ digits_of n
unfolding digits_of digits_within
digits_decimal n l =
    sym (decimal_from_appends digits_within (record { one = λ k m h. rw (lt-ltb m ten h); more = λ k m h. rw (le-ltb m ten h) }) (suc n) n l (omega (arith, length-decimal-le_succ n l)))

-- the digits of a number below ten: its last is its only one
pub digits_only : (n : ℕ) → n < ten → digits_of n ≡ digit (n % ten) ∷ []
digits_only n l = let same : n % ten ≡ n = omega arith in rw same (digits_of_small n l)

-- the digits of a number of more than one digit: those of its tenth, and its last
pub digits_last : (n : ℕ) → ten ≤ n → digits_of n ≡ digits_of (n / ten) ++ (digit (n % ten) ∷ [])
digits_last n h =
    let parts : n ≡ n / ten * ten + n % ten = omega arith in
    ap digits_of parts ∙ digits_of_more (n / ten) (n % ten) (omega arith) (omega arith)

pub digits_last_length : (n : ℕ) → ten ≤ n → length (digits_of n) ≡ length (digits_of (n / ten)) + 1
digits_last_length n h = ap length (digits_last n h) ∙ length-append (digits_of (n / ten)) (digit (n % ten) ∷ [])

-- a number below ten to the k has at most k digits
pub digits_most : (k n : ℕ) → 0 < k → n < ten ^ k → length (digits_of n) ≤ k
digits_most zero n p l = absurd (omega arith)
digits_most (suc k) n p l =
    by_test (ltb n ten) (λ t. omega (arith, ap length (digits_only n (ltb-true n ten t))))
    (λ f. more k (ltb-false n ten f) l (λ q m. digits_most k (n / ten) q m))
  where
    more : (k : ℕ) → ten ≤ n → n < ten ^ suc k → ((0 < k) → n / ten < ten ^ k → length (digits_of (n / ten)) ≤ k) → length (digits_of n) ≤ suc k
    more zero large l shorter = absurd (omega arith)
    more (suc k) large l shorter =
        omega (arith, digits_last_length n large, shorter (omega arith) (omega (arith, pow-suc ten (suc k))))

-- an answer that two numbers stand for has no other value than the second of them, or none
pub answer_value : (kind value : ℕ) → value_of (answer_of (kind, value)) ≤ value
answer_value zero value = omega arith
answer_value (suc zero) value = omega arith
answer_value (suc (suc zero)) value = omega arith
answer_value (suc (suc (suc zero))) value = omega arith
answer_value (suc (suc (suc (suc zero)))) value = omega arith
answer_value (suc (suc (suc (suc (suc kind))))) value = omega arith

number_short : (n : ℕ) → n ≤ most_number → length (digits_of n) ≤ longest_number
number_short n h = digits_most longest_number n (omega arith) (omega arith)

-- a 32-bit number after a word, to the end of the line
last_short : (word : List ℕ) (n : ℕ) → n ≤ most_number → length (last_of word n) ≤ length word + longest_number + 1
last_short word n h = simp length-append (omega (arith, number_short n h))

end_short : (a : Answer) → value_of a ≤ most_number → length (answer_end a) ≤ 1 + longest_word + 1 + longest_number + 1
end_short Nothing h = omega arith
end_short (Figure figure) h = omega (arith, last_short (tab ∷ (word_figure ++ (tab ∷ []))) figure h)
end_short Yes h = omega arith
end_short No h = omega arith
end_short (Refused refusal) h = omega (arith, last_short (tab ∷ (word_refused ++ (tab ∷ []))) refusal h)

pub line_short : (i : ℕ) (a : Answer) → i < most_calls → value_of a ≤ most_number → length (answer_line i a) ≤ longest_line
line_short i a l h =
    rw (answer_parts i a, length-append) (omega (arith, digits_most longest_position i (omega arith) (omega arith), end_short a h))

pub refusal_short : (refusal at : ℕ) → refusal ≤ most_number → at < ten ^ longest_offset → length (refusal_line refusal at) ≤ longest_refusal
refusal_short refusal at h l =
    rw (refusal_parts refusal at)
    (simp length-append (omega (arith, number_short refusal h, digits_most longest_offset at (omega arith) l)))

-- the line of a refused text fits where the longest does
pub refusal_fits : {w : Writer} (refusal at : ℕ) → w.at + longest_refusal ≤ length w.out.now → refusal < 2 ^ 32 → at < 2 ^ 64 → Fit w (refusal_line refusal at)
refusal_fits refusal at room r l = record { fits = omega (arith, refusal_short refusal at (omega arith) (omega arith)) }
