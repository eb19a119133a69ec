-- 01, "Lists and answers": each answer as two numbers.
use Rattle.std.specs.Prelude.{ℕ, [], ◌∷◌, get_or, Option, Some, None, Result, Ok, Err}
use Rattle.rules.specs.declared.Answer.{Answer}
use Rattle.rules.specs.declared.crossing.Numbered.{Numbered}
use Rattle.rules.specs.declared.Answer.TheVariants.{Nothing, Figure, Yes, No, Refused}

-- "0,0 nothing; 1,figure; 2,0 yes; 3,0 no; 4,refusal"
abbrev pub numbers_of : Answer → ℕ × ℕ
numbers_of Nothing = (0, 0)
numbers_of (Figure figure) = (1, figure)
numbers_of Yes = (2, 0)
numbers_of No = (3, 0)
numbers_of (Refused refusal) = (4, refusal)

abbrev pub kind_of : Answer → ℕ
kind_of answer = (numbers_of answer).0

abbrev pub value_of : Answer → ℕ
value_of answer = (numbers_of answer).1

-- the answer that two numbers stand for, in the order of their kinds; "nothing" past them. For the printing, which writes answers from a list
abbrev pub answer_of : ℕ × ℕ → Answer
answer_of n = get_or (Nothing ∷ Figure n.1 ∷ Yes ∷ No ∷ Refused n.1 ∷ []) n.0 Nothing

-- how many were done, as two numbers: 0 and the count, or 01's 4 and the refusal
abbrev pub done_numbers_of : Result ℕ ℕ → ℕ × ℕ
done_numbers_of (Ok count) = (0, count)
done_numbers_of (Err refusal) = (4, refusal)

-- what a report tells, as two numbers: 0 and 0 where nothing is to be shown, 1 and the number of calls that show it, or 4 and the refusal
abbrev pub told_numbers_of : Result (Option ℕ) ℕ → ℕ × ℕ
told_numbers_of (Ok None) = (0, 0)
told_numbers_of (Ok (Some calls)) = (1, calls)
told_numbers_of (Err refusal) = (4, refusal)

-- what crosses to C, as these two numbers
abbrev pub pair_of : Numbered → ℕ × ℕ
pair_of n = (n.kind, n.value)
