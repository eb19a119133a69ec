-- Laws of answers as two numbers.
-- Assumes nothing.
use mathlib.Core.Path.{◌≡◌, refl, ap, sym, ◌∙◌}
use Rattle.rules.specs.Answers.{numbers_of, answer_of}
use Rattle.rules.specs.declared.Answer.{Answer}
use Rattle.rules.specs.declared.Answer.TheVariants.{Nothing, Figure, Yes, No, Refused}

pub answer_of-numbers_of : (a : Answer) → answer_of (numbers_of a) ≡ a
answer_of-numbers_of Nothing = refl
answer_of-numbers_of (Figure figure) = refl
answer_of-numbers_of Yes = refl
answer_of-numbers_of No = refl
answer_of-numbers_of (Refused refusal) = refl

-- the two numbers tell the answers apart
pub numbers_of_apart : (a b : Answer) → numbers_of a ≡ numbers_of b → a ≡ b
numbers_of_apart a b e = sym (answer_of-numbers_of a) ∙ ap answer_of e ∙ answer_of-numbers_of b
