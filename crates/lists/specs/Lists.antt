-- 01, "Lists and answers": the run of a list of calls, its answers as numbers, and the refusals of a list as a whole.
use Rattle.std.specs.Prelude.{ℕ, ◌*◌, ◌/◌, ◌%◌, not, ◌||◌, List, [], ◌∷◌, ◌++◌, ltb, eqb, length, drop, Result, Ok, Err}
use Rattle.secrecy.specs.Machine.{after, all_answers}
use Rattle.rules.specs.Sizes.{most_calls}
use Rattle.rules.specs.Calls.{call_width, calls_in, calls_of}
use Rattle.rules.specs.Answers.{kind_of, value_of}
use Rattle.rules.specs.Refusals.{Ground, ◌gives◌, first_of, refusal15, refusal16}
use Rattle.rules.specs.Entries.{unless}
use Rattle.rules.specs.declared.Numbers.{Numbers}
use Rattle.rules.specs.declared.Setup.{Setup}
use Rattle.rules.specs.declared.Store.{Store}
use Rattle.rules.specs.declared.Answer.{Answer}
use Rattle.views.specs.Machine.{machine}

-- "Each answer is two numbers"
abbrev pub answer_width : ℕ
answer_width = 2

-- where a run of calls ends, and what it answers: every call in order, refused ones too
abbrev pub end_of : Setup → Store → List Numbers → Store
end_of s = after (machine s)

abbrev pub answers_over : Setup → Store → List Numbers → List Answer
answers_over s = all_answers (machine s)

-- answers as numbers, two each
unfoldable pub in_numbers : List Answer → List ℕ
in_numbers [] = []
in_numbers (a ∷ rest) = kind_of a ∷ value_of a ∷ in_numbers rest

-- "a list's length is not a multiple of 4, or is above 4,096"
abbrev pub refusal10_of_list : ℕ → Ground
refusal10_of_list numbers = not (eqb (numbers % call_width) 0) || ltb (most_calls * call_width) numbers gives 10

-- "answers shorter than two numbers a call"
abbrev pub refusal11_of_list : ℕ → ℕ → Ground
refusal11_of_list numbers room = ltb room (numbers / call_width * answer_width) gives 11

-- "List as a whole: 15, 16, 10, 11, and then nothing runs and nothing is written"
abbrev pub list_order : Setup → Store → ℕ → ℕ → List Ground
list_order s m numbers room = refusal15 s ∷ refusal16 s m ∷ refusal10_of_list numbers ∷ refusal11_of_list numbers room ∷ []

unfoldable pub list_refusal : Setup → Store → ℕ → ℕ → ℕ
list_refusal s m numbers room = first_of (list_order s m numbers room)

-- the number of calls run, or the refusal, and the next store
unfoldable pub listed : Setup → Store → List ℕ → List ℕ → Result ℕ ℕ × Store
listed s m list room =
    let r = list_refusal s m (length list) (length room) in
    unless r (Ok (calls_in list), end_of s m (calls_of list)) (Err r, m)

-- "Answers fill the front of a lent run; .. what lies past the written part keeps its values"
unfoldable pub answers_after : Setup → Store → List ℕ → List ℕ → List ℕ
answers_after s m list room =
    unless (list_refusal s m (length list) (length room))
    (in_numbers (answers_over s m (calls_of list)) ++ drop (calls_in list * answer_width) room)
    room
