-- 01, "The eight calls", with 02, Req 02: when each goes through, its effect, and its answer; and of "Lists and answers" calls as the numbers of a list.
use Rattle.std.specs.Prelude.{ℕ, ◌+◌, ◌-◌, ◌*◌, ◌/◌, ◌≤◌, Bool, ◌&&◌, ◌||◌, cond, List, [], ◌∷◌, length, get_or}
use Rattle.rules.specs.Sizes.{most_number, table}
use Rattle.rules.specs.Setups.{may_read, may_write}
use Rattle.rules.specs.Stores.{Content, is_written, unlocked, locked_by, holder_of, content_of, has_open, put_holder, put_content, put_mark}
use Rattle.rules.specs.declared.Numbers.{Numbers}
use Rattle.rules.specs.declared.Setup.{Setup}
use Rattle.rules.specs.declared.Store.{Store}
use Rattle.rules.specs.declared.Call.{Call}
use Rattle.rules.specs.declared.Call.TheVariants.{Read, Write, Lock, Unlock, Open, Close, Testlock, Copy}
use Rattle.rules.specs.declared.Answer.{Answer}
use Rattle.rules.specs.declared.Answer.TheVariants.{Nothing, Figure, Yes, No}

-- "A call is four 32-bit numbers: operation, process p, file f, extra x"
abbrev pub numbers : ℕ → ℕ → ℕ → ℕ → Numbers
numbers operation p f x = record { operation = operation; process = p; file = f; extra = x }

-- numbers that a list can hold: each is a 32-bit number
pub record Is32 (n : Numbers) : Type 0 where
  pub operation : n.operation ≤ most_number
  pub process : n.process ≤ most_number
  pub file : n.file ≤ most_number
  pub extra : n.extra ≤ most_number

-- "A list is a lent run of 32-bit numbers, four a call"
abbrev pub call_width : ℕ
call_width = 4

abbrev pub calls_in : List ℕ → ℕ
calls_in list = length list / call_width

abbrev pub numbers_at : List ℕ → ℕ → Numbers
numbers_at list i =
    let at = i * call_width in
    numbers (get_or list at 0) (get_or list (at + 1) 0) (get_or list (at + 2) 0) (get_or list (at + 3) 0)

-- the calls of a list, and calls as the numbers of a list
unfoldable pub calls_of : List ℕ → List Numbers
calls_of list = table (calls_in list) (numbers_at list)

unfoldable pub in_quads : List Numbers → List ℕ
in_quads [] = []
in_quads (n ∷ rest) = n.operation ∷ n.process ∷ n.file ∷ n.extra ∷ in_quads rest

-- the column "Code"
abbrev pub code_of_read : ℕ
code_of_read = 1

abbrev pub code_of_write : ℕ
code_of_write = 2

abbrev pub code_of_lock : ℕ
code_of_lock = 3

abbrev pub code_of_unlock : ℕ
code_of_unlock = 4

abbrev pub code_of_open : ℕ
code_of_open = 5

abbrev pub code_of_close : ℕ
code_of_close = 6

abbrev pub code_of_testlock : ℕ
code_of_testlock = 7

abbrev pub code_of_copy : ℕ
code_of_copy = 8

abbrev pub first_code : ℕ
first_code = code_of_read

abbrev pub last_code : ℕ
last_code = code_of_copy

-- the column "Call": the calls from the first code to the last, in the order of their codes
abbrev pub calls : ℕ → ℕ → ℕ → List Call
calls p f x =
    Read p f ∷ Write p f x ∷ Lock p f ∷ Unlock p f ∷ Open p f ∷ Close p f ∷ Testlock p f ∷ Copy p f x ∷ []

-- the call of a code; numbers that are no call are refused before this is asked
unfoldable pub call_of : Numbers → Call
call_of n = get_or (calls n.process n.file n.extra) (n.operation - first_code) (Read n.process n.file)

-- the numbers of a call; its extra is 0 where it takes none
abbrev pub numbers_for : Call → Numbers
numbers_for (Read p f) = numbers code_of_read p f 0
numbers_for (Write p f x) = numbers code_of_write p f x
numbers_for (Lock p f) = numbers code_of_lock p f 0
numbers_for (Unlock p f) = numbers code_of_unlock p f 0
numbers_for (Open p f) = numbers code_of_open p f 0
numbers_for (Close p f) = numbers code_of_close p f 0
numbers_for (Testlock p f) = numbers code_of_testlock p f 0
numbers_for (Copy p f x) = numbers code_of_copy p f x

-- "answers the figure"; "READ of an unwritten file answers "nothing""
abbrev pub read_of : Content → Answer
read_of content = cond (is_written content) (Figure content.figure) Nothing

-- "figure of f becomes x", and "WRITE marks it written"
abbrev pub written_to : Content → ℕ → Content
written_to content x = record { figure = x; written = 1 }

-- "figure of x becomes that of f", and "COPY carries the mark with the figure"
abbrev pub copied_to : Content → Content → Content
copied_to content source = source

-- what TESTLOCK answers
abbrev pub yes_or_no : Bool → Answer
yes_or_no held = cond held Yes No

-- "f unlocked or locked by p"
abbrev pub free_for : ℕ → ℕ → Bool
free_for holder p = unlocked holder || locked_by holder p

-- the column "Goes through when": "R and W refer to p's desk and the file's class"
unfoldable pub goes_through : Setup → Store → Call → Bool
goes_through s m (Read p f) = may_read s p f && has_open m p f && free_for (holder_of m f) p
goes_through s m (Write p f x) = may_write s p f && locked_by (holder_of m f) p
goes_through s m (Lock p f) = may_write s p f && unlocked (holder_of m f)
goes_through s m (Unlock p f) = may_write s p f && locked_by (holder_of m f) p
goes_through s m (Open p f) = may_read s p f && unlocked (holder_of m f)
goes_through s m (Close p f) = may_read s p f && has_open m p f
goes_through s m (Testlock p f) = may_read s p f && may_write s p f
goes_through s m (Copy p f x) = may_read s p f && may_write s p x && has_open m p f && free_for (holder_of m f) p && locked_by (holder_of m x) p

-- the column "Effect": the store that a call which goes through leaves
unfoldable pub effect : Store → Call → Store
effect m (Read p f) = m
effect m (Write p f x) = put_content m f (written_to (content_of m f) x)
effect m (Lock p f) = put_holder m f (p + 1)
effect m (Unlock p f) = put_holder m f 0
effect m (Open p f) = put_mark m f p 1
effect m (Close p f) = put_mark m f p 0
effect m (Testlock p f) = m
effect m (Copy p f x) = put_content m x (copied_to (content_of m x) (content_of m f))

-- the column "Effect": what it answers
unfoldable pub says : Store → Call → Answer
says m (Read p f) = read_of (content_of m f)
says m (Write p f x) = Nothing
says m (Lock p f) = Nothing
says m (Unlock p f) = Nothing
says m (Open p f) = Nothing
says m (Close p f) = Nothing
says m (Testlock p f) = yes_or_no (locked_by (holder_of m f) p)
says m (Copy p f x) = Nothing

-- a call that does not go through answers "nothing" and leaves the store as it is
unfoldable pub answer_to : Setup → Store → Call → Answer
answer_to s m call = cond (goes_through s m call) (says m call) Nothing

unfoldable pub next_store : Setup → Store → Call → Store
next_store s m call = cond (goes_through s m call) (effect m call) m
