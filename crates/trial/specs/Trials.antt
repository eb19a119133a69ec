-- 01, "Twelve sheets of trial", with what 02, Req 02 changes of them: the cases as one table, and what it means that a case comes out.
use Rattle.std.specs.Prelude.{ℕ, ◌+◌, ◌≡◌, List, [], ◌∷◌, ◌++◌, length, drop, replicate, Option, Some, None, Result, Ok, Err}
use Rattle.rules.specs.Sizes.{most_number}
use Rattle.rules.specs.Setups.{SetupBytes, setup_bytes}
use Rattle.rules.specs.Stores.{blank_content, put_holder, put_content, put_mark, fresh_store}
use Rattle.rules.specs.Calls.{numbers, written_to, code_of_close, code_of_testlock, calls_in, in_quads}
use Rattle.rules.specs.Answers.{told_numbers_of}
use Rattle.rules.specs.Entries.{acceptance}
use Rattle.rules.specs.declared.Numbers.{Numbers}
use Rattle.rules.specs.declared.Setup.{Setup}
use Rattle.rules.specs.declared.Store.{Store}
use Rattle.views.specs.Case8.{setup8}
use Rattle.lists.specs.Lists.{listed}
use Rattle.lists.specs.Lists as lists
use Rattle.demand.specs.Routes.{read_call, write_call, lock_call, unlock_call, open_call, copy_call}
use Rattle.routes.specs.Reports.{most_route_numbers, routed}
use Rattle.routes.specs.Reports as routes

-- "Setup Q: 3 desks, 2 classes, 3 processes, 2 files; process n sits at desk n, file n has class n; rights 0/0 W, 1/0 R, 1/1 W, 2/1 R."
abbrev pub setup_q : SetupBytes
setup_q = setup_bytes 3 2 3 2 (2 ∷ 0 ∷ 1 ∷ 2 ∷ 0 ∷ 1 ∷ []) (0 ∷ 1 ∷ 2 ∷ []) (0 ∷ 1 ∷ [])

-- a store of Q that is not fresh: file 0 is written and holds 5, process 0 has it locked, process 1 has it open
unfoldable pub in_use : Store
in_use = put_mark (put_holder (put_content fresh_store 0 (written_to blank_content 5)) 0 (0 + 1)) 0 1 1

abbrev pub close_call : ℕ → ℕ → Numbers
close_call p f = numbers code_of_close p f 0

abbrev pub testlock_call : ℕ → ℕ → Numbers
testlock_call p f = numbers code_of_testlock p f 0

-- a case is a setup as it is handed in, what is asked, and what is to come out
pub data Case : Type 0 where
  -- from a store a list of calls: the pair of each call's answer, and the store that is left where 01 names it
  calls : SetupBytes → Store → List Numbers → List (ℕ × ℕ) → Option Store → Case
  -- from a desk to a desk a route, with room for so many numbers: the number of calls, none for no route, or the refusal's number; the pair
  -- of this answer; and the numbers of the list that is written
  route : SetupBytes → ℕ → ℕ → ℕ → Result (Option ℕ) ℕ → ℕ × ℕ → List ℕ → Case

-- 1: "Q, fresh, process 1 opens and reads file 0"; "Cases 1 and 2 now end in "nothing""
abbrev pub case1 : Case
case1 = calls setup_q fresh_store (open_call 1 0 ∷ read_call 1 0 ∷ []) ((0, 0) ∷ (0, 0) ∷ []) None

-- 2: "Q, process 0 writes 5 without a lock; process 1 opens, reads"; it ends so too
abbrev pub case2 : Case
case2 = calls setup_q fresh_store (write_call 0 0 5 ∷ open_call 1 0 ∷ read_call 1 0 ∷ []) ((0, 0) ∷ (0, 0) ∷ (0, 0) ∷ []) None

-- 3: "Q, process 0 TESTLOCK of file 0 after its LOCK: nothing (no R)."
abbrev pub case3 : Case
case3 = calls setup_q fresh_store (lock_call 0 0 ∷ testlock_call 0 0 ∷ []) ((0, 0) ∷ (0, 0) ∷ []) None

-- 4: "Q, process 3 reads: refusal 6. Process 2 reads file 1 unopened: nothing."
abbrev pub case4a : Case
case4a = calls setup_q fresh_store (read_call 3 0 ∷ []) ((4, 6) ∷ []) None

abbrev pub case4b : Case
case4b = calls setup_q fresh_store (read_call 2 1 ∷ []) ((0, 0) ∷ []) None

-- 5: "Q, operation 9 by process 9: refusal 5."
abbrev pub case5 : Case
case5 = calls setup_q fresh_store (numbers 9 9 0 0 ∷ []) ((4, 5) ∷ []) None

-- 6: "Q, process 1 opens file 0, process 0 locks it, process 1 reads: nothing."
abbrev pub case6 : Case
case6 = calls setup_q fresh_store (open_call 1 0 ∷ lock_call 0 0 ∷ read_call 1 0 ∷ []) ((0, 0) ∷ (0, 0) ∷ (0, 0) ∷ []) None

-- 7: "Case 6, then UNLOCK by process 0 and READ again", with "a WRITE of 6 before its UNLOCK": "figure 6", "with no second OPEN"
abbrev pub case7 : Case
case7 =
    calls setup_q fresh_store (open_call 1 0 ∷ lock_call 0 0 ∷ read_call 1 0 ∷ write_call 0 0 6 ∷ unlock_call 0 0 ∷ read_call 1 0 ∷ [])
    ((0, 0) ∷ (0, 0) ∷ (0, 0) ∷ (0, 0) ∷ (0, 0) ∷ (1, 6) ∷ []) None

-- 8: "Process 0 opens, process 1 locks and tests: yes."
abbrev pub case8a : Case
case8a = calls setup8 fresh_store (open_call 0 0 ∷ lock_call 1 0 ∷ testlock_call 1 0 ∷ []) ((0, 0) ∷ (0, 0) ∷ (2, 0) ∷ []) None

-- the same without desk 0's call: yes here too, where by 000's LOCK the two would differ
abbrev pub case8b : Case
case8b = calls setup8 fresh_store (lock_call 1 0 ∷ testlock_call 1 0 ∷ []) ((0, 0) ∷ (2, 0) ∷ []) None

-- "though no link runs from desk 0": so there is no route to desk 1
abbrev pub case8c : Case
case8c = route setup8 0 1 244 (Ok None) (0, 0) []

-- 9: "Q, route 0 to 2: 9 calls, the program case below."
abbrev pub case9a : Case
case9a =
    route setup_q 0 2 244 (Ok (Some 9)) (1, 9)
    (3 ∷ 0 ∷ 0 ∷ 0 ∷
    2 ∷ 0 ∷ 0 ∷ 1 ∷
    4 ∷ 0 ∷ 0 ∷ 0 ∷
    5 ∷ 1 ∷ 0 ∷ 0 ∷
    3 ∷ 1 ∷ 1 ∷ 0 ∷
    8 ∷ 1 ∷ 0 ∷ 1 ∷
    4 ∷ 1 ∷ 1 ∷ 0 ∷
    5 ∷ 2 ∷ 1 ∷ 0 ∷
    1 ∷ 2 ∷ 1 ∷ 0 ∷ [])

-- "the program case below": what its calls answer
abbrev pub case9b : Case
case9b =
    calls setup_q fresh_store
    (lock_call 0 0 ∷ write_call 0 0 1 ∷ unlock_call 0 0 ∷ open_call 1 0 ∷ lock_call 1 1 ∷ copy_call 1 0 1 ∷ unlock_call 1 1 ∷ open_call 2 1
    ∷ read_call 2 1 ∷ [])
    ((0, 0) ∷ (0, 0) ∷ (0, 0) ∷ (0, 0) ∷ (0, 0) ∷ (0, 0) ∷ (0, 0) ∷ (0, 0) ∷ (1, 1) ∷ []) None

-- "the program case without its first three calls": the last line is `5`, `nothing`
abbrev pub case9c : Case
case9c =
    calls setup_q fresh_store
    (open_call 1 0 ∷ lock_call 1 1 ∷ copy_call 1 0 1 ∷ unlock_call 1 1 ∷ open_call 2 1 ∷ read_call 2 1 ∷ [])
    ((0, 0) ∷ (0, 0) ∷ (0, 0) ∷ (0, 0) ∷ (0, 0) ∷ (0, 0) ∷ []) None

-- 10: "Q, route 0 to 1: 5 calls. Route 2 to 0: none."
abbrev pub case10a : Case
case10a =
    route setup_q 0 1 244 (Ok (Some 5)) (1, 5)
    (3 ∷ 0 ∷ 0 ∷ 0 ∷
    2 ∷ 0 ∷ 0 ∷ 1 ∷
    4 ∷ 0 ∷ 0 ∷ 0 ∷
    5 ∷ 1 ∷ 0 ∷ 0 ∷
    1 ∷ 1 ∷ 0 ∷ 0 ∷ [])

abbrev pub case10b : Case
case10b = route setup_q 2 0 244 (Ok None) (0, 0) []

-- 11: "Q, route 1 to 1: refusal 13. With room 243, route 0 to 2: refusal 11."
abbrev pub case11a : Case
case11a = route setup_q 1 1 244 (Err 13) (4, 13) []

abbrev pub case11b : Case
case11b = route setup_q 0 2 243 (Err 11) (4, 11) []

-- 12: "An empty list gives no answers and the same store."
abbrev pub case12 : Case
case12 = calls setup_q in_use [] [] (Some in_use)

-- beside 4 and 6, on a written file: of an unwritten one READ answers "nothing" whatever its lock and its open mark are
abbrev pub case_written : Case
case_written =
    calls setup_q in_use (read_call 1 0 ∷ unlock_call 0 0 ∷ read_call 1 0 ∷ close_call 1 0 ∷ read_call 1 0 ∷ [])
    ((0, 0) ∷ (0, 0) ∷ (1, 5) ∷ (0, 0) ∷ (0, 0) ∷ []) None

-- answers as numbers, two each
unfoldable pub in_pairs : List (ℕ × ℕ) → List ℕ
in_pairs [] = []
in_pairs (a ∷ rest) = a.0 ∷ a.1 ∷ in_pairs rest

-- what a lent room holds before it is written to: a number that no case writes
abbrev pub untouched : ℕ
untouched = most_number

abbrev pub room_of : ℕ → List ℕ
room_of n = replicate n untouched

-- the room that a list is lent: more than the answers of any case take
abbrev pub answers_room : List ℕ
answers_room = room_of most_route_numbers

-- the front is written into the room, and what lies past it keeps its values
abbrev pub written_into : List ℕ → List ℕ → List ℕ
written_into front room = front ++ drop (length front) room

-- the list is run, and the room holds its answers
unfoldable pub Answers : Setup → Store → List ℕ → List ℕ → Type 0
Answers s m list answers =
    ((listed s m list answers_room).0 ≡ Ok (calls_in list))
    × (lists.answers_after s m list answers_room ≡ written_into answers answers_room)

-- the list leaves the store
unfoldable pub Leaves : Setup → Store → List ℕ → Store → Type 0
Leaves s m list left = (listed s m list answers_room).1 ≡ left

-- the report answers, its two numbers are the pair, and the room holds its list
unfoldable pub Reports : Setup → ℕ → ℕ → ℕ → Result (Option ℕ) ℕ → ℕ × ℕ → List ℕ → Type 0
Reports s a b n answer pair list =
    (routed s a b n ≡ answer) × (told_numbers_of (routed s a b n) ≡ pair)
    × (routes.room_after s a b (room_of n) ≡ written_into list (room_of n))

-- the case comes out so
abbrev pub ComesOut : Case → Type 0
ComesOut (calls setup m list answers None) = Answers (acceptance setup).setup m (in_quads list) (in_pairs answers)
ComesOut (calls setup m list answers (Some left)) =
    Answers (acceptance setup).setup m (in_quads list) (in_pairs answers) × Leaves (acceptance setup).setup m (in_quads list) left
ComesOut (route setup a b n answer pair list) = Reports (acceptance setup).setup a b n answer pair list

-- each case of a table does
abbrev pub EachComesOut : List Case → Type 0
EachComesOut [] = Unit
EachComesOut (c ∷ rest) = ComesOut c × EachComesOut rest

abbrev pub twelve : List Case
twelve =
    case1 ∷ case2 ∷ case3 ∷ case4a ∷ case4b ∷ case5 ∷ case6 ∷ case7 ∷ case8a ∷ case8b ∷ case8c ∷ case9a ∷ case9b ∷ case9c
    ∷ case10a ∷ case10b ∷ case11a ∷ case11b ∷ case12 ∷ case_written ∷ []
