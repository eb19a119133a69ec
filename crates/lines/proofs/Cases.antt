-- The program case of 01 and small texts, read by computation.
-- Assumes nothing.
use Prim.Native.Nat.{ℕ, ◌-◌, ◌*◌}
use mathlib.Core.Path.{◌≡◌, refl}
use mathlib.Core.Bool.{Bool, true}
use mathlib.Core.List.{List, [], ◌∷◌, ◌++◌}
use Rattle.rules.specs.Sizes.{table, most_calls}
use Rattle.rules.specs.Setups.{within_sizes, setup_bytes, given_right, setup_from}
use Rattle.rules.specs.Calls.{numbers, call_width}
use Rattle.rules.specs.declared.Numbers.{Numbers}
use Rattle.rules.specs.declared.Setup.{Setup}
use Rattle.lines.specs.Bytes.{same}
use Rattle.lines.specs.Lines.{pieces, lines_from, lines_of, fields_of}
use Rattle.lines.specs.Decimals.{is_number, number_of}
use Rattle.lines.specs.Shapes.{read_as, header_line, access_line, process_line, file_line, calls_line, call_line}
use Rattle.lines.specs.Readings.{refused, alone, calls_follow, at_start, judge, judge_all, read_text, right_read, bytes_read}
use Rattle.lines.specs.Entries.{read_alone, reached_with, read_with_calls, calls_read}
use Rattle.std.specs.Prelude.{Ok}

-- room for every call that a text can have
abbrev enough : ℕ
enough = most_calls * call_width

-- setup Q as the program case writes it: store 1 3 2 3 2, access 0 0 W, access 1 0 R, access 1 1 W, access 2 1 R, process 0 0,
-- process 1 1, process 2 2, file 0 0, file 1 1; each line's fields parted by tabs
abbrev pub setup_text : List ℕ
setup_text =
    115 ∷ 116 ∷ 111 ∷ 114 ∷ 101 ∷ 9 ∷ 49 ∷ 9 ∷ 51 ∷ 9 ∷ 50 ∷ 9 ∷ 51 ∷ 9 ∷ 50 ∷ 10 ∷
    97 ∷ 99 ∷ 99 ∷ 101 ∷ 115 ∷ 115 ∷ 9 ∷ 48 ∷ 9 ∷ 48 ∷ 9 ∷ 87 ∷ 10 ∷
    97 ∷ 99 ∷ 99 ∷ 101 ∷ 115 ∷ 115 ∷ 9 ∷ 49 ∷ 9 ∷ 48 ∷ 9 ∷ 82 ∷ 10 ∷
    97 ∷ 99 ∷ 99 ∷ 101 ∷ 115 ∷ 115 ∷ 9 ∷ 49 ∷ 9 ∷ 49 ∷ 9 ∷ 87 ∷ 10 ∷
    97 ∷ 99 ∷ 99 ∷ 101 ∷ 115 ∷ 115 ∷ 9 ∷ 50 ∷ 9 ∷ 49 ∷ 9 ∷ 82 ∷ 10 ∷
    112 ∷ 114 ∷ 111 ∷ 99 ∷ 101 ∷ 115 ∷ 115 ∷ 9 ∷ 48 ∷ 9 ∷ 48 ∷ 10 ∷
    112 ∷ 114 ∷ 111 ∷ 99 ∷ 101 ∷ 115 ∷ 115 ∷ 9 ∷ 49 ∷ 9 ∷ 49 ∷ 10 ∷
    112 ∷ 114 ∷ 111 ∷ 99 ∷ 101 ∷ 115 ∷ 115 ∷ 9 ∷ 50 ∷ 9 ∷ 50 ∷ 10 ∷
    102 ∷ 105 ∷ 108 ∷ 101 ∷ 9 ∷ 48 ∷ 9 ∷ 48 ∷ 10 ∷
    102 ∷ 105 ∷ 108 ∷ 101 ∷ 9 ∷ 49 ∷ 9 ∷ 49 ∷ 10 ∷ []

-- and the calls that follow it: calls 1, lock 0 0, write 0 0 1, unlock 0 0, open 1 0, lock 1 1, copy 1 0 1, unlock 1 1, open 2 1,
-- read 2 1
abbrev pub call_text : List ℕ
call_text =
    99 ∷ 97 ∷ 108 ∷ 108 ∷ 115 ∷ 9 ∷ 49 ∷ 10 ∷
    108 ∷ 111 ∷ 99 ∷ 107 ∷ 9 ∷ 48 ∷ 9 ∷ 48 ∷ 10 ∷
    119 ∷ 114 ∷ 105 ∷ 116 ∷ 101 ∷ 9 ∷ 48 ∷ 9 ∷ 48 ∷ 9 ∷ 49 ∷ 10 ∷
    117 ∷ 110 ∷ 108 ∷ 111 ∷ 99 ∷ 107 ∷ 9 ∷ 48 ∷ 9 ∷ 48 ∷ 10 ∷
    111 ∷ 112 ∷ 101 ∷ 110 ∷ 9 ∷ 49 ∷ 9 ∷ 48 ∷ 10 ∷
    108 ∷ 111 ∷ 99 ∷ 107 ∷ 9 ∷ 49 ∷ 9 ∷ 49 ∷ 10 ∷
    99 ∷ 111 ∷ 112 ∷ 121 ∷ 9 ∷ 49 ∷ 9 ∷ 48 ∷ 9 ∷ 49 ∷ 10 ∷
    117 ∷ 110 ∷ 108 ∷ 111 ∷ 99 ∷ 107 ∷ 9 ∷ 49 ∷ 9 ∷ 49 ∷ 10 ∷
    111 ∷ 112 ∷ 101 ∷ 110 ∷ 9 ∷ 50 ∷ 9 ∷ 49 ∷ 10 ∷
    114 ∷ 101 ∷ 97 ∷ 100 ∷ 9 ∷ 50 ∷ 9 ∷ 49 ∷ 10 ∷ []

-- "Setup Q: 3 desks, 2 classes, 3 processes, 2 files; .. rights 0/0 W, 1/0 R, 1/1 W, 2/1 R"
abbrev pub setup_q : Setup
setup_q = setup_from (setup_bytes 3 2 3 2 (2 ∷ 0 ∷ 1 ∷ 2 ∷ 0 ∷ 1 ∷ []) (0 ∷ 1 ∷ 2 ∷ []) (0 ∷ 1 ∷ []))

-- the nine calls of case 9
abbrev pub nine_calls : List Numbers
nine_calls =
    numbers 3 0 0 0 ∷ numbers 2 0 0 1 ∷ numbers 4 0 0 0 ∷ numbers 5 1 0 0 ∷ numbers 3 1 1 0 ∷ numbers 8 1 0 1 ∷ numbers 4 1 1 0
    ∷ numbers 5 2 1 0 ∷ numbers 1 2 1 0 ∷ []

-- every definition that reading a text computes with
unfoldable computes : Bool
unfolding same pieces lines_from lines_of fields_of is_number number_of read_as header_line access_line process_line file_line calls_line
    call_line at_start judge judge_all read_text right_read bytes_read read_alone reached_with read_with_calls calls_read within_sizes table
    given_right setup_from
computes = true

-- setup Q's text alone is read to setup Q
pub q_alone : read_alone setup_text ≡ Ok (record { setup = setup_q; calls = 0 })
unfolding computes
q_alone = refl

-- the program case is read to setup Q and its nine calls
pub q_with_calls : read_with_calls (setup_text ++ call_text) enough ≡ Ok (record { setup = setup_q; calls = 9 })
unfolding computes
q_with_calls = refl

pub q_calls : calls_read (setup_text ++ call_text) enough ≡ nine_calls
unfolding computes
q_calls = refl

-- "room for calls read below 4,096" comes before any line
pub q_no_room : reached_with (setup_text ++ call_text) (enough - 1) ≡ refused 11 0
unfolding computes
q_no_room = refl

-- a further line after a setup read alone is 14 at its offset, whatever it holds
pub q_further : read_text alone (setup_text ++ call_text) ≡ refused 14 122
unfolding computes
q_further = refl

-- a setup text with no call text lacks a line at its end
pub q_lacks_calls : read_text calls_follow setup_text ≡ refused 14 122
unfolding computes
q_lacks_calls = refl

-- no line at all: nothing
pub empty : read_text alone ([]) ≡ refused 14 0
unfolding computes
empty = refl

pub empty_with_calls : read_text calls_follow ([]) ≡ refused 14 0
unfolding computes
empty_with_calls = refl

-- a line of no byte has one empty field: `|`
pub only_lf : read_text alone (10 ∷ []) ≡ refused 14 0
unfolding computes
only_lf = refl

-- a header without its LF, though its counts are wrong too: `store 1 0 0 0 0`
pub no_lf : read_text alone (115 ∷ 116 ∷ 111 ∷ 114 ∷ 101 ∷ 9 ∷ 49 ∷ 9 ∷ 48 ∷ 9 ∷ 48 ∷ 9 ∷ 48 ∷ 9 ∷ 48 ∷ []) ≡ refused 14 0
unfolding computes
no_lf = refl

-- a count outside its sizes: `store 1 0 2 3 2|`
pub no_desk : read_text alone (115 ∷ 116 ∷ 111 ∷ 114 ∷ 101 ∷ 9 ∷ 49 ∷ 9 ∷ 48 ∷ 9 ∷ 50 ∷ 9 ∷ 51 ∷ 9 ∷ 50 ∷ 10 ∷ []) ≡ refused 1 0
unfolding computes
no_desk = refl

-- a leading zero: `store 1 03 2 3 2|`
pub leading_zero : read_text alone (115 ∷ 116 ∷ 111 ∷ 114 ∷ 101 ∷ 9 ∷ 49 ∷ 9 ∷ 48 ∷ 51 ∷ 9 ∷ 50 ∷ 9 ∷ 51 ∷ 9 ∷ 50 ∷ 10 ∷ []) ≡ refused 14 0
unfolding computes
leading_zero = refl

-- the largest number is a number, and outside the sizes: `store 1 4294967295 1 1 1|`
pub largest : read_text alone (115 ∷ 116 ∷ 111 ∷ 114 ∷ 101 ∷ 9 ∷ 49 ∷ 9 ∷ 52 ∷ 50 ∷ 57 ∷ 52 ∷ 57 ∷ 54 ∷ 55 ∷ 50 ∷ 57 ∷ 53 ∷ 9 ∷ 49 ∷ 9 ∷ 49 ∷ 9 ∷ 49 ∷ 10 ∷ []) ≡ refused 1 0
unfolding computes
largest = refl

-- 4,294,967,296 is no number: `store 1 4294967296 1 1 1|`
pub too_large : read_text alone (115 ∷ 116 ∷ 111 ∷ 114 ∷ 101 ∷ 9 ∷ 49 ∷ 9 ∷ 52 ∷ 50 ∷ 57 ∷ 52 ∷ 57 ∷ 54 ∷ 55 ∷ 50 ∷ 57 ∷ 54 ∷ 9 ∷ 49 ∷ 9 ∷ 49 ∷ 9 ∷ 49 ∷ 10 ∷ []) ≡ refused 14 0
unfolding computes
too_large = refl

-- one field too many: `store 1 1 1 1 1 |`
pub field_too_many : read_text alone (115 ∷ 116 ∷ 111 ∷ 114 ∷ 101 ∷ 9 ∷ 49 ∷ 9 ∷ 49 ∷ 9 ∷ 49 ∷ 9 ∷ 49 ∷ 9 ∷ 49 ∷ 9 ∷ 10 ∷ []) ≡ refused 14 0
unfolding computes
field_too_many = refl

-- equal pairs do not rise: `store 1 1 1 1 1|access 0 0 R|access 0 0 W|`
pub equal_pairs : read_text alone (115 ∷ 116 ∷ 111 ∷ 114 ∷ 101 ∷ 9 ∷ 49 ∷ 9 ∷ 49 ∷ 9 ∷ 49 ∷ 9 ∷ 49 ∷ 9 ∷ 49 ∷ 10 ∷ 97 ∷ 99 ∷ 99 ∷ 101 ∷ 115 ∷ 115 ∷ 9 ∷ 48 ∷ 9 ∷ 48 ∷ 9 ∷ 82 ∷ 10 ∷ 97 ∷ 99 ∷ 99 ∷ 101 ∷ 115 ∷ 115 ∷ 9 ∷ 48 ∷ 9 ∷ 48 ∷ 9 ∷ 87 ∷ 10 ∷ []) ≡ refused 14 29
unfolding computes
equal_pairs = refl

-- 3 before 4: `store 1 1 1 1 1|access 1 1 R|`
pub desk_before_class : read_text alone (115 ∷ 116 ∷ 111 ∷ 114 ∷ 101 ∷ 9 ∷ 49 ∷ 9 ∷ 49 ∷ 9 ∷ 49 ∷ 9 ∷ 49 ∷ 9 ∷ 49 ∷ 10 ∷ 97 ∷ 99 ∷ 99 ∷ 101 ∷ 115 ∷ 115 ∷ 9 ∷ 49 ∷ 9 ∷ 49 ∷ 9 ∷ 82 ∷ 10 ∷ []) ≡ refused 3 16
unfolding computes
desk_before_class = refl

-- 4 before rising order: `store 1 1 1 1 1|access 0 0 R|access 0 1 R|`
pub class_before_order : read_text alone (115 ∷ 116 ∷ 111 ∷ 114 ∷ 101 ∷ 9 ∷ 49 ∷ 9 ∷ 49 ∷ 9 ∷ 49 ∷ 9 ∷ 49 ∷ 9 ∷ 49 ∷ 10 ∷ 97 ∷ 99 ∷ 99 ∷ 101 ∷ 115 ∷ 115 ∷ 9 ∷ 48 ∷ 9 ∷ 48 ∷ 9 ∷ 82 ∷ 10 ∷ 97 ∷ 99 ∷ 99 ∷ 101 ∷ 115 ∷ 115 ∷ 9 ∷ 48 ∷ 9 ∷ 49 ∷ 9 ∷ 82 ∷ 10 ∷ []) ≡ refused 4 29
unfolding computes
class_before_order = refl

-- a process number that is not the one due: `store 1 1 1 1 1|process 1 0|`
pub wrong_process : read_text alone (115 ∷ 116 ∷ 111 ∷ 114 ∷ 101 ∷ 9 ∷ 49 ∷ 9 ∷ 49 ∷ 9 ∷ 49 ∷ 9 ∷ 49 ∷ 9 ∷ 49 ∷ 10 ∷ 112 ∷ 114 ∷ 111 ∷ 99 ∷ 101 ∷ 115 ∷ 115 ∷ 9 ∷ 49 ∷ 9 ∷ 48 ∷ 10 ∷ []) ≡ refused 14 16
unfolding computes
wrong_process = refl

-- 3 before the number's order: `store 1 1 1 1 1|process 1 1|`
pub desk_before_number : read_text alone (115 ∷ 116 ∷ 111 ∷ 114 ∷ 101 ∷ 9 ∷ 49 ∷ 9 ∷ 49 ∷ 9 ∷ 49 ∷ 9 ∷ 49 ∷ 9 ∷ 49 ∷ 10 ∷ 112 ∷ 114 ∷ 111 ∷ 99 ∷ 101 ∷ 115 ∷ 115 ∷ 9 ∷ 49 ∷ 9 ∷ 49 ∷ 10 ∷ []) ≡ refused 3 16
unfolding computes
desk_before_number = refl

-- a file number that is not the one due, and 4 before it: `store 1 1 1 1 1|process 0 0|file 1 0|`
pub wrong_file : read_text alone (115 ∷ 116 ∷ 111 ∷ 114 ∷ 101 ∷ 9 ∷ 49 ∷ 9 ∷ 49 ∷ 9 ∷ 49 ∷ 9 ∷ 49 ∷ 9 ∷ 49 ∷ 10 ∷ 112 ∷ 114 ∷ 111 ∷ 99 ∷ 101 ∷ 115 ∷ 115 ∷ 9 ∷ 48 ∷ 9 ∷ 48 ∷ 10 ∷ 102 ∷ 105 ∷ 108 ∷ 101 ∷ 9 ∷ 49 ∷ 9 ∷ 48 ∷ 10 ∷ []) ≡ refused 14 28
unfolding computes
wrong_file = refl

-- `store 1 1 1 1 1|process 0 0|file 1 1|`
pub class_before_number : read_text alone (115 ∷ 116 ∷ 111 ∷ 114 ∷ 101 ∷ 9 ∷ 49 ∷ 9 ∷ 49 ∷ 9 ∷ 49 ∷ 9 ∷ 49 ∷ 9 ∷ 49 ∷ 10 ∷ 112 ∷ 114 ∷ 111 ∷ 99 ∷ 101 ∷ 115 ∷ 115 ∷ 9 ∷ 48 ∷ 9 ∷ 48 ∷ 10 ∷ 102 ∷ 105 ∷ 108 ∷ 101 ∷ 9 ∷ 49 ∷ 9 ∷ 49 ∷ 10 ∷ []) ≡ refused 4 28
unfolding computes
class_before_number = refl

-- an access line after a process line is no file line: `store 1 1 1 1 1|process 0 0|access 9 9 R|`
pub late_access : read_text alone (115 ∷ 116 ∷ 111 ∷ 114 ∷ 101 ∷ 9 ∷ 49 ∷ 9 ∷ 49 ∷ 9 ∷ 49 ∷ 9 ∷ 49 ∷ 9 ∷ 49 ∷ 10 ∷ 112 ∷ 114 ∷ 111 ∷ 99 ∷ 101 ∷ 115 ∷ 115 ∷ 9 ∷ 48 ∷ 9 ∷ 48 ∷ 10 ∷ 97 ∷ 99 ∷ 99 ∷ 101 ∷ 115 ∷ 115 ∷ 9 ∷ 57 ∷ 9 ∷ 57 ∷ 9 ∷ 82 ∷ 10 ∷ []) ≡ refused 14 28
unfolding computes
late_access = refl

-- a missing line is 14 at the text's length: `store 1 1 1 1 1|process 0 0|`
pub missing_file : read_text alone (115 ∷ 116 ∷ 111 ∷ 114 ∷ 101 ∷ 9 ∷ 49 ∷ 9 ∷ 49 ∷ 9 ∷ 49 ∷ 9 ∷ 49 ∷ 9 ∷ 49 ∷ 10 ∷ 112 ∷ 114 ∷ 111 ∷ 99 ∷ 101 ∷ 115 ∷ 115 ∷ 9 ∷ 48 ∷ 9 ∷ 48 ∷ 10 ∷ []) ≡ refused 14 28
unfolding computes
missing_file = refl

-- every word of a call, and numbers that are refused only when they are run:
-- `store 1 1 1 1 1|access 0 0 RW|process 0 0|file 0 0|calls 1|read 1 2|write 1 2 3|lock 1 2|unlock 1 2|open 1 2|close 1 2|testlock 1 2|copy 4294967295 7 7|`
abbrev words_text : List ℕ
words_text = 115 ∷ 116 ∷ 111 ∷ 114 ∷ 101 ∷ 9 ∷ 49 ∷ 9 ∷ 49 ∷ 9 ∷ 49 ∷ 9 ∷ 49 ∷ 9 ∷ 49 ∷ 10 ∷ 97 ∷ 99 ∷ 99 ∷ 101 ∷ 115 ∷ 115 ∷ 9 ∷ 48 ∷ 9 ∷ 48 ∷ 9 ∷ 82 ∷ 87 ∷ 10 ∷ 112 ∷ 114 ∷ 111 ∷ 99 ∷ 101 ∷ 115 ∷ 115 ∷ 9 ∷ 48 ∷ 9 ∷ 48 ∷ 10 ∷ 102 ∷ 105 ∷ 108 ∷ 101 ∷ 9 ∷ 48 ∷ 9 ∷ 48 ∷ 10 ∷ 99 ∷ 97 ∷ 108 ∷ 108 ∷ 115 ∷ 9 ∷ 49 ∷ 10 ∷ 114 ∷ 101 ∷ 97 ∷ 100 ∷ 9 ∷ 49 ∷ 9 ∷ 50 ∷ 10 ∷ 119 ∷ 114 ∷ 105 ∷ 116 ∷ 101 ∷ 9 ∷ 49 ∷ 9 ∷ 50 ∷ 9 ∷ 51 ∷ 10 ∷ 108 ∷ 111 ∷ 99 ∷ 107 ∷ 9 ∷ 49 ∷ 9 ∷ 50 ∷ 10 ∷ 117 ∷ 110 ∷ 108 ∷ 111 ∷ 99 ∷ 107 ∷ 9 ∷ 49 ∷ 9 ∷ 50 ∷ 10 ∷ 111 ∷ 112 ∷ 101 ∷ 110 ∷ 9 ∷ 49 ∷ 9 ∷ 50 ∷ 10 ∷ 99 ∷ 108 ∷ 111 ∷ 115 ∷ 101 ∷ 9 ∷ 49 ∷ 9 ∷ 50 ∷ 10 ∷ 116 ∷ 101 ∷ 115 ∷ 116 ∷ 108 ∷ 111 ∷ 99 ∷ 107 ∷ 9 ∷ 49 ∷ 9 ∷ 50 ∷ 10 ∷ 99 ∷ 111 ∷ 112 ∷ 121 ∷ 9 ∷ 52 ∷ 50 ∷ 57 ∷ 52 ∷ 57 ∷ 54 ∷ 55 ∷ 50 ∷ 57 ∷ 53 ∷ 9 ∷ 55 ∷ 9 ∷ 55 ∷ 10 ∷ []

pub every_word : calls_read words_text enough
    ≡ numbers 1 1 2 0 ∷ numbers 2 1 2 3 ∷ numbers 3 1 2 0 ∷ numbers 4 1 2 0 ∷ numbers 5 1 2 0 ∷ numbers 6 1 2 0 ∷ numbers 7 1 2 0
    ∷ numbers 8 4294967295 7 7 ∷ []
unfolding computes
every_word = refl

-- `RW` is both rights
pub both_rights : read_with_calls words_text enough ≡ Ok (record { setup = setup_from (setup_bytes 1 1 1 1 (3 ∷ []) (0 ∷ []) (0 ∷ [])); calls = 8 })
unfolding computes
both_rights = refl

-- x for a call that takes none: `store 1 1 1 1 1|process 0 0|file 0 0|calls 1|read 0 0 0|`
pub extra_given : read_text calls_follow (115 ∷ 116 ∷ 111 ∷ 114 ∷ 101 ∷ 9 ∷ 49 ∷ 9 ∷ 49 ∷ 9 ∷ 49 ∷ 9 ∷ 49 ∷ 9 ∷ 49 ∷ 10 ∷ 112 ∷ 114 ∷ 111 ∷ 99 ∷ 101 ∷ 115 ∷ 115 ∷ 9 ∷ 48 ∷ 9 ∷ 48 ∷ 10 ∷ 102 ∷ 105 ∷ 108 ∷ 101 ∷ 9 ∷ 48 ∷ 9 ∷ 48 ∷ 10 ∷ 99 ∷ 97 ∷ 108 ∷ 108 ∷ 115 ∷ 9 ∷ 49 ∷ 10 ∷ 114 ∷ 101 ∷ 97 ∷ 100 ∷ 9 ∷ 48 ∷ 9 ∷ 48 ∷ 9 ∷ 48 ∷ 10 ∷ []) ≡ refused 14 45
unfolding computes
extra_given = refl

-- no x for a call that takes one: `store 1 1 1 1 1|process 0 0|file 0 0|calls 1|write 0 0|`
pub extra_missing : read_text calls_follow (115 ∷ 116 ∷ 111 ∷ 114 ∷ 101 ∷ 9 ∷ 49 ∷ 9 ∷ 49 ∷ 9 ∷ 49 ∷ 9 ∷ 49 ∷ 9 ∷ 49 ∷ 10 ∷ 112 ∷ 114 ∷ 111 ∷ 99 ∷ 101 ∷ 115 ∷ 115 ∷ 9 ∷ 48 ∷ 9 ∷ 48 ∷ 10 ∷ 102 ∷ 105 ∷ 108 ∷ 101 ∷ 9 ∷ 48 ∷ 9 ∷ 48 ∷ 10 ∷ 99 ∷ 97 ∷ 108 ∷ 108 ∷ 115 ∷ 9 ∷ 49 ∷ 10 ∷ 119 ∷ 114 ∷ 105 ∷ 116 ∷ 101 ∷ 9 ∷ 48 ∷ 9 ∷ 48 ∷ 10 ∷ []) ≡ refused 14 45
unfolding computes
extra_missing = refl

-- a word that is no call's: `store 1 1 1 1 1|process 0 0|file 0 0|calls 1|read 0 0|READ 0 0|`
pub no_word : read_text calls_follow (115 ∷ 116 ∷ 111 ∷ 114 ∷ 101 ∷ 9 ∷ 49 ∷ 9 ∷ 49 ∷ 9 ∷ 49 ∷ 9 ∷ 49 ∷ 9 ∷ 49 ∷ 10 ∷ 112 ∷ 114 ∷ 111 ∷ 99 ∷ 101 ∷ 115 ∷ 115 ∷ 9 ∷ 48 ∷ 9 ∷ 48 ∷ 10 ∷ 102 ∷ 105 ∷ 108 ∷ 101 ∷ 9 ∷ 48 ∷ 9 ∷ 48 ∷ 10 ∷ 99 ∷ 97 ∷ 108 ∷ 108 ∷ 115 ∷ 9 ∷ 49 ∷ 10 ∷ 114 ∷ 101 ∷ 97 ∷ 100 ∷ 9 ∷ 48 ∷ 9 ∷ 48 ∷ 10 ∷ 82 ∷ 69 ∷ 65 ∷ 68 ∷ 9 ∷ 48 ∷ 9 ∷ 48 ∷ 10 ∷ []) ≡ refused 14 54
unfolding computes
no_word = refl

-- a call line without its LF: `store 1 1 1 1 1|process 0 0|file 0 0|calls 1|read 0 0|read 0 0`
pub call_no_lf : read_text calls_follow (115 ∷ 116 ∷ 111 ∷ 114 ∷ 101 ∷ 9 ∷ 49 ∷ 9 ∷ 49 ∷ 9 ∷ 49 ∷ 9 ∷ 49 ∷ 9 ∷ 49 ∷ 10 ∷ 112 ∷ 114 ∷ 111 ∷ 99 ∷ 101 ∷ 115 ∷ 115 ∷ 9 ∷ 48 ∷ 9 ∷ 48 ∷ 10 ∷ 102 ∷ 105 ∷ 108 ∷ 101 ∷ 9 ∷ 48 ∷ 9 ∷ 48 ∷ 10 ∷ 99 ∷ 97 ∷ 108 ∷ 108 ∷ 115 ∷ 9 ∷ 49 ∷ 10 ∷ 114 ∷ 101 ∷ 97 ∷ 100 ∷ 9 ∷ 48 ∷ 9 ∷ 48 ∷ 10 ∷ 114 ∷ 101 ∷ 97 ∷ 100 ∷ 9 ∷ 48 ∷ 9 ∷ 48 ∷ []) ≡ refused 14 54
unfolding computes
call_no_lf = refl

-- another number of the call text: `store 1 1 1 1 1|process 0 0|file 0 0|calls 2|`
pub other_form : read_text calls_follow (115 ∷ 116 ∷ 111 ∷ 114 ∷ 101 ∷ 9 ∷ 49 ∷ 9 ∷ 49 ∷ 9 ∷ 49 ∷ 9 ∷ 49 ∷ 9 ∷ 49 ∷ 10 ∷ 112 ∷ 114 ∷ 111 ∷ 99 ∷ 101 ∷ 115 ∷ 115 ∷ 9 ∷ 48 ∷ 9 ∷ 48 ∷ 10 ∷ 102 ∷ 105 ∷ 108 ∷ 101 ∷ 9 ∷ 48 ∷ 9 ∷ 48 ∷ 10 ∷ 99 ∷ 97 ∷ 108 ∷ 108 ∷ 115 ∷ 9 ∷ 50 ∷ 10 ∷ []) ≡ refused 14 37
unfolding computes
other_form = refl

-- a CR is no part of a number: `store 1 1 1 1 1|process 0 0|file 0 0<CR>|`
pub carriage_return : read_text alone (115 ∷ 116 ∷ 111 ∷ 114 ∷ 101 ∷ 9 ∷ 49 ∷ 9 ∷ 49 ∷ 9 ∷ 49 ∷ 9 ∷ 49 ∷ 9 ∷ 49 ∷ 10 ∷ 112 ∷ 114 ∷ 111 ∷ 99 ∷ 101 ∷ 115 ∷ 115 ∷ 9 ∷ 48 ∷ 9 ∷ 48 ∷ 10 ∷ 102 ∷ 105 ∷ 108 ∷ 101 ∷ 9 ∷ 48 ∷ 9 ∷ 48 ∷ 13 ∷ 10 ∷ []) ≡ refused 14 28
unfolding computes
carriage_return = refl
