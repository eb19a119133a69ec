-- The program case of 01, and its end without the first three calls as 02, Req 02 has it, from its first byte in to its last byte out, by computation.
-- Assumes nothing.
use Prim.Native.Nat.{ℕ, ◌+◌}
use mathlib.Core.Path.{◌≡◌, refl}
use mathlib.Core.Bool.{Bool, true}
use mathlib.Core.List.{List, [], ◌∷◌, ◌++◌}
use lib.ListN.{take, drop}
use Rattle.secrecy.specs.Machine.{after, answers_where}
use Rattle.rules.specs.Sizes.{every, some_below, table}
use Rattle.rules.specs.Setups.{may_read, may_write, within_sizes, given_right, setup_from}
use Rattle.rules.specs.Stores.{fresh_store}
use Rattle.rules.specs.Calls.{call_of, goes_through, effect, says, answer_to, next_store}
use Rattle.rules.specs.Refusals.{numbers_refusal}
use Rattle.rules.specs.Entries.{ran}
use Rattle.lines.specs.Bytes.{same}
use Rattle.lines.specs.Lines.{pieces, joined, lines_from, lines_of, fields_of}
use Rattle.lines.specs.Decimals.{is_number, number_of, digits_within, digits_of}
use Rattle.lines.specs.Shapes.{read_as, header_line, access_line, process_line, file_line, calls_line, call_line}
use Rattle.lines.specs.Readings.{at_start, judge, judge_all, read_text, right_read, bytes_read}
use Rattle.lines.proofs.Cases.{setup_text, call_text}
use Rattle.printing.specs.Outputs.{answer_line, answer_lines, printed}

-- every definition that the program's output computes with
unfoldable computes : Bool
unfolding same pieces joined lines_from lines_of fields_of is_number number_of digits_within digits_of read_as header_line access_line
    process_line file_line calls_line call_line at_start judge judge_all read_text right_read bytes_read within_sizes table given_right
    setup_from every some_below may_read may_write fresh_store call_of goes_through effect says answer_to next_store numbers_refusal ran
    after answers_where answer_line answer_lines printed
computes = true

-- "0 nothing" to "7 nothing", and "8 figure 1"
abbrev output : List ℕ
output =
    48 ∷ 9 ∷ 110 ∷ 111 ∷ 116 ∷ 104 ∷ 105 ∷ 110 ∷ 103 ∷ 10 ∷
    49 ∷ 9 ∷ 110 ∷ 111 ∷ 116 ∷ 104 ∷ 105 ∷ 110 ∷ 103 ∷ 10 ∷
    50 ∷ 9 ∷ 110 ∷ 111 ∷ 116 ∷ 104 ∷ 105 ∷ 110 ∷ 103 ∷ 10 ∷
    51 ∷ 9 ∷ 110 ∷ 111 ∷ 116 ∷ 104 ∷ 105 ∷ 110 ∷ 103 ∷ 10 ∷
    52 ∷ 9 ∷ 110 ∷ 111 ∷ 116 ∷ 104 ∷ 105 ∷ 110 ∷ 103 ∷ 10 ∷
    53 ∷ 9 ∷ 110 ∷ 111 ∷ 116 ∷ 104 ∷ 105 ∷ 110 ∷ 103 ∷ 10 ∷
    54 ∷ 9 ∷ 110 ∷ 111 ∷ 116 ∷ 104 ∷ 105 ∷ 110 ∷ 103 ∷ 10 ∷
    55 ∷ 9 ∷ 110 ∷ 111 ∷ 116 ∷ 104 ∷ 105 ∷ 110 ∷ 103 ∷ 10 ∷
    56 ∷ 9 ∷ 102 ∷ 105 ∷ 103 ∷ 117 ∷ 114 ∷ 101 ∷ 9 ∷ 49 ∷ 10 ∷ []

pub program_case : printed (setup_text ++ call_text) ≡ output
unfolding computes
program_case = refl

-- "the program case without its first three calls": the bytes of the line `calls`, `1`, and then those after the three
abbrev calls_bytes : ℕ
calls_bytes = 8

abbrev struck_bytes : ℕ
struck_bytes = 32

abbrev silent_text : List ℕ
silent_text = take calls_bytes call_text ++ drop (calls_bytes + struck_bytes) call_text

-- "0 nothing" to "5 nothing"
abbrev silent_output : List ℕ
silent_output =
    48 ∷ 9 ∷ 110 ∷ 111 ∷ 116 ∷ 104 ∷ 105 ∷ 110 ∷ 103 ∷ 10 ∷
    49 ∷ 9 ∷ 110 ∷ 111 ∷ 116 ∷ 104 ∷ 105 ∷ 110 ∷ 103 ∷ 10 ∷
    50 ∷ 9 ∷ 110 ∷ 111 ∷ 116 ∷ 104 ∷ 105 ∷ 110 ∷ 103 ∷ 10 ∷
    51 ∷ 9 ∷ 110 ∷ 111 ∷ 116 ∷ 104 ∷ 105 ∷ 110 ∷ 103 ∷ 10 ∷
    52 ∷ 9 ∷ 110 ∷ 111 ∷ 116 ∷ 104 ∷ 105 ∷ 110 ∷ 103 ∷ 10 ∷
    53 ∷ 9 ∷ 110 ∷ 111 ∷ 116 ∷ 104 ∷ 105 ∷ 110 ∷ 103 ∷ 10 ∷ []

pub silent_case : printed (setup_text ++ silent_text) ≡ silent_output
unfolding computes
silent_case = refl
