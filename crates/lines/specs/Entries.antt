-- What each entry that reads a text answers, refusals too, as one function of what it is handed.
use Rattle.std.specs.Prelude.{ℕ, ◌*◌, List, [], ◌∷◌, ◌++◌, ltb, length, drop, Result, Ok, Err}
use Rattle.rules.specs.Sizes.{most_calls}
use Rattle.rules.specs.Setups.{setup_from, blank_setup}
use Rattle.rules.specs.Calls.{call_width, in_quads}
use Rattle.rules.specs.declared.Numbers.{Numbers}
use Rattle.rules.specs.Refusals.{Ground, ◌gives◌, first_of, number_of}
use Rattle.rules.specs.Entries.{unless}
use Rattle.lines.specs.Readings.{Reached, sound, refused, alone, calls_follow, read_text, bytes_read}
use Rattle.rules.specs.declared.Setup.{Setup}
use Rattle.lines.specs.declared.GivenText.{GivenText}
use Rattle.lines.specs.declared.Fault.{Fault}

-- a refusal's number, and the offset of the faulty line
abbrev pub at_fault : Fault → ℕ × ℕ
at_fault fault = (number_of fault.refusal, fault.at)

-- a result with its fault as these numbers
abbrev pub faulted : {A : Type 0} → Result A Fault → Result A (ℕ × ℕ)
faulted (Ok x) = Ok x
faulted (Err fault) = Err (at_fault fault)

-- "A refusal hands back no new setup"
abbrev pub given_by : Reached → Result GivenText (ℕ × ℕ)
given_by (sound s) = Ok (record { setup = setup_from (bytes_read s); calls = length s.calls })
given_by (refused r at) = Err (r, at)

-- the calls for the lent run; none where the text is refused
abbrev pub calls_by : Reached → List Numbers
calls_by (sound s) = s.calls
calls_by (refused r at) = []

-- "room for calls read below 4,096"
abbrev pub refusal11_of_text : ℕ → Ground
refusal11_of_text room = ltb room (most_calls * call_width) gives 11

-- a setup text read alone
unfoldable pub read_alone : List ℕ → Result GivenText (ℕ × ℕ)
read_alone text = given_by (read_text alone text)

-- "Text with calls: 11, then its lines"
unfoldable pub reached_with : List ℕ → ℕ → Reached
reached_with text room =
    let r = first_of (refusal11_of_text room ∷ []) in
    unless r (read_text calls_follow text) (refused r 0)

unfoldable pub read_with_calls : List ℕ → ℕ → Result GivenText (ℕ × ℕ)
read_with_calls text room = given_by (reached_with text room)

-- the calls that are read; none where the text is refused
unfoldable pub calls_read : List ℕ → ℕ → List Numbers
calls_read text room = calls_by (reached_with text room)

-- "The calls fill the front of a lent run"; what lies past them keeps its values, and all of it where the text is refused
unfoldable pub room_read : List ℕ → List ℕ → List ℕ
room_read text room =
    let calls = calls_read text (length room) in
    in_quads calls ++ drop (length calls * call_width) room

-- the answer to a text as numbers: 0 and the number of calls; or 01's 4, the refusal and the offset
abbrev pub text_numbers_of : Result GivenText (ℕ × ℕ) → ℕ × ℕ × ℕ
text_numbers_of (Ok given) = (0, given.calls, 0)
text_numbers_of (Err fault) = (4, fault.0, fault.1)

-- and the setup that is handed back with them: the blank one beside a refusal
abbrev pub setup_beside : Result GivenText (ℕ × ℕ) → Setup
setup_beside (Ok given) = given.setup
setup_beside (Err fault) = blank_setup
