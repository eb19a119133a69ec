-- 01, "Line rules": what the program `sheets` prints, byte for byte.
use Rattle.std.specs.Prelude.{ℕ, suc, cond, List, [], ◌∷◌, ◌++◌, ltb, length}
use Rattle.rules.specs.Setups.{setup_from}
use Rattle.rules.specs.Stores.{fresh_store}
use Rattle.rules.specs.declared.Answer.{Answer}
use Rattle.rules.specs.declared.Answer.TheVariants.{Nothing, Figure, Yes, No, Refused}
use Rattle.lists.specs.Lists.{answers_over}
use Rattle.lines.specs.Bytes.{line_feed, tab}
use Rattle.lines.specs.Lines.{joined}
use Rattle.lines.specs.Decimals.{digits_of}
use Rattle.lines.specs.Readings.{Reached, sound, refused, breaks_rules, calls_follow, read_text, bytes_read}

-- `nothing`
abbrev pub word_nothing : List ℕ
word_nothing = 110 ∷ 111 ∷ 116 ∷ 104 ∷ 105 ∷ 110 ∷ 103 ∷ []

-- `yes`
abbrev pub word_yes : List ℕ
word_yes = 121 ∷ 101 ∷ 115 ∷ []

-- `no`
abbrev pub word_no : List ℕ
word_no = 110 ∷ 111 ∷ []

-- `figure`
abbrev pub word_figure : List ℕ
word_figure = 102 ∷ 105 ∷ 103 ∷ 117 ∷ 114 ∷ 101 ∷ []

-- `refused`
abbrev pub word_refused : List ℕ
word_refused = 114 ∷ 101 ∷ 102 ∷ 117 ∷ 115 ∷ 101 ∷ 100 ∷ []

-- fields "parted by tabs", and an LF after every line
abbrev pub line_of : List (List ℕ) → List ℕ
line_of fields = joined tab fields ++ (line_feed ∷ [])

-- "`nothing`, `yes`, `no`, `figure` with its value, or `refused` with its number"
abbrev pub answer_fields : Answer → List (List ℕ)
answer_fields Nothing = word_nothing ∷ []
answer_fields (Figure figure) = word_figure ∷ digits_of figure ∷ []
answer_fields Yes = word_yes ∷ []
answer_fields No = word_no ∷ []
answer_fields (Refused refusal) = word_refused ∷ digits_of refusal ∷ []

-- "one line a call: position from 0, then" its answer
unfoldable pub answer_line : ℕ → Answer → List ℕ
answer_line i a = line_of (digits_of i ∷ answer_fields a)

-- the lines of answers, the first of which has a position
unfoldable pub answer_lines : ℕ → List Answer → List ℕ
answer_lines i [] = []
answer_lines i (a ∷ rest) = answer_line i a ++ answer_lines (suc i) rest

-- "A refused text gives the single line `refused`, number, offset"
unfoldable pub refusal_line : ℕ → ℕ → List ℕ
refusal_line refusal at = line_of (word_refused ∷ digits_of refusal ∷ digits_of at ∷ [])

-- what is printed of a text: the answers to its calls, from a fresh store of its setup; or its refusal
abbrev pub printed_of : Reached → List ℕ
printed_of (sound s) = answer_lines 0 (answers_over (setup_from (bytes_read s)) fresh_store s.calls)
printed_of (refused r at) = refusal_line r at

-- the most bytes that the program takes
abbrev pub most_input : ℕ
most_input = 32_768

-- "Input above 32,768 bytes gives `refused`, 14, 32768, before any line is judged"
unfoldable pub printed : List ℕ → List ℕ
printed input = cond (ltb most_input (length input)) (refusal_line breaks_rules most_input) (printed_of (read_text calls_follow input))
