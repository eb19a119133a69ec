-- 01, "Line rules": the shape of each kind of line, from which it is read.
use Rattle.std.specs.Prelude.{ℕ, cond, List, [], ◌∷◌, get_or}
use Rattle.std.proofs.Math.Option.{Option, some, none}
use Rattle.rules.specs.Setups.{right_r, right_w, right_both}
use Rattle.rules.specs.Calls.{numbers, code_of_read, code_of_write, code_of_lock, code_of_unlock, code_of_open, code_of_close, code_of_testlock, code_of_copy}
use Rattle.rules.specs.declared.Numbers.{Numbers}
use Rattle.lines.specs.Bytes.{one, word_store, word_access, word_process, word_file, word_calls, word_r, word_w, word_rw, word_read, word_write, word_lock, word_unlock, word_open, word_close, word_testlock, word_copy, same}
use Rattle.lines.specs.Decimals.{number_of}

-- a word and the number that it stands for
abbrev pub Named : Type 0
Named = List ℕ × ℕ

-- what a field must be: this word; a number; or one of these words, read as its number
pub data Part : Type 0 where
  the_word : List ℕ → Part
  a_number : Part
  one_of : List Named → Part

abbrev pub Shape : Type 0
Shape = List Part

abbrev pub named : List Named → List ℕ → Option ℕ
named [] field = none
named (n ∷ more) field = cond (same n.0 field) (some n.1) (named more field)

-- a number that was read, before those that follow
abbrev pub before : Option ℕ → Option (List ℕ) → Option (List ℕ)
before none rest = none
before (some n) none = none
before (some n) (some ns) = some (n ∷ ns)

-- the numbers of a line's fields by its shape, one field for each part
unfoldable pub read_as : Shape → List (List ℕ) → Option (List ℕ)
read_as [] [] = some []
read_as [] (field ∷ fields) = none
read_as (part ∷ parts) [] = none
read_as (the_word w ∷ parts) (field ∷ fields) = cond (same w field) (read_as parts fields) none
read_as (a_number ∷ parts) (field ∷ fields) = before (number_of field) (read_as parts fields)
read_as (one_of words ∷ parts) (field ∷ fields) = before (named words field) (read_as parts fields)

-- what is made of the numbers
abbrev pub made {ℓ} : {A : Type ℓ} → (List ℕ → A) → Option (List ℕ) → Option A
made f none = none
made f (some ns) = some (f ns)

-- "`store`, `1`, D, T, P, F"
pub record Header : Type 0 where
  pub desks : ℕ
  pub classes : ℕ
  pub processes : ℕ
  pub files : ℕ

abbrev pub header : ℕ → ℕ → ℕ → ℕ → Header
header desks classes processes files = record { desks = desks; classes = classes; processes = processes; files = files }

abbrev pub header_shape : Shape
header_shape = the_word word_store ∷ the_word one ∷ a_number ∷ a_number ∷ a_number ∷ a_number ∷ []

abbrev pub header_from : List ℕ → Header
header_from ns = header (get_or ns 0 0) (get_or ns 1 0) (get_or ns 2 0) (get_or ns 3 0)

unfoldable pub header_line : List (List ℕ) → Option Header
header_line fields = made header_from (read_as header_shape fields)

-- "`access` lines with desk, class and `R`, `W` or `RW`"
pub record Access : Type 0 where
  pub desk : ℕ
  pub class : ℕ
  pub right : ℕ

abbrev pub right_words : List Named
right_words = (word_r, right_r) ∷ (word_w, right_w) ∷ (word_rw, right_both) ∷ []

abbrev pub access_shape : Shape
access_shape = the_word word_access ∷ a_number ∷ a_number ∷ one_of right_words ∷ []

abbrev pub access_from : List ℕ → Access
access_from ns = record { desk = get_or ns 0 0; class = get_or ns 1 0; right = get_or ns 2 0 }

unfoldable pub access_line : List (List ℕ) → Option Access
access_line fields = made access_from (read_as access_shape fields)

-- "`process`, number, desk"
pub record Process : Type 0 where
  pub number : ℕ
  pub desk : ℕ

abbrev pub process_shape : Shape
process_shape = the_word word_process ∷ a_number ∷ a_number ∷ []

abbrev pub process_from : List ℕ → Process
process_from ns = record { number = get_or ns 0 0; desk = get_or ns 1 0 }

unfoldable pub process_line : List (List ℕ) → Option Process
process_line fields = made process_from (read_as process_shape fields)

-- "`file`, number, class"
pub record File : Type 0 where
  pub number : ℕ
  pub class : ℕ

abbrev pub file_shape : Shape
file_shape = the_word word_file ∷ a_number ∷ a_number ∷ []

abbrev pub file_from : List ℕ → File
file_from ns = record { number = get_or ns 0 0; class = get_or ns 1 0 }

unfoldable pub file_line : List (List ℕ) → Option File
file_line fields = made file_from (read_as file_shape fields)

-- "`calls`, `1`", which gives no number
abbrev pub calls_shape : Shape
calls_shape = the_word word_calls ∷ the_word one ∷ []

unfoldable pub calls_line : List (List ℕ) → Option (List ℕ)
calls_line fields = read_as calls_shape fields

-- "each a word .., p, f, and for `write` and `copy` x"; each word has its call's code
abbrev pub plain_words : List Named
plain_words =
    (word_read, code_of_read) ∷ (word_lock, code_of_lock) ∷ (word_unlock, code_of_unlock) ∷ (word_open, code_of_open) ∷ (word_close, code_of_close) ∷ (word_testlock, code_of_testlock) ∷ []

abbrev pub extra_words : List Named
extra_words = (word_write, code_of_write) ∷ (word_copy, code_of_copy) ∷ []

abbrev pub plain_shape : Shape
plain_shape = one_of plain_words ∷ a_number ∷ a_number ∷ []

abbrev pub extra_shape : Shape
extra_shape = one_of extra_words ∷ a_number ∷ a_number ∷ a_number ∷ []

-- "elsewhere x is read as 0"
abbrev pub call_from : List ℕ → Numbers
call_from ns = numbers (get_or ns 0 0) (get_or ns 1 0) (get_or ns 2 0) (get_or ns 3 0)

-- the first that is something
abbrev pub either {ℓ} : {A : Type ℓ} → Option A → Option A → Option A
either none y = y
either (some x) y = some x

unfoldable pub call_line : List (List ℕ) → Option Numbers
call_line fields = made call_from (either (read_as plain_shape fields) (read_as extra_shape fields))
