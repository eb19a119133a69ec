-- How each kind of a text's lines ends: sound as far as a cursor, with what they give; or refused, with the faulty line's offset.
use Rattle.std.specs.Prelude.{ℕ, ◌*◌, ◌/◌, ◌%◌, ◌<◌, ◌≤◌, ◌≡◌, false, not, List, [], ◌∷◌, ◌++◌, leb, length, get_or, drop, Result, Ok, Err}
use Rattle.rules.specs.Sizes.{most_classes, most_rights, table, most_calls}
use Rattle.rules.specs.Setups.{setup_from}
use Rattle.rules.specs.Calls.{call_width, in_quads}
use Rattle.rules.specs.Refusals.{Ground, ◌gives◌, number_of}
use Rattle.rules.specs.declared.Numbers.{Numbers}
use Rattle.rules.specs.declared.refusal.Refusal.{Refusal}
use Rattle.rules.specs.declared.Setup.{Setup}
use Rattle.lines.specs.Shapes.{the_word, a_number, Shape, read_as, Header, header, Access}
use Rattle.lines.specs.declared.Fault.{Fault}
use Rattle.lines.specs.Readings.{process_due, calls_due, SoFar, Reached, after_header, set_due, set_access, desks_so_far, classes_so_far, calls_so_far, after_calls, sound, refused, judged, refusal14, is_next, Text, calls_follow, judge_due, complete, read_text, right_read, bytes_read}
use Rattle.text.specs.ReadOn.{read_on}

-- a line is faulty with a refusal, at its offset; and a text that is refused for that
abbrev pub fault : Refusal → ℕ → Fault
fault refusal at = record { refusal = refusal; at = at }

abbrev pub refused_for : Fault → Reached
refused_for fault = refused (number_of fault.refusal) fault.at

-- after the header and access lines, the last first
abbrev pub access_stage : Header → List Access → SoFar
access_stage h access = set_access (after_header h) access

-- after them and the process lines that give these desks
abbrev pub process_stage : Header → List Access → List ℕ → SoFar
process_stage h access desk = desks_so_far (access_stage h access) desk

-- after all of those and the file lines that give these classes
abbrev pub file_stage : Header → List Access → List ℕ → List ℕ → SoFar
file_stage h access desk class = classes_so_far (process_stage h access desk) class

-- access lines lie inside the counts
abbrev pub AllInside : ℕ → ℕ → List Access → Type 0
AllInside desks classes [] = Unit {0}
AllInside desks classes (a ∷ rest) = (a.desk < desks) × (a.class < classes) × AllInside desks classes rest

-- the rights that they give, each at its place
unfoldable pub rights_of : List Access → List ℕ
rights_of access = table most_rights (λ i. right_read access (i / most_classes) (i % most_classes))

-- access lines that are sound as far as a cursor, where a process line is due
pub record AccessRead (desks classes : ℕ) (text : List ℕ) (at end : ℕ) (rights : List ℕ) : Type 0 where
  pub access : List Access
  pub inside : AllInside desks classes access
  pub are : rights ≡ rights_of access
  pub within : end ≤ length text
  pub leads : (t : Text) (processes files : ℕ)
      → (let h = header desks classes processes files in read_on t text at (after_header h) ≡ read_on t text end (set_due (access_stage h access) process_due))

abbrev pub AccessEnd : ℕ → ℕ → List ℕ → ℕ → Result ℕ Fault → List ℕ → Type 0
AccessEnd desks classes text at (Ok end) rights = AccessRead desks classes text at end rights
AccessEnd desks classes text at (Err fault) rights =
    (t : Text) (processes files : ℕ) → read_on t text at (after_header (header desks classes processes files)) ≡ refused_for fault

-- an entry is a byte
abbrev pub most_entry : ℕ
most_entry = 256

-- a word and two numbers: the shape of a process line and of a file line
abbrev pub entry_shape : List ℕ → Shape
entry_shape word = the_word word ∷ a_number ∷ a_number ∷ []

-- what is held against such a line: its second number is the bound or more; its first is not the next
abbrev pub entry_order : ℕ → ℕ → List ℕ → List ℕ → List Ground
entry_order bound refusal entries ns =
    (leb bound (get_or ns 1 0) gives refusal) ∷ refusal14 (not (is_next entries (get_or ns 0 0))) ∷ []

-- such lines are due after fewer entries than a count
pub record EntriesDue (t : Text) (word : List ℕ) (bound refusal count : ℕ) (stage : List ℕ → SoFar) : Type 0 where
  pub judges : (entries : List ℕ) → length entries < count → (at : ℕ) (fields : List (List ℕ))
      → judge_due t (stage entries).due (stage entries) at fields
      ≡ judged at (read_as (entry_shape word) fields) (entry_order bound refusal entries) (λ ns. stage (entries ++ (get_or ns 1 0 ∷ [])))
  pub lacks : (entries : List ℕ) → length entries < count → complete t (stage entries).due ≡ false

-- what holds of each kind of such lines
abbrev pub ForEntries : List ℕ → ℕ → ℕ → ℕ → (Text → (List ℕ → SoFar) → Type 0) → Type 0
ForEntries word bound refusal count P = (t : Text) (stage : List ℕ → SoFar) → EntriesDue t word bound refusal count stage → P t stage

-- lines that are sound as far as a cursor, one for each entry
pub record EntriesRead (text : List ℕ) (at : ℕ) (word : List ℕ) (bound refusal count end : ℕ) (entries : List ℕ) : Type 0 where
  pub long : length entries ≡ count
  pub within : end ≤ length text
  pub leads : ForEntries word bound refusal count (λ t stage. read_on t text at (stage []) ≡ read_on t text end (stage entries))

abbrev pub EntriesEnd : List ℕ → ℕ → List ℕ → ℕ → ℕ → ℕ → Result ℕ Fault → List ℕ → Type 0
EntriesEnd text at word bound refusal count (Ok end) entries = EntriesRead text at word bound refusal count end entries
EntriesEnd text at word bound refusal count (Err fault) entries =
    ForEntries word bound refusal count (λ t stage. read_on t text at (stage []) ≡ refused_for fault)

-- a setup's lines that are sound as far as a cursor, with the setup that they give
pub record SetupLines (t : Text) (text : List ℕ) (end : ℕ) (setup : Setup) : Type 0 where
  pub so_far : SoFar
  pub leads : read_text t text ≡ read_on t text end so_far
  pub ended : so_far.due ≡ calls_due
  pub no_calls : so_far.calls ≡ []
  pub is : setup ≡ setup_from (bytes_read so_far)
  pub within : end ≤ length text

-- or they are refused
abbrev pub SetupEnd : Text → List ℕ → Result (ℕ × Setup) Fault → Type 0
SetupEnd t text (Ok read) = SetupLines t text read.0 read.1
SetupEnd t text (Err fault) = read_text t text ≡ refused_for fault

-- the same of the lines after a header that is sound, and after access lines that are
abbrev pub SetupEndAfterHeader : List ℕ → ℕ → Header → Result (ℕ × Setup) Fault → Type 0
SetupEndAfterHeader text at h result = (t : Text) → read_text t text ≡ read_on t text at (after_header h) → SetupEnd t text result

abbrev pub SetupEndAfterAccess : List ℕ → ℕ → Header → List ℕ → Result (ℕ × Setup) Fault → Type 0
SetupEndAfterAccess text at h rights result =
    (t : Text) (access : List Access) → AllInside h.desks h.classes access → rights ≡ rights_of access
    → read_text t text ≡ read_on t text at (set_due (access_stage h access) process_due) → SetupEnd t text result

-- call lines that are sound to the end of the text, at the front of a run
pub record CallLinesRead (text : List ℕ) (at count : ℕ) (was run : List ℕ) : Type 0 where
  pub calls : List Numbers
  pub count_is : length calls ≡ count
  pub few : count ≤ most_calls
  pub are : run ≡ in_quads calls ++ drop (count * call_width) was
  pub leads : (s : SoFar) → read_on calls_follow text at (after_calls s) ≡ sound (calls_so_far s calls)

abbrev pub CallsEnd : List ℕ → ℕ → Result ℕ Fault → List ℕ → List ℕ → Type 0
CallsEnd text at (Ok count) was run = CallLinesRead text at count was run
CallsEnd text at (Err fault) was run = (s : SoFar) → read_on calls_follow text at (after_calls s) ≡ refused_for fault
