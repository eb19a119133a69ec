-- 01, "Line rules": the order in which a text's lines are judged, and the setup and the calls that are read.
use Rattle.std.specs.Prelude.{ℕ, ◌*◌, ◌/◌, ◌%◌, Bool, true, false, not, ◌&&◌, ◌||◌, cond, List, [], ◌∷◌, ◌++◌, ltb, leb, eqb, length}
use Rattle.std.proofs.Math.Option.{Option, some, none}
use Rattle.rules.specs.Sizes.{table, most_calls}
use Rattle.rules.specs.Setups.{SetupBytes, setup_bytes, within_sizes}
use Rattle.rules.specs.declared.Numbers.{Numbers}
use Rattle.rules.specs.Refusals.{Ground, ◌gives◌, first_of}
use Rattle.rules.specs.Entries.{unless}
use Rattle.lines.specs.Bytes.{word_access, same}
use Rattle.lines.specs.Lines.{Line, lines_of, fields_of}
use Rattle.lines.specs.Shapes.{Header, header, Access, Process, File, header_line, access_line, process_line, file_line, calls_line, call_line}

-- the line that is due; access_due is an access line or the first process line
pub data Due : Type 0 where
  header_due : Due
  access_due : Due
  process_due : Due
  file_due : Due
  calls_due : Due
  call_due : Due

-- what is due, and what was read so far
pub record SoFar : Type 0 where
  pub due : Due
  pub counts : Header
  -- the last access line first
  pub access : List Access
  -- the desk of each process, and the class of each file
  pub desk : List ℕ
  pub class : List ℕ
  pub calls : List Numbers

-- Only these write a state out: the header is read and nothing after it; or one part of a state is another.
abbrev pub after_header : Header → SoFar
after_header h = record { due = access_due; counts = h; access = []; desk = []; class = []; calls = [] }

abbrev pub set_due : SoFar → Due → SoFar
set_due s due = record { due = due; counts = s.counts; access = s.access; desk = s.desk; class = s.class; calls = s.calls }

abbrev pub set_access : SoFar → List Access → SoFar
set_access s access = record { due = s.due; counts = s.counts; access = access; desk = s.desk; class = s.class; calls = s.calls }

abbrev pub set_desk : SoFar → List ℕ → SoFar
set_desk s desk = record { due = s.due; counts = s.counts; access = s.access; desk = desk; class = s.class; calls = s.calls }

abbrev pub set_class : SoFar → List ℕ → SoFar
set_class s class = record { due = s.due; counts = s.counts; access = s.access; desk = s.desk; class = class; calls = s.calls }

abbrev pub set_calls : SoFar → List Numbers → SoFar
set_calls s calls = record { due = s.due; counts = s.counts; access = s.access; desk = s.desk; class = s.class; calls = calls }

-- before any line
unfoldable pub at_start : SoFar
at_start = set_due (after_header (header 0 0 0 0)) header_due

-- every line was sound so far; or a line was refused, with the refusal's number and the offset of the line
pub data Reached : Type 0 where
  sound : SoFar → Reached
  refused : ℕ → ℕ → Reached

-- "a text breaks the line rules"
abbrev pub breaks_rules : ℕ
breaks_rules = 14

-- "a setup count lies outside its sizes"
abbrev pub refusal1_of_text : Header → Ground
refusal1_of_text h = not (within_sizes h.desks h.classes h.processes h.files) gives 1

-- "a desk number in a setup is D or more"
abbrev pub refusal3_of_text : SoFar → ℕ → Ground
refusal3_of_text s desk = leb s.counts.desks desk gives 3

-- "a class number in a setup is T or more"
abbrev pub refusal4_of_text : SoFar → ℕ → Ground
refusal4_of_text s class = leb s.counts.classes class gives 4

abbrev pub refusal14 : Bool → Ground
refusal14 broken = broken gives breaks_rules

-- "Within a line: shape (14), then ..": what follows is asked of what the shape gave, and then read
abbrev pub judged {ℓ} : {A : Type ℓ} → ℕ → Option A → (A → List Ground) → (A → SoFar) → Reached
judged at none order next = refused breaks_rules at
judged at (some x) order next = let r = first_of (order x) in unless r (sound (next x)) (refused r at)

abbrev pub header_order : Header → List Ground
header_order h = refusal1_of_text h ∷ []

-- "strictly rising by desk, then class"
abbrev pub rises : List Access → Access → Bool
rises [] a = true
rises (last ∷ earlier) a = ltb last.desk a.desk || eqb last.desk a.desk && ltb last.class a.class

abbrev pub access_order : SoFar → Access → List Ground
access_order s a = refusal3_of_text s a.desk ∷ refusal4_of_text s a.class ∷ refusal14 (not (rises s.access a)) ∷ []

abbrev pub after_access : SoFar → Access → SoFar
after_access s a = set_due (set_access s (a ∷ s.access)) access_due

-- "Process and file numbers run upward from 0"
abbrev pub is_next : List ℕ → ℕ → Bool
is_next earlier n = eqb n (length earlier)

abbrev pub process_order : SoFar → Process → List Ground
process_order s p = refusal3_of_text s p.desk ∷ refusal14 (not (is_next s.desk p.number)) ∷ []

-- "then P lines `process`": those so far give these desks
abbrev pub desks_so_far : SoFar → List ℕ → SoFar
desks_so_far s desk = set_due (set_desk s desk) (cond (ltb (length desk) s.counts.processes) process_due file_due)

abbrev pub after_process : SoFar → Process → SoFar
after_process s p = desks_so_far s (s.desk ++ (p.desk ∷ []))

abbrev pub file_order : SoFar → File → List Ground
file_order s f = refusal4_of_text s f.class ∷ refusal14 (not (is_next s.class f.number)) ∷ []

-- "then F lines `file`": those so far give these classes
abbrev pub classes_so_far : SoFar → List ℕ → SoFar
classes_so_far s class = set_due (set_class s class) (cond (ltb (length class) s.counts.files) file_due calls_due)

abbrev pub after_file : SoFar → File → SoFar
after_file s f = classes_so_far s (s.class ++ (f.class ∷ []))

-- "`calls`, `1`; then up to 1,024 lines": those so far give these calls
abbrev pub calls_so_far : SoFar → List Numbers → SoFar
calls_so_far s calls = set_due (set_calls s calls) call_due

abbrev pub after_calls : SoFar → SoFar
after_calls s = calls_so_far s []

-- "A call line past the 1,024th is 14"
abbrev pub call_line_order : SoFar → List Ground
call_line_order s = refusal14 (leb most_calls (length s.calls)) ∷ []

abbrev pub after_call : SoFar → Numbers → SoFar
after_call s n = calls_so_far s (s.calls ++ (n ∷ []))

-- each kind of line, by its shape, its refusals in their order, and the state after it
abbrev pub judge_header : ℕ → List (List ℕ) → Reached
judge_header at fields = judged at (header_line fields) header_order after_header

abbrev pub judge_access : SoFar → ℕ → List (List ℕ) → Reached
judge_access s at fields = judged at (access_line fields) (access_order s) (after_access s)

abbrev pub judge_process : SoFar → ℕ → List (List ℕ) → Reached
judge_process s at fields = judged at (process_line fields) (process_order s) (after_process s)

abbrev pub judge_file : SoFar → ℕ → List (List ℕ) → Reached
judge_file s at fields = judged at (file_line fields) (file_order s) (after_file s)

abbrev pub judge_calls : SoFar → ℕ → List (List ℕ) → Reached
judge_calls s at fields = judged at (calls_line fields) (λ ns. []) (λ ns. after_calls s)

abbrev pub judge_call : SoFar → ℕ → List (List ℕ) → Reached
judge_call s at fields = judged at (call_line fields) (λ n. call_line_order s) (after_call s)

-- a setup text read alone, or one that a call text follows
pub data Text : Type 0 where
  alone : Text
  calls_follow : Text

-- a line whose first field is `access`
abbrev pub starts_access : List (List ℕ) → Bool
starts_access [] = false
starts_access (first ∷ rest) = same word_access first

-- "A setup text read alone ends there; a further line is 14. Otherwise a call text follows it"
abbrev pub judge_further : Text → SoFar → ℕ → List (List ℕ) → Reached
judge_further alone s at fields = refused breaks_rules at
judge_further calls_follow s at fields = judge_calls s at fields

-- a line is judged as the one that is due
abbrev pub judge_due : Text → Due → SoFar → ℕ → List (List ℕ) → Reached
judge_due t header_due s at fields = judge_header at fields
judge_due t access_due s at fields = cond (starts_access fields) (judge_access s at fields) (judge_process s at fields)
judge_due t process_due s at fields = judge_process s at fields
judge_due t file_due s at fields = judge_file s at fields
judge_due t calls_due s at fields = judge_further t s at fields
judge_due t call_due s at fields = judge_call s at fields

-- a line without its LF breaks the rules, before anything else is asked of it
unfoldable pub judge : Text → SoFar → Line → Reached
judge t s l = cond l.whole (judge_due t s.due s l.at (fields_of l.bytes)) (refused breaks_rules l.at)

-- "The first faulty line decides": no line after it is judged
abbrev pub judge_next : Text → Reached → Line → Reached
judge_next t (sound s) l = judge t s l
judge_next t (refused r at) l = refused r at

unfoldable pub judge_all : Text → Reached → List Line → Reached
judge_all t reached [] = reached
judge_all t reached (l ∷ lines) = judge_all t (judge_next t reached l) lines

-- no line is missing
abbrev pub complete : Text → Due → Bool
complete t header_due = false
complete t access_due = false
complete t process_due = false
complete t file_due = false
complete alone calls_due = true
complete calls_follow calls_due = false
complete alone call_due = false
complete calls_follow call_due = true

-- "for a missing line that offset is the length of the text"
abbrev pub at_end : Text → ℕ → Reached → Reached
at_end t end (sound s) = cond (complete t s.due) (sound s) (refused breaks_rules end)
at_end t end (refused r at) = refused r at

unfoldable pub read_text : Text → List ℕ → Reached
read_text t text = at_end t (length text) (judge_all t (sound at_start) (lines_of text))

-- "with absent pairs meaning none"
unfoldable pub right_read : List Access → ℕ → ℕ → ℕ
right_read [] d t = 0
right_read (a ∷ rest) d t = cond (eqb a.desk d && eqb a.class t) a.right (right_read rest d t)

-- the setup that was read, as the bytes that it could have been handed in as
unfoldable pub bytes_read : SoFar → SetupBytes
bytes_read s =
    let c = s.counts in
    setup_bytes c.desks c.classes c.processes c.files
    (table (c.desks * c.classes) (λ i. right_read s.access (i / c.classes) (i % c.classes))) s.desk s.class
