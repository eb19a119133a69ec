-- Laws of each kind of line: how it is judged where it is due.
-- Assumes nothing.
use Prim.Native.Nat.{ℕ, ◌≤◌}
use mathlib.Core.Path.{◌≡◌, refl, sym, ◌∙◌}
use mathlib.Core.Bool.{true, false, true≢false, false≢true}
use mathlib.Core.List.{List, [], ◌∷◌, ◌++◌}
use mathlib.Core.Logic.{⊎_elim}
use mathlib.Core.Option.{Option, some, none}
use native.Mathlib.Omega.{arith}
use lib.ListN.{length, drop}
use borrow.Author.Tests.{lt-ltb}
use Rattle.rules.specs.Refusals.{Ground}
use Rattle.rules.specs.declared.Numbers.{Numbers}
use Rattle.rules.proofs.Lists.{by_test}
use Rattle.lines.specs.Bytes.{word_access, word_process, word_file, same}
use Rattle.lines.specs.Lines.{fields_of}
use Rattle.lines.specs.Shapes.{read_as, made, Header, Access, header_line, access_line, process_line, process_shape, process_from, file_line, file_shape, file_from, calls_line, call_line}
use Rattle.lines.specs.Readings.{process_due, calls_due, SoFar, after_header, set_due, at_start, judged, header_order, access_order, calls_so_far, after_calls, process_order, after_process, file_order, after_file, call_line_order, Text, calls_follow, starts_access, complete}
use Rattle.lines.proofs.Shapes.{none_some, same_iff}
use Rattle.fields.specs.Cursor.{first_line, is_whole, line_at}
use Rattle.fields.proofs.Firsts.{line_none}
use Rattle.std.specs.declared.option.Option.TheVariants.{None}
use Rattle.text.specs.ReadOn.{read_on}
use Rattle.text.specs.Stages.{access_stage, process_stage, file_stage, EntriesDue}
use Rattle.text.proofs.ReadOn.{Judges, Takes, judged_alike}

-- what is made of the numbers that a shape gives is judged by the numbers
judged-made : {A : Type 0} (at : ℕ) (f : List ℕ → A) (o : Option (List ℕ)) (order : A → List Ground) (next : A → SoFar)
    → judged at (made f o) order next ≡ judged at o (λ ns. order (f ns)) (λ ns. next (f ns))
judged-made at f none order next = refl
judged-made at f (some ns) order next = refl

-- before any line one is missing
pub start_lacks : (t : Text) → complete t at_start.due ≡ false
unfolding at_start
start_lacks t = refl

pub header-judged : (t : Text) → Judges t at_start header_line header_order after_header
unfolding at_start
header-judged t = record { so = λ at fields. refl }

-- a line of the access shape starts with its word
access_starts : (fields : List (List ℕ)) (a : Access) → access_line fields ≡ some a → starts_access fields ≡ true
unfolding access_line read_as
access_starts [] a e = absurd (none_some e)
access_starts (field ∷ fields) a e = by_test (same word_access field) (λ t. t) (λ f. absurd (none_some (rw f at e)))

pub access_judged : (t : Text) (h : Header) (access : List Access)
    → Takes t (access_stage h access) access_line (access_order (access_stage h access)) (λ a. access_stage h (a ∷ access))
access_judged t h access = record { so = λ at fields a e. rw (access_starts fields a e, e) }

-- a line that starts with `access` is no process line
access_no_process : (fields : List (List ℕ)) → starts_access fields ≡ true → process_line fields ≡ none
unfolding process_line read_as same
access_no_process [] y = absurd (false≢true y)
access_no_process (field ∷ fields) y = rw (← (same_iff word_access field).0 y)

-- where a line that may be an access line has not its shape, the process line is due
pub access_ends : (t : Text) (text : List ℕ) (at : ℕ) (h : Header) (access : List Access) → at ≤ length text → None ≡ line_at access_line text at
    → read_on t text at (access_stage h access) ≡ read_on t text at (set_due (access_stage h access) process_due)
access_ends t text at h access l e =
    let fields = fields_of (first_line (drop at text)) in
    judged_alike t text at (access_stage h access) (set_due (access_stage h access) process_due) l
    (λ w.
    by_test (starts_access fields) (λ y. rw (y, access_no_process fields y, broken w)) (λ n. rw n))
    refl refl
  where
    broken : is_whole (drop at text) ≡ true → access_line (fields_of (first_line (drop at text))) ≡ none
    broken w = ⊎_elim (λ b. b.1) (λ n. absurd (true≢false (sym w ∙ n))) (line_none access_line text at (sym e))

-- process lines and file lines are lines of a word, a number and an entry, as many as are counted
pub processes_due : (t : Text) (h : Header) (access : List Access) (count : ℕ) → count ≡ h.processes
    → EntriesDue t word_process h.desks 3 count (process_stage h access)
unfolding process_line
processes_due t h access count e =
    record {
      judges =
          λ desk l at fields.
          rw (lt-ltb (length desk) h.processes (omega arith))
          (judged-made at process_from (read_as process_shape fields) (process_order (process_stage h access desk)) (after_process (process_stage h access desk)));
      lacks = λ desk l. rw (lt-ltb (length desk) h.processes (omega arith));
    }

pub files_due : (t : Text) (h : Header) (access : List Access) (desk : List ℕ) (count : ℕ) → count ≡ h.files
    → EntriesDue t word_file h.classes 4 count (file_stage h access desk)
unfolding file_line
files_due t h access desk count e =
    record {
      judges =
          λ class l at fields.
          rw (lt-ltb (length class) h.files (omega arith))
          (judged-made at file_from (read_as file_shape fields) (file_order (file_stage h access desk class)) (after_file (file_stage h access desk class)));
      lacks = λ class l. rw (lt-ltb (length class) h.files (omega arith));
    }

pub calls-judged : (s : SoFar) → s.due ≡ calls_due → Judges calls_follow s calls_line (λ ns. []) (λ ns. after_calls s)
calls-judged s e = record { so = λ at fields. rw e }

pub call_judged : (s : SoFar) (calls : List Numbers)
    → Judges calls_follow (calls_so_far s calls) call_line (λ n. call_line_order (calls_so_far s calls)) (λ n. calls_so_far s (calls ++ (n ∷ [])))
call_judged s calls = record { so = λ at fields. refl }
