-- Laws of a refused text: the first faulty line decides, and the offset is the length of the lines before it; or a line is missing.
-- Assumes nothing.
use Prim.Native.Nat.{ℕ, ◌≤◌}
use mathlib.Core.Path.{◌≡◌, refl, ap, sym, ◌∙◌}
use mathlib.Core.Bool.{false}
use mathlib.Core.Logic.{◌⊎◌, inl, inr}
use mathlib.Core.List.{List, [], ◌∷◌, ◌++◌}
use mathlib.Core.Option.{Option, some, none}
use borrow.Author.Tests.{le-leb}
use lib.ListN.{length}
use Rattle.rules.specs.Sizes.{most_calls}
use Rattle.rules.specs.declared.Numbers.{Numbers}
use Rattle.rules.specs.Refusals.{Ground, first_of}
use Rattle.rules.proofs.Lists.{by_test, cond_holds}
use Rattle.lines.specs.Lines.{Line, lines_of, fields_of}
use Rattle.lines.specs.Shapes.{header_line, access_line, process_line, file_line, calls_line, call_line}
use Rattle.lines.specs.Readings.{Due, header_due, access_due, process_due, file_due, calls_due, call_due, SoFar, at_start, Reached, sound, refused, breaks_rules, judged, header_order, after_header, access_order, after_access, process_order, after_process, file_order, after_file, after_calls, call_line_order, after_call, Text, alone, calls_follow, starts_access, judge_further, judge_due, judge, judge_next, judge_all, complete, at_end, read_text}
use Rattle.lines.proofs.Lines.{text_of, line_offset}
use Rattle.lines.proofs.Kept.{unless_holds, refused_sound}

-- a refusal stands at an offset
abbrev At : ℕ → Reached → Type 0
At at (sound s) = Unit {0}
At at (refused r n) = n ≡ at

judged-at {ℓ} : {A : Type ℓ} (at : ℕ) (shape : Option A) (order : A → List Ground) (next : A → SoFar) → At at (judged at shape order next)
judged-at at none order next = refl
judged-at at (some x) order next =
    unless_holds (At at) (first_of (order x)) (sound (next x)) (refused (first_of (order x)) at) (λ e. tt) refl

further_at : (t : Text) (s : SoFar) (at : ℕ) (fields : List (List ℕ)) → At at (judge_further t s at fields)
further_at alone s at fields = refl
further_at calls_follow s at fields = judged-at at (calls_line fields) (λ ns. []) (λ ns. after_calls s)

due_at : (t : Text) (d : Due) (s : SoFar) (at : ℕ) (fields : List (List ℕ)) → At at (judge_due t d s at fields)
due_at t header_due s at fields = judged-at at (header_line fields) header_order after_header
due_at t access_due s at fields =
    cond_holds (At at) (starts_access fields) (λ y. judged-at at (access_line fields) (access_order s) (after_access s))
    (λ n. judged-at at (process_line fields) (process_order s) (after_process s))
due_at t process_due s at fields = judged-at at (process_line fields) (process_order s) (after_process s)
due_at t file_due s at fields = judged-at at (file_line fields) (file_order s) (after_file s)
due_at t calls_due s at fields = further_at t s at fields
due_at t call_due s at fields = judged-at at (call_line fields) (λ n. call_line_order s) (after_call s)

judge_at : (t : Text) (s : SoFar) (l : Line) → At l.at (judge t s l)
unfolding judge
judge_at t s l =
    cond_holds (At l.at) l.whole (λ w. due_at t s.due s l.at (fields_of l.bytes)) (λ n. refl)

-- a line is refused at its own offset
pub refused_at_line : (t : Text) (s : SoFar) (l : Line) (r at : ℕ) → judge t s l ≡ refused r at → at ≡ l.at
refused_at_line t s l r at e = rw e at (judge_at t s l)

-- the first faulty line of several: those before it are sound
record First (t : Text) (s : SoFar) (lines : List Line) (r at : ℕ) : Type 0 where
  before : List Line
  faulty : Line
  after : List Line
  so_far : SoFar
  split : lines ≡ before ++ (faulty ∷ after)
  sound_before : judge_all t (sound s) before ≡ sound so_far
  refuses : judge t so_far faulty ≡ refused r at

-- lines after a refusal are not judged
pub refused_stays : (t : Text) (r at : ℕ) (lines : List Line) → judge_all t (refused r at) lines ≡ refused r at
unfolding judge_all
refused_stays t r at [] = refl
refused_stays t r at (l ∷ lines) = refused_stays t r at lines

first_fault : (t : Text) (s : SoFar) (lines : List Line) (r at : ℕ) → judge_all t (sound s) lines ≡ refused r at → First t s lines r at
unfolding judge_all
first_fault t s [] r at e = absurd (refused_sound (sym e))
first_fault t s (l ∷ lines) r at e = by (judge t s l) (λ m z. first_fault t m lines r at z) refl e
  where
    by : (x : Reached) → ((m : SoFar) → judge_all t (sound m) lines ≡ refused r at → First t m lines r at)
        → judge t s l ≡ x → judge_all t x lines ≡ refused r at → First t s (l ∷ lines) r at
    by (sound m) later q z =
        let f = later m z in
        record {
          before = l ∷ f.before;
          faulty = f.faulty;
          after = f.after;
          so_far = f.so_far;
          split = ap (λ (ls : List Line). l ∷ ls) f.split;
          sound_before = rw q f.sound_before;
          refuses = f.refuses;
        }
    by (refused k n) later q z =
        record {
          before = [];
          faulty = l;
          after = lines;
          so_far = s;
          split = refl;
          sound_before = refl;
          refuses = q ∙ sym (refused_stays t k n lines) ∙ z;
        }

-- "The first faulty line decides, and its first byte's offset is reported": the length of the lines before it, with their LFs
pub record Faulty (t : Text) (text : List ℕ) (r at : ℕ) : Type 0 where
  pub before : List Line
  pub faulty : Line
  pub after : List Line
  pub so_far : SoFar
  pub split : lines_of text ≡ before ++ (faulty ∷ after)
  pub sound_before : judge_all t (sound at_start) before ≡ sound so_far
  pub refuses : judge t so_far faulty ≡ refused r at
  pub offset : at ≡ length (text_of before)

-- "for a missing line that offset is the length of the text": every line is sound, and another was due
pub record Missing (t : Text) (text : List ℕ) (r at : ℕ) : Type 0 where
  pub so_far : SoFar
  pub all_sound : judge_all t (sound at_start) (lines_of text) ≡ sound so_far
  pub lacks : complete t so_far.due ≡ false
  pub number : r ≡ breaks_rules
  pub offset : at ≡ length text

pub refused_why : (t : Text) (text : List ℕ) (r at : ℕ) → read_text t text ≡ refused r at → Faulty t text r at ⊎ Missing t text r at
unfolding read_text
refused_why t text r at e = by (judge_all t (sound at_start) (lines_of text)) refl e
  where
    by : (x : Reached) → judge_all t (sound at_start) (lines_of text) ≡ x → at_end t (length text) x ≡ refused r at → Faulty t text r at ⊎ Missing t text r at
    by (sound m) q z =
        by_test (complete t m.due) (λ c. absurd (refused_sound (sym (rw c at z))))
        (λ f. inr (record { so_far = m; all_sound = q; lacks = f; number = cc (rw f at z); offset = cc (rw f at z) }))
    by (refused k n) q z =
        let f = first_fault t at_start (lines_of text) r at (q ∙ z) in
        inl
        (record {
          before = f.before;
          faulty = f.faulty;
          after = f.after;
          so_far = f.so_far;
          split = f.split;
          sound_before = f.sound_before;
          refuses = f.refuses;
          offset =
              refused_at_line t f.so_far f.faulty r at f.refuses
              ∙ line_offset text f.before f.faulty f.after f.split;
        })

-- lines after lines are judged from what those reached
judge_all_joined : (t : Text) (x : Reached) (before after : List Line) → judge_all t x (before ++ after) ≡ judge_all t (judge_all t x before) after
unfolding judge_all
judge_all_joined t x [] after = refl
judge_all_joined t x (l ∷ before) after = judge_all_joined t (judge_next t x l) before after

-- and the other way: a faulty line after sound ones, or a missing one, refuses the text
pub faulty_refused : (t : Text) (text : List ℕ) (r at : ℕ) → Faulty t text r at → read_text t text ≡ refused r at
unfolding read_text judge_all
faulty_refused t text r at f =
    ap (at_end t (length text))
    (ap (judge_all t (sound at_start)) f.split ∙ judge_all_joined t (sound at_start) f.before (f.faulty ∷ f.after)
    ∙ ap (λ (x : Reached). judge_all t x (f.faulty ∷ f.after)) f.sound_before ∙ ap (λ (x : Reached). judge_all t x f.after) f.refuses
    ∙ refused_stays t r at f.after)

pub missing_refused : (t : Text) (text : List ℕ) (r at : ℕ) → Missing t text r at → read_text t text ≡ refused r at
unfolding read_text
missing_refused t text r at m = rw (m.all_sound, m.lacks, m.number, m.offset)

-- "A setup text read alone ends there; a further line is 14", whatever it holds
pub further_refused : (s : SoFar) (l : Line) → s.due ≡ calls_due → judge alone s l ≡ refused breaks_rules l.at
unfolding judge
further_refused s l e = rw e (cond_holds (λ (x : Reached). x ≡ refused breaks_rules l.at) l.whole (λ w. refl) (λ n. refl))

-- "A call line past the 1,024th is 14", whatever it holds
past_most : (s : SoFar) (at : ℕ) (call : Option Numbers) → most_calls ≤ length s.calls
    → judged at call (λ n. call_line_order s) (after_call s) ≡ refused breaks_rules at
past_most s at none h = refl
past_most s at (some n) h = rw (le-leb most_calls (length s.calls) h)

pub past_most_refused : (t : Text) (s : SoFar) (l : Line) → s.due ≡ call_due → most_calls ≤ length s.calls → judge t s l ≡ refused breaks_rules l.at
unfolding judge
past_most_refused t s l e h =
    rw e
    (cond_holds (λ (x : Reached). x ≡ refused breaks_rules l.at) l.whole (λ w. past_most s l.at (call_line (fields_of l.bytes)) h) (λ n. refl))
