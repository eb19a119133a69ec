-- Laws of what the entries answer, by how a setup's lines and call lines end.
-- Assumes nothing.
use Prim.Native.Nat.{ℕ, ◌*◌, ◌<◌, ◌≤◌}
use mathlib.Core.Path.{◌≡◌, refl, ap, ◌∙◌}
use mathlib.Core.List.{List, [], ◌++◌}
use native.Mathlib.Omega.{arith}
use lib.ListN.{length, take, drop, length-append}
use lib.Seq.{take_at}
use Rattle.std.specs.Prelude.{None, Some, Result, Ok, Err}
use Rattle.rules.specs.Sizes.{most_calls}
use Rattle.rules.specs.Calls.{call_width, in_quads}
use Rattle.rules.specs.declared.Setup.{Setup}
use Rattle.rules.specs.declared.refusal.Refusal.TheVariants.{BreaksRules}
use Rattle.rules.proofs.Quads.{in_quads-length}
use Rattle.lines.specs.Shapes.{calls_line}
use Rattle.lines.specs.Readings.{sound, calls_so_far, after_calls, alone, calls_follow, read_text, bytes_read}
use Rattle.lines.specs.Entries.{at_fault, read_alone, reached_with, read_with_calls, calls_read, room_read}
use Rattle.lines.specs.declared.Fault.{Fault}
use Rattle.lines.specs.declared.GivenText.{GivenText}
use Rattle.lines.proofs.Entries.{reached_room}
use Rattle.lines.proofs.Faults.{further_refused}
use Rattle.fields.specs.Cursor.{line_at}
use Rattle.text.specs.ReadOn.{read_on}
use Rattle.text.specs.Stages.{fault, refused_for, SetupLines, CallLinesRead, CallsEnd}
use Rattle.text.proofs.ReadOn.{judges_takes, shape_broken, line_read, all_refused, none_missing}
use Rattle.text.proofs.Stages.{calls-judged}

module _ (text : List ℕ) (end : ℕ) (setup : Setup) (s : SetupLines alone text end setup) where
  -- "a further line is 14"
  pub alone_further : end < length text → Err (at_fault (fault BreaksRules end)) ≡ read_alone text
  unfolding read_alone
  alone_further l =
      let reached : read_text alone text ≡ refused_for (fault BreaksRules end) =
      s.leads ∙ all_refused alone text end s.so_far (λ k. further_refused s.so_far k s.ended) l in
      rw reached

  -- "A setup text read alone ends there"
  pub alone_given : length text ≤ end → Ok (record { setup = setup; calls = 0 }) ≡ read_alone text
  unfolding read_alone bytes_read
  alone_given l =
      let reached : read_text alone text ≡ sound s.so_far = s.leads ∙ none_missing alone text end s.so_far l (rw s.ended) in
      rw (reached, s.no_calls, s.is)

-- what a text with its calls is answered with, and what stands in the room then
pub record Read (text room : List ℕ) (given : Result GivenText (ℕ × ℕ)) (left : List ℕ) : Type 0 where
  pub value : given ≡ read_with_calls text (length room)
  pub left_is : left ≡ room_read text room

module _ (text room : List ℕ) (enough : most_calls * call_width ≤ length room) (end : ℕ) (setup : Setup) (s : SetupLines calls_follow text end setup) where
  -- a refusal leaves the room as it was
  with_refused : (f : Fault) → read_text calls_follow text ≡ refused_for f → Read text room (Err (at_fault f)) room
  unfolding read_with_calls room_read calls_read in_quads
  with_refused f e =
      let reached : reached_with text (length room) ≡ refused_for f = reached_room text (length room) enough ∙ e in
      record { value = rw reached; left_is = rw reached }

  -- the `calls` line
  pub calls_broken : None ≡ line_at calls_line text end → Read text room (Err (at_fault (fault BreaksRules end))) room
  calls_broken e =
      with_refused (fault BreaksRules end)
      (s.leads ∙ shape_broken text end (calls-judged s.so_far s.ended) s.within e (λ q. rw s.ended))

  module _ (next : ℕ) (e : Some (next, []) ≡ line_at calls_line text end) where
    past_calls : read_text calls_follow text ≡ read_on calls_follow text next (after_calls s.so_far)
    past_calls = s.leads ∙ line_read text end (judges_takes (calls-judged s.so_far s.ended)) next [] e refl

    -- the lines after it are refused
    pub call_refused : (f : Fault) → CallsEnd text next (Err f) [] [] → Read text room (Err (at_fault f)) room
    call_refused f h = with_refused f (past_calls ∙ h s.so_far)

    -- or the calls that were read are the front of the run, and so of the room
    pub with_given : (count : ℕ) (was run : List ℕ) → CallsEnd text next (Ok count) was run
        → Read text room (Ok (record { setup = setup; calls = count })) (take (count * call_width) run ++ drop (count * call_width) room)
    unfolding read_with_calls room_read calls_read bytes_read
    with_given count was run c =
        let reached : reached_with text (length room) ≡ sound (calls_so_far s.so_far c.calls) =
        reached_room text (length room) enough ∙ past_calls ∙ c.leads s.so_far in
        let front : take (count * call_width) run ≡ in_quads c.calls =
        ap (take (count * call_width)) c.are
        ∙ take_at (in_quads c.calls) (drop (count * call_width) was) (count * call_width) (in_quads-length c.calls ∙ rw c.count_is) in
        record { value = rw (reached, s.is, c.count_is); left_is = rw (reached, front, c.count_is) }

-- a run that calls were read into holds them
pub run_holds : (text : List ℕ) (at count : ℕ) (was run : List ℕ) → CallLinesRead text at count was run → count * call_width ≤ length run
run_holds text at count was run c =
    omega (arith, simp length-append at (ap length c.are), in_quads-length c.calls, c.count_is)
