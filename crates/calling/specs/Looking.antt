-- For the step, which is no entry: what a process meets of a file, and what a call looks at, from a setup's three tables and two such
-- meetings, and in a setup and a store.
use Rattle.std.specs.Prelude.{ℕ, ◌+◌, ◌*◌, List, get_or}
use Rattle.rules.specs.Sizes.{most_classes}
use Rattle.rules.specs.Setups.{desk_of, class_of, right_of, has_r, has_w}
use Rattle.rules.specs.Stores.{is_open, holder_of, content_of, mark_of, put_holder, put_content, put_mark}
use Rattle.rules.specs.Parts.{process_of, file_of, changeable}
use Rattle.rules.specs.declared.Setup.{Setup}
use Rattle.rules.specs.declared.Store.{Store}
use Rattle.rules.specs.declared.Call.{Call}
use Rattle.calling.specs.declared.Meeting.{Meeting}
use Rattle.calling.specs.declared.Looks.{Looks}

-- what process p meets of file f
abbrev pub meeting_of : Store → ℕ → ℕ → Meeting
meeting_of m p f = record { holder = holder_of m f; content = content_of m f; mark = mark_of m f p }

-- the store with what process p is to meet of file f in its place
abbrev pub with_meeting : Store → ℕ → ℕ → Meeting → Store
with_meeting m p f meeting = put_mark (put_content (put_holder m f meeting.holder) f meeting.content) f p meeting.mark

abbrev pub right_in : List ℕ → List ℕ → List ℕ → ℕ → ℕ → ℕ
right_in rights desk class p f = get_or rights (get_or desk p 0 * most_classes + get_or class f 0) 0

-- R on f's class and W on the class of the file that the call can change; whether p has f open, the holder and the content of f;
-- and what p meets of the file that the call can change, the target
abbrev pub looks_on : List ℕ → List ℕ → List ℕ → Call → Meeting → Meeting → Looks
looks_on rights desk class call source target =
    record {
      r = has_r (right_in rights desk class (process_of call) (file_of call));
      w = has_w (right_in rights desk class (process_of call) (changeable call));
      opened = is_open source.mark;
      holder = source.holder;
      content = source.content;
      target = target;
    }

-- the same in a setup and a store
abbrev pub looks_at : Setup → Store → Call → Looks
looks_at s m call =
    let p = process_of call in
    let source = meeting_of m p (file_of call) in
    record {
      r = has_r (right_of s (desk_of s p) (class_of s (file_of call)));
      w = has_w (right_of s (desk_of s p) (class_of s (changeable call)));
      opened = is_open source.mark;
      holder = source.holder;
      content = source.content;
      target = meeting_of m p (changeable call);
    }
