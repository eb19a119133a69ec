-- For the step, which is no entry: the rules of the calls on what a call looks at, its answer, and what its process meets next of the file that it can change.
use Rattle.std.specs.Prelude.{ℕ, ◌+◌, Bool, ◌&&◌, cond}
use Rattle.rules.specs.Stores.{Content, unlocked, locked_by}
use Rattle.rules.specs.Calls.{read_of, written_to, copied_to, yes_or_no, free_for}
use Rattle.rules.specs.declared.Call.{Call}
use Rattle.rules.specs.declared.Call.TheVariants.{Read, Write, Lock, Unlock, Open, Close, Testlock, Copy}
use Rattle.rules.specs.declared.Answer.{Answer}
use Rattle.rules.specs.declared.Answer.TheVariants.{Nothing}
use Rattle.calling.specs.declared.Meeting.{Meeting}
use Rattle.calling.specs.declared.Looks.{Looks}
use Rattle.calling.specs.declared.Turn.{Turn}

-- whether the call goes through
abbrev pub goes : Call → Looks → Bool
goes (Read p f) k = k.r && k.opened && free_for k.holder p
goes (Write p f x) k = k.w && locked_by k.target.holder p
goes (Lock p f) k = k.w && unlocked k.target.holder
goes (Unlock p f) k = k.w && locked_by k.target.holder p
goes (Open p f) k = k.r && unlocked k.holder
goes (Close p f) k = k.r && k.opened
goes (Testlock p f) k = k.r && k.w
goes (Copy p f x) k = k.r && k.w && k.opened && free_for k.holder p && locked_by k.target.holder p

-- a meeting with one thing changed
abbrev pub with_holder : Meeting → ℕ → Meeting
with_holder meeting h = record { holder = h; content = meeting.content; mark = meeting.mark }

abbrev pub with_content : Meeting → Content → Meeting
with_content meeting content = record { holder = meeting.holder; content = content; mark = meeting.mark }

abbrev pub with_mark : Meeting → ℕ → Meeting
with_mark meeting mark = record { holder = meeting.holder; content = meeting.content; mark = mark }

-- what a call that goes through makes of its target
abbrev pub changes : Call → Looks → Meeting
changes (Read p f) k = k.target
changes (Write p f x) k = with_content k.target (written_to k.target.content x)
changes (Lock p f) k = with_holder k.target (p + 1)
changes (Unlock p f) k = with_holder k.target 0
changes (Open p f) k = with_mark k.target 1
changes (Close p f) k = with_mark k.target 0
changes (Testlock p f) k = k.target
changes (Copy p f x) k = with_content k.target (copied_to k.target.content k.content)

-- what a call that goes through answers
abbrev pub tells : Call → Looks → Answer
tells (Read p f) k = read_of k.content
tells (Write p f x) k = Nothing
tells (Lock p f) k = Nothing
tells (Unlock p f) k = Nothing
tells (Open p f) k = Nothing
tells (Close p f) k = Nothing
tells (Testlock p f) k = yes_or_no (locked_by k.holder p)
tells (Copy p f x) k = Nothing

unfoldable pub turn_of : Call → Looks → Turn
turn_of call k =
    record { answer = cond (goes call k) (tells call k) Nothing; meeting = cond (goes call k) (changes call k) k.target }

-- a turn that answers nothing
abbrev pub quiet : Meeting → Turn
quiet meeting = record { answer = Nothing; meeting = meeting }
