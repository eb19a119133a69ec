-- For what writes lines, which is no entry: bytes put into a lent run, the answers that numbers stand for, and calls that run.
use Rattle.std.specs.Prelude.{ℕ, ◌+◌, ◌*◌, ◌/◌, ◌%◌, ◌≤◌, ◌≡◌, true, List, ◌++◌, length, get_or, take, drop}
use Rattle.rules.specs.Sizes.{table, most_calls}
use Rattle.rules.specs.Setups.{accepted}
use Rattle.rules.specs.Calls.{call_width}
use Rattle.rules.specs.declared.Setup.{Setup}
use Rattle.rules.specs.declared.Answer.{Answer}
use Rattle.rules.specs.Answers.{answer_of}
use Rattle.lists.specs.Lists.{answer_width}
use Rattle.printing.specs.declared.writing.Writer.{Writer}

-- the run with bytes from a place on, and all else as it was
unfoldable pub with_bytes : List ℕ → ℕ → List ℕ → List ℕ
with_bytes run at bytes = take at run ++ (bytes ++ drop (at + length bytes) run)

-- bytes that fit after what a writer has written
pub record Fit (w : Writer) (bytes : List ℕ) : Type 0 where
  pub fits : w.at + length bytes ≤ length w.out.now

-- what a writer is once it has written bytes: over the same run, which has them now, and past them
pub record Wrote (w : Writer) (bytes : List ℕ) (v : Writer) : Type 0 where
  pub same : v.out.ghost_name ≡ w.out.ghost_name
  pub past : v.at ≡ w.at + length bytes
  pub put : v.out.now ≡ with_bytes w.out.now w.at bytes

-- the most digits of a position, which is below 1,024, of a 32-bit number and of a 64-bit number; the most bytes of a word
abbrev pub longest_position : ℕ
longest_position = 4

abbrev pub longest_number : ℕ
longest_number = 10

abbrev pub longest_offset : ℕ
longest_offset = 20

abbrev pub longest_word : ℕ
longest_word = 7

-- fields, a tab between each and the next, and an LF
abbrev pub longest_line : ℕ
longest_line = longest_position + 1 + longest_word + 1 + longest_number + 1

abbrev pub longest_refusal : ℕ
longest_refusal = longest_word + 1 + longest_number + 1 + longest_offset + 1

abbrev pub answers_in : List ℕ → ℕ
answers_in numbers = length numbers / answer_width

-- the answer whose two numbers stand at its place
abbrev pub answer_at : List ℕ → ℕ → Answer
answer_at numbers i = let at = i * answer_width in answer_of (get_or numbers at 0, get_or numbers (at + 1) 0)

-- the answers that a run of numbers stands for
unfoldable pub answers_of : List ℕ → List Answer
answers_of numbers = table (answers_in numbers) (answer_at numbers)

-- an accepted setup, and calls of four numbers each that are no more than a list may have
pub record Runs (setup : Setup) (calls : List ℕ) : Type 0 where
  pub taken : accepted setup ≡ true
  pub fours : length calls % call_width ≡ 0
  pub few : length calls ≤ most_calls * call_width
