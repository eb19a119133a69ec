-- Laws of what is printed of a text, by what its reading answers.
-- Assumes nothing.
use Prim.Native.Nat.{ℕ, ◌*◌, ◌<◌, ◌≤◌}
use mathlib.Core.Path.{◌≡◌, refl, ap, sym, ◌∙◌}
use mathlib.Core.List.{List}
use native.Mathlib.Omega.{arith}
use borrow.Author.Tests.{lt-ltb, le-ltb}
use lib.ListN.{length, take, drop}
use lib.Seq.{take_at}
use Rattle.rules.specs.Sizes.{most_calls}
use Rattle.rules.specs.Stores.{fresh_store}
use Rattle.rules.specs.Calls.{call_width, calls_of, in_quads}
use Rattle.lists.specs.Lists.{answers_over}
use Rattle.rules.proofs.Quads.{in_quads-length, calls_of_quads}
use Rattle.lines.specs.Readings.{Reached, sound, refused, breaks_rules, calls_follow, read_text}
use Rattle.lines.specs.Entries.{given_by, calls_by, reached_with, read_with_calls, calls_read, room_read}
use Rattle.lines.specs.declared.GivenText.{GivenText}
use Rattle.std.specs.Prelude.{Ok, Err}
use Rattle.rules.proofs.Told.{ok_not_err, ok_same}
use Rattle.lines.proofs.Entries.{reached_room, given_refused, with_calls_accepted, calls_read_fit, calls_read_number}
use Rattle.printing.specs.Outputs.{answer_lines, refusal_line, printed_of, most_input, printed}
use Rattle.printing.specs.Writers.{Runs}

-- where a text is read, the answers to its calls are printed
ran-printed : (x : Reached) (g : GivenText) → given_by x ≡ Ok g → answer_lines 0 (answers_over g.setup fresh_store (calls_by x)) ≡ printed_of x
ran-printed (sound s) g e = rw (← ok_same e) refl
ran-printed (refused r at) g e = absurd (ok_not_err (sym e))

module _ (text room : List ℕ) (h : most_calls * call_width ≤ length room) where
  pub refused_printed : (r at : ℕ) → read_with_calls text (length room) ≡ Err (r, at) → printed_of (read_text calls_follow text) ≡ refusal_line r at
  unfolding read_with_calls
  refused_printed r at e = rw (← reached_room text (length room) h, (given_refused (reached_with text (length room)) r at e).0)

  module _ (g : GivenText) (e : read_with_calls text (length room) ≡ Ok g) where
    long : length (in_quads (calls_read text (length room))) ≡ g.calls * call_width
    long = in_quads-length (calls_read text (length room)) ∙ ap (λ (k : ℕ). k * call_width) (calls_read_number text (length room) g e)

    -- the calls that were read stand at the front of the room
    front : take (g.calls * call_width) (room_read text room) ≡ in_quads (calls_read text (length room))
    unfolding room_read
    front = let calls = calls_read text (length room) in take_at (in_quads calls) (drop (length calls * call_width) room) (g.calls * call_width) long

    pub read_few : g.calls ≤ most_calls
    read_few = omega (arith, (calls_read_fit text (length room)).few, calls_read_number text (length room) g e)

    pub read_runs : Runs g.setup (take (g.calls * call_width) (room_read text room))
    read_runs =
        rw front
        (record {
          taken = with_calls_accepted text (length room) g e;
          fours = rw long (omega arith);
          few = omega (arith, long, read_few);
        })

    pub read_printed :
        answer_lines 0 (answers_over g.setup fresh_store (calls_of (take (g.calls * call_width) (room_read text room))))
        ≡ printed_of (read_text calls_follow text)
    unfolding read_with_calls calls_read
    read_printed = rw (front, calls_of_quads) (ran-printed (reached_with text (length room)) g e ∙ ap printed_of (reached_room text (length room) h))

-- "Input above 32,768 bytes gives `refused`, 14, 32768, before any line is judged"
pub printed_long : (input : List ℕ) → most_input < length input → printed input ≡ refusal_line breaks_rules most_input
unfolding printed
printed_long input l = rw (lt-ltb most_input (length input) l)

pub printed_text : (input : List ℕ) → length input ≤ most_input → printed input ≡ printed_of (read_text calls_follow input)
unfolding printed
printed_text input l = rw (le-ltb most_input (length input) l)
