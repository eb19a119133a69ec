-- Laws of what the entries that read a text answer: an accepted setup, or a refusal; and the calls read.
-- Assumes nothing.
use Prim.Native.Nat.{ℕ, ◌*◌, ◌<◌, ◌≤◌}
use mathlib.Core.Path.{◌≡◌, refl, ap, sym, ◌∙◌}
use mathlib.Core.Bool.{true}
use mathlib.Core.List.{List, [], ◌∷◌, ◌++◌}
use mathlib.Core.Option.{some}
use native.Mathlib.Omega.{arith}
use borrow.Author.Tests.{ltb-true, ltb-false, leb-false, lt-ltb, le-ltb}
use lib.Dec.{ltb}
use lib.ListN.{length, length-append}
use Rattle.rules.specs.Sizes.{most_calls}
use Rattle.rules.specs.Setups.{accepted, blank_setup}
use Rattle.rules.specs.Calls.{Is32, call_width}
use Rattle.rules.specs.declared.Numbers.{Numbers}
use Rattle.rules.specs.Refusals.{first_of}
use Rattle.rules.proofs.Told.{ok_not_err, ok_same, err_same}
use Rattle.rules.proofs.Lists.{by_test}
use Rattle.rules.proofs.Refusals.{unmet_iff}
use Rattle.lines.specs.Shapes.{call_line}
use Rattle.lines.specs.Readings.{SoFar, at_start, Reached, sound, refused, call_line_order, Text, alone, calls_follow, read_text}
use Rattle.lines.specs.Entries.{given_by, calls_by, read_alone, reached_with, read_with_calls, calls_read, setup_beside}
use Rattle.lines.specs.declared.GivenText.{GivenText}
use Rattle.std.specs.Prelude.{Ok, Err}
use Rattle.lines.proofs.Shapes.{call_line_32}
use Rattle.lines.proofs.Kept.{refused_sound, Keeps, read_keeps}
use Rattle.lines.proofs.Readings.{read_accepted}

-- each call is four 32-bit numbers
abbrev pub Each32 : List Numbers → Type 0
Each32 [] = Unit {0}
Each32 (n ∷ ns) = Is32 n × Each32 ns

each_more : (ns : List Numbers) (n : Numbers) → Each32 ns → Is32 n → Each32 (ns ++ (n ∷ []))
each_more [] n h k = (k, tt)
each_more (m ∷ ns) n h k = (h.0, each_more ns n h.1 k)

-- calls that a lent run of 4,096 numbers holds
pub record CallsFit (ns : List Numbers) : Type 0 where
  pub few : length ns ≤ most_calls
  pub each : Each32 ns

no_calls : CallsFit []
no_calls = record { few = omega arith; each = tt }

one_call_more : (s : SoFar) (fields : List (List ℕ)) (n : Numbers) → call_line fields ≡ some n → first_of (call_line_order s) ≡ 0 → CallsFit s.calls
    → CallsFit (s.calls ++ (n ∷ []))
one_call_more s fields n e z h =
    let room = leb-false most_calls (length s.calls) ((unmet_iff (call_line_order s) (omega arith)).0 z).0 in
    record {
      few = omega (arith, length-append s.calls (n ∷ []));
      each = each_more s.calls n h.each (call_line_32 fields n e);
    }

calls_fit : Keeps (λ d s. CallsFit s.calls)
unfolding at_start
calls_fit =
    record {
      start = no_calls;
      header = λ h z. no_calls;
      access = λ s fields a e z h. h;
      no_access = λ s h. h;
      process = λ s p z h. h;
      file = λ s f z h. h;
      calls = λ s h. no_calls;
      call = one_call_more;
    }

-- the calls of a text that is read are at most 1,024, each of four 32-bit numbers
pub read_calls_fit : (t : Text) (text : List ℕ) (s : SoFar) → read_text t text ≡ sound s → CallsFit s.calls
read_calls_fit t text s e = read_keeps calls_fit t text s e

module _ (text : List ℕ) (room : ℕ) where
  -- "Text with calls: 11, then its lines"
  pub reached_no_room : room < most_calls * call_width → reached_with text room ≡ refused 11 0
  unfolding reached_with
  reached_no_room l = rw (lt-ltb room (most_calls * call_width) l)

  pub reached_room : most_calls * call_width ≤ room → reached_with text room ≡ read_text calls_follow text
  unfolding reached_with
  reached_room l = rw (le-ltb room (most_calls * call_width) l)

-- a text that is read was sound to its end, and the number told is that of its calls
pub given_read : (x : Reached) (g : GivenText) → given_by x ≡ Ok g → (s : SoFar) × (x ≡ sound s) × (length (calls_by x) ≡ g.calls)
given_read (sound s) g e = (s, refl, ap (λ (given : GivenText). given.calls) (ok_same e))
given_read (refused r at) g e = absurd (ok_not_err (sym e))

-- with a refusal comes the blank setup, and no call
pub given_refused : (x : Reached) (r at : ℕ) → given_by x ≡ Err (r, at) → (x ≡ refused r at) × (setup_beside (given_by x) ≡ blank_setup) × (calls_by x ≡ [])
given_refused (sound s) r at e = absurd (ok_not_err e)
given_refused (refused k n) r at e =
    let same = err_same e in
    (ap (λ (f : ℕ × ℕ). refused f.0 f.1) same, refl, refl)

given_accepted_by : (t : Text) (text : List ℕ) (x : Reached) (g : GivenText) → (((s : SoFar) → x ≡ sound s → read_text t text ≡ sound s)) → given_by x ≡ Ok g
    → accepted g.setup ≡ true
given_accepted_by t text (sound s) g h e = rw (← ok_same e) (read_accepted t text s (h s refl))
given_accepted_by t text (refused r at) g h e = absurd (ok_not_err (sym e))

-- the setup of a text that is read alone is accepted
pub alone_accepted : (text : List ℕ) (g : GivenText) → read_alone text ≡ Ok g → accepted g.setup ≡ true
unfolding read_alone
alone_accepted text g e = given_accepted_by alone text (read_text alone text) g (λ s q. q) e

-- and so is that of one that is read with its calls
with_room : (text : List ℕ) (room : ℕ) (s : SoFar) → reached_with text room ≡ sound s → read_text calls_follow text ≡ sound s
with_room text room s q =
    by_test (ltb room (most_calls * call_width))
    (λ t. absurd (refused_sound (sym (reached_no_room text room (ltb-true room (most_calls * call_width) t)) ∙ q)))
    (λ f. sym (reached_room text room (ltb-false room (most_calls * call_width) f)) ∙ q)

pub with_calls_accepted : (text : List ℕ) (room : ℕ) (g : GivenText) → read_with_calls text room ≡ Ok g → accepted g.setup ≡ true
unfolding read_with_calls
with_calls_accepted text room g e = given_accepted_by calls_follow text (reached_with text room) g (with_room text room) e

-- the calls for the lent run fit it, read or refused, and where the text is read they are as many as it tells
pub calls_read_fit : (text : List ℕ) (room : ℕ) → CallsFit (calls_read text room)
unfolding calls_read
calls_read_fit text room = by (reached_with text room) refl
  where
    by : (x : Reached) → reached_with text room ≡ x → CallsFit (calls_by x)
    by (sound s) q = read_calls_fit calls_follow text s (with_room text room s q)
    by (refused r at) q = no_calls

pub calls_read_number : (text : List ℕ) (room : ℕ) (g : GivenText) → read_with_calls text room ≡ Ok g → length (calls_read text room) ≡ g.calls
unfolding read_with_calls calls_read
calls_read_number text room g e = (given_read (reached_with text room) g e).2

pub calls_read_refused : (text : List ℕ) (room r at : ℕ) → read_with_calls text room ≡ Err (r, at) → calls_read text room ≡ []
unfolding read_with_calls calls_read
calls_read_refused text room r at e = (given_refused (reached_with text room) r at e).2
