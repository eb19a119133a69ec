-- What a loop over call lines keeps, and what it answers.
-- Assumes nothing.
use Prim.Native.Nat.{ℕ, ◌+◌, ◌*◌, ◌<◌, ◌≤◌}
use mathlib.Core.Path.{◌≡◌, refl, ap, sym, ◌∙◌}
use mathlib.Core.List.{List, [], ◌∷◌, ◌++◌}
use native.Mathlib.Omega.{arith}
use borrow.Author.Tests.{lt-leb}
use lib.ListN.{length, length-append}
use Rattle.rules.specs.Sizes.{most_calls}
use Rattle.rules.specs.Calls.{call_width}
use Rattle.rules.specs.declared.Numbers.{Numbers}
use Rattle.rules.specs.declared.refusal.Refusal.TheVariants.{BreaksRules}
use Rattle.std.specs.Prelude.{None, Some, Ok, Err}
use Rattle.lists.specs.Writers.{with_calls}
use Rattle.lists.proofs.Quads.{no_calls, calls_more, calls_in_front, with_calls-length}
use Rattle.lines.specs.Shapes.{call_line}
use Rattle.lines.specs.Readings.{SoFar, calls_so_far, after_calls, calls_follow}
use Rattle.lines.proofs.Faults.{past_most_refused}
use Rattle.fields.specs.Cursor.{line_at}
use Rattle.text.specs.ReadOn.{read_on}
use Rattle.text.specs.Stages.{fault, CallsEnd}
use Rattle.text.proofs.ReadOn.{judges_takes, shape_broken, line_read, all_refused, none_missing}
use Rattle.text.proofs.Stages.{call_judged}

-- the lines before a cursor are sound, and their calls stand at the front of a run
pub record Gathered (text : List ℕ) (at : ℕ) (was run : List ℕ) (from count : ℕ) : Type 0 where
  pub calls : List Numbers
  pub count_is : length calls ≡ count
  pub few : count ≤ most_calls
  pub are : run ≡ with_calls was 0 calls
  pub leads : (s : SoFar) → read_on calls_follow text at (after_calls s) ≡ read_on calls_follow text from (calls_so_far s calls)

pub gathered_none : (text : List ℕ) (at : ℕ) (was : List ℕ) → Gathered text at was was at 0
gathered_none text at was =
    record { calls = []; count_is = refl; few = omega arith; are = sym (no_calls was 0); leads = λ s. refl }

module _ (text : List ℕ) (at : ℕ) (was run : List ℕ) (from count : ℕ) (so_far : Gathered text at was run from count) where
  pub gathered_all : length text ≤ from → CallsEnd text at (Ok count) was run
  gathered_all l =
      record {
        calls = so_far.calls;
        count_is = so_far.count_is;
        few = so_far.few;
        are = so_far.are ∙ calls_in_front was so_far.calls ∙ rw so_far.count_is;
        leads = λ s. so_far.leads s ∙ none_missing calls_follow text from (calls_so_far s so_far.calls) l refl;
      }

  -- a run that has room for the most keeps its length
  pub gathered_length : most_calls * call_width ≤ length was → length run ≡ length was
  gathered_length l = ap length so_far.are ∙ with_calls-length was 0 so_far.calls (omega (arith, so_far.count_is, so_far.few))

  module _ (l : from < length text) where
    -- "A call line past the 1,024th is 14"
    pub gathered_past_most : most_calls ≤ count → CallsEnd text at (Err (fault BreaksRules from)) was run
    gathered_past_most m s =
        so_far.leads s
        ∙ all_refused calls_follow text from (calls_so_far s so_far.calls)
        (λ k. past_most_refused calls_follow (calls_so_far s so_far.calls) k refl (omega (arith, so_far.count_is))) l

    pub gathered_broken : None ≡ line_at call_line text from → CallsEnd text at (Err (fault BreaksRules from)) was run
    gathered_broken e s =
        so_far.leads s ∙ shape_broken text from (call_judged s so_far.calls) (omega arith) e (λ q. absurd (omega arith))

  module _ (next : ℕ) (n : Numbers) (e : Some (next, n) ≡ line_at call_line text from) where
    -- one more line is read, and its call put after the others
    pub gathered_more : most_calls * call_width ≤ length was → count < most_calls
        → Gathered text at was (with_calls run count (n ∷ [])) next (count + 1)
    gathered_more room m =
        let calls = so_far.calls in
        let fits : (0 + length calls) * call_width ≤ length was = omega (arith, so_far.count_is) in
        let at-end : 0 + length calls ≡ count = omega (arith, so_far.count_is) in
        record {
          calls = calls ++ (n ∷ []);
          count_is = omega (arith, length-append calls (n ∷ []), so_far.count_is);
          few = omega arith;
          are =
              ap (λ (r : List ℕ). with_calls r count (n ∷ [])) so_far.are
              ∙ ap (λ (k : ℕ). with_calls (with_calls was 0 calls) k (n ∷ [])) (sym at-end)
              ∙ calls_more was 0 calls fits (n ∷ []);
          leads =
              λ s.
              so_far.leads s
              ∙ line_read text from (judges_takes (call_judged s calls)) next n e (rw (so_far.count_is, lt-leb most_calls count m));
        }
