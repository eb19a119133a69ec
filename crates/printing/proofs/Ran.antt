-- Laws of running calls on a fresh store, and of the answers as numbers.
-- Assumes nothing.
use Prim.Native.Nat.{ℕ, zero, suc, ◌*◌, ◌<◌, ◌≤◌}
use mathlib.Core.Path.{◌≡◌, ap, sym, ◌∙◌}
use mathlib.Core.List.{List, [], ◌∷◌}
use native.Mathlib.Nat.{suc-add, not-suc-le-zero, le_of_suc-le-suc}
use native.Mathlib.Omega.{arith}
use borrow.Author.Tests.{le-ltb}
use lib.ListN.{length, get_or, take, drop}
use lib.Seq.{take_at}
use Rattle.secrecy.proofs.Runs.{one_answer_each}
use Rattle.rules.specs.Sizes.{most_calls}
use Rattle.rules.specs.Stores.{fresh_store}
use Rattle.rules.specs.Calls.{call_width, calls_in, numbers_at, calls_of}
use Rattle.rules.specs.declared.Setup.{Setup}
use Rattle.rules.specs.declared.Answer.{Answer}
use Rattle.rules.specs.declared.Answer.TheVariants.{Nothing}
use Rattle.rules.proofs.Answers.{answer_of-numbers_of}
use Rattle.rules.proofs.Refusals.{judge_refusal_iff}
use Rattle.rules.proofs.Sizes.{length-table, table_is}
use Rattle.rules.proofs.Stores.{fresh_store-fits}
use Rattle.views.specs.Machine.{machine}
use Rattle.lists.specs.Lists.{answer_width, answers_over, in_numbers, list_refusal, answers_after}
use Rattle.lists.proofs.Lists.{list_judged, room_runs}
use Rattle.lists.proofs.Numbers.{in_numbers-length}
use Rattle.printing.specs.Writers.{answers_in, answer_at, answers_of, Runs}

-- each answer stands at its two places
pair_at : (xs : List Answer) (k : ℕ) (d : Answer) → k < length xs → get_or xs k d ≡ answer_at (in_numbers xs) k
unfolding in_numbers
pair_at [] k d h = absurd (not-suc-le-zero h)
pair_at (a ∷ xs) zero d h = sym (answer_of-numbers_of a)
pair_at (a ∷ xs) (suc k) d h =
    let further : suc k * answer_width ≡ suc (suc (k * answer_width)) = omega arith in
    pair_at xs k d (le_of_suc-le-suc h) ∙ simp (further, suc-add)

-- so the answers of numbers that were written out are the answers
pub answers_of-numbers : (xs : List Answer) → answers_of (in_numbers xs) ≡ xs
unfolding answers_of
answers_of-numbers xs =
    let long : length xs ≡ answers_in (in_numbers xs) = omega (arith, in_numbers-length xs) in
    sym (table_is (answers_in (in_numbers xs)) (answer_at (in_numbers xs)) xs Nothing long (λ k l. pair_at xs k Nothing (omega arith)))

module _ (s : Setup) (list room : List ℕ) (h : Runs s list) (l : calls_in list * answer_width ≤ length room) where
  -- calls that may run are not refused as a list
  runs_list : list_refusal s fresh_store (length list) (length room) ≡ 0
  runs_list =
      list_judged s fresh_store (length list) (length room) ((judge_refusal_iff s fresh_store).1 (h.taken, fresh_store-fits s))
      ∙ rw (h.fours, le-ltb (most_calls * call_width) (length list) h.few, le-ltb (length room) (calls_in list * answer_width) l)

  counted : length (answers_over s fresh_store (calls_of list)) ≡ calls_in list
  unfolding calls_of
  counted = one_answer_each (machine s) fresh_store (calls_of list) ∙ length-table (calls_in list) (numbers_at list)

  -- their answers are at the front of the room
  pub answers_front : take (calls_in list * answer_width) (answers_after s fresh_store list room) ≡ in_numbers (answers_over s fresh_store (calls_of list))
  answers_front =
      let answers = answers_over s fresh_store (calls_of list) in
      let long : length (in_numbers answers) ≡ calls_in list * answer_width = in_numbers-length answers ∙ ap (λ (n : ℕ). n * answer_width) counted in
      rw (room_runs s fresh_store list room runs_list) (take_at (in_numbers answers) (drop (calls_in list * answer_width) room) (calls_in list * answer_width) long)
