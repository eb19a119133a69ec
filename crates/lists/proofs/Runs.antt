-- What the loop over a list keeps: how far the run has come, and what the lent run holds by then.
-- Assumes nothing.
use Prim.Native.Nat.{ℕ, ◌+◌, ◌*◌, ◌<◌, ◌≤◌}
use mathlib.Core.Path.{◌≡◌, refl, ap, ◌∙◌}
use mathlib.Core.Bool.{true}
use mathlib.Core.List.{List, [], ◌∷◌, ◌++◌}
use native.Mathlib.Nat.{le_antisymm}
use native.Mathlib.Numerals.{add-one}
use native.Mathlib.Omega.{arith}
use lib.ListN.{length, set, drop, length-set}
use Rattle.secrecy.specs.Machine.{after, answers_where}
use Rattle.secrecy.proofs.Runs.{after_append, answers_append, one_answer_each}
use Rattle.rules.specs.Sizes.{table}
use Rattle.rules.specs.Calls.{calls_in, numbers_at, calls_of}
use Rattle.rules.specs.Answers.{kind_of, value_of}
use Rattle.rules.specs.Entries.{ran}
use Rattle.rules.specs.declared.Numbers.{Numbers}
use Rattle.rules.specs.declared.Setup.{Setup}
use Rattle.rules.specs.declared.Store.{Store}
use Rattle.rules.specs.declared.Answer.{Answer}
use Rattle.rules.proofs.Sizes.{length-table}
use Rattle.views.specs.Machine.{machine}
use Rattle.lists.specs.Lists.{answer_width, end_of, answers_over, in_numbers}
use Rattle.lists.proofs.Numbers.{table_more, in_numbers_append, in_numbers-length, set_two}

module _ (s : Setup) (m : Store) (acts : List Numbers) (n : Numbers) where
  -- one call more ends where that call leads from where the run had ended, and adds its answer
  pub end_more : end_of s m (acts ++ n ∷ []) ≡ (ran s (end_of s m acts) n).store
  unfolding after
  end_more = after_append (machine s) m acts (n ∷ [])

  pub answers_more : answers_over s m (acts ++ n ∷ []) ≡ answers_over s m acts ++ (ran s (end_of s m acts) n).answer ∷ []
  unfolding answers_where
  answers_more = answers_append (machine s) (λ a. true) m acts (n ∷ [])

-- i calls of the list are run: the store is where they end, and the room has their answers at its front
pub record Running (s : Setup) (m : Store) (list room₀ : List ℕ) (i : ℕ) (next : Store) (room : List ℕ) : Type 0 where
  pub before : i ≤ calls_in list
  pub spacious : calls_in list * answer_width ≤ length room₀
  pub kept : length room ≡ length room₀
  pub end : next ≡ end_of s m (table i (numbers_at list))
  pub answered : room ≡ in_numbers (answers_over s m (table i (numbers_at list))) ++ drop (i * answer_width) room₀

module _ (s : Setup) (m : Store) (list room₀ : List ℕ) where
  pub running_none : calls_in list * answer_width ≤ length room₀ → Running s m list room₀ 0 m room₀
  unfolding after answers_where table in_numbers
  running_none h = record { before = omega arith; spacious = h; kept = refl; end = refl; answered = refl }

  pub running_more : (i : ℕ) (next : Store) (room : List ℕ) → Running s m list room₀ i next room → i < calls_in list →
      {n : Numbers} {a : Answer} {k : Store} {filled : List ℕ} → n ≡ numbers_at list i → a ≡ (ran s next n).answer → k ≡ (ran s next n).store →
      filled ≡ set (set room (i * answer_width) (kind_of a)) (i * answer_width + 1) (value_of a) → Running s m list room₀ (i + 1) k filled
  unfolding in_numbers
  running_more i next room h l {n} {a} at told left placed =
      let acts = table i (numbers_at list) in
      let front = in_numbers (answers_over s m acts) in
      let more : table (i + 1) (numbers_at list) ≡ acts ++ n ∷ [] = rw (at, add-one i) (table_more i (numbers_at list)) in
      let long : length front ≡ i * answer_width = in_numbers-length (answers_over s m acts) ∙ ap (λ (j : ℕ). j * answer_width) (one_answer_each (machine s) m acts ∙ length-table i (numbers_at list)) in
      let wider : (i + 1) * answer_width ≡ i * answer_width + answer_width = omega arith in
      record {
        before = omega arith;
        spacious = h.spacious;
        kept = rw placed (simp length-set h.kept);
        end = rw (more, end_more s m acts n, ← h.end) left;
        answered =
            rw (placed, h.answered, set_two front room₀ (i * answer_width) (kind_of a) (value_of a) long (omega arith), wider, more, answers_more s m acts n, ← h.end, ← told, in_numbers_append);
      }

  pub running_all : (i : ℕ) (next : Store) (room : List ℕ) → Running s m list room₀ i next room → calls_in list ≤ i →
      (next ≡ end_of s m (calls_of list)) × (room ≡ in_numbers (answers_over s m (calls_of list)) ++ drop (calls_in list * answer_width) room₀)
  unfolding calls_of
  running_all i next room h l = let all : i ≡ calls_in list = le_antisymm h.before l in (rw (← all) h.end, rw (← all) h.answered)
