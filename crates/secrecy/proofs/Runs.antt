-- The laws of runs: a list in two parts runs one part after the other, each act has one answer, and a desk has those to its own acts.
-- Assumes nothing.
use Prim.Native.Nat.{suc}
use mathlib.Core.Path.{◌≡◌, refl, ap}
use mathlib.Core.Bool.{Bool}
use mathlib.Core.List.{List, [], ◌∷◌, ◌++◌}
use lib.ListN.{length}
use Rattle.secrecy.specs.Machine.{Machine, front_if, after, answers_where, all_answers}
use Rattle.secrecy.proofs.Front.{front_if_append}

module _ (M : Machine) where
  pub after_append : (s : M.State) (xs ys : List M.Act) → after M s (xs ++ ys) ≡ after M (after M s xs) ys
  unfolding after
  after_append s [] ys = refl
  after_append s (a ∷ xs) ys = after_append (M.step s a) xs ys

  pub answers_append : (asks : M.Act → Bool) (s : M.State) (xs ys : List M.Act) →
      answers_where M asks s (xs ++ ys) ≡ answers_where M asks s xs ++ answers_where M asks (after M s xs) ys
  unfolding after answers_where
  answers_append asks s [] ys = refl
  answers_append asks s (a ∷ xs) ys = rw (answers_append asks (M.step s a) xs ys) (front_if_append (asks a) _ _ _)

  pub one_answer_each : (s : M.State) (acts : List M.Act) → length (all_answers M s acts) ≡ length acts
  unfolding answers_where
  one_answer_each s [] = refl
  one_answer_each s (a ∷ acts) = ap suc (one_answer_each (M.step s a) acts)

-- the answers, one an act, to the acts that pass a test
unfoldable pub picked : {A B : Type 0} → (A → Bool) → List A → List B → List B
picked asks [] answers = []
picked asks (a ∷ acts) [] = []
picked asks (a ∷ acts) (x ∷ answers) = front_if (asks a) x (picked asks acts answers)

-- a desk's answers are those that a run of the whole list gives to its acts
pub answers_picked : (M : Machine) (asks : M.Act → Bool) (s : M.State) (acts : List M.Act) →
    answers_where M asks s acts ≡ picked asks acts (all_answers M s acts)
unfolding answers_where picked
answers_picked M asks s [] = refl
answers_picked M asks s (a ∷ acts) = ap (front_if (asks a) (M.answer s a)) (answers_picked M asks (M.step s a) acts)
