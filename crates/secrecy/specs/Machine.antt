-- A machine, whose acts belong to desks, its run over a list of acts, and the answers it gives.
use Rattle.std.specs.Prelude.{ℕ, Bool, true, false, List, [], ◌∷◌, eqb}
use Rattle.std.proofs.Math.Option.{Option, none, some}

-- `desk` is the desk that an act belongs to; an act of `none` belongs to nobody
pub record Machine : Type 1 where
  pub State : Type 0
  pub Act : Type 0
  pub Answer : Type 0
  pub desk : Act → Option ℕ
  pub step : State → Act → State
  pub answer : State → Act → Answer

-- the list with x in front where the test passes, the list alone where it fails
abbrev pub front_if : {A : Type 0} → Bool → A → List A → List A
front_if true x xs = x ∷ xs
front_if false x xs = xs

-- "A call whose process does not exist belongs to none and is not struck out": it is no desk's
abbrev pub is_desk : ℕ → Option ℕ → Bool
is_desk u none = false
is_desk u (some d) = eqb d u

module _ (M : Machine) where
  -- the test whether an act belongs to desk u
  abbrev pub is_of : ℕ → M.Act → Bool
  is_of u a = is_desk u (M.desk a)

  -- the state after the acts
  unfoldable pub after : M.State → List M.Act → M.State
  after s [] = s
  after s (a ∷ acts) = after (M.step s a) acts

  -- the answers, in order, to the acts that pass a test; refusals are answers too
  unfoldable pub answers_where : (M.Act → Bool) → M.State → List M.Act → List M.Answer
  answers_where asks s [] = []
  answers_where asks s (a ∷ acts) = front_if (asks a) (M.answer s a) (answers_where asks (M.step s a) acts)

  -- the answers to the acts of desk u
  abbrev pub answers_to : ℕ → M.State → List M.Act → List M.Answer
  answers_to u = answers_where (is_of u)

  -- the answers to all acts
  abbrev pub all_answers : M.State → List M.Act → List M.Answer
  all_answers = answers_where (λ a. true)
