-- Striking acts out of a list: the function, and what it must be, said without it.
use Rattle.std.specs.Prelude.{ℕ, ◌≡◌, Bool, not, List, [], ◌∷◌}
use Rattle.std.proofs.Math.Option.{some}
use Rattle.secrecy.specs.Machine.{Machine, front_if, is_of}

-- the list without the acts that pass the test
unfoldable pub strike : {A : Type 0} → (A → Bool) → List A → List A
strike out [] = []
strike out (a ∷ acts) = front_if (not (out a)) a (strike out acts)

-- the list without desk u's acts
abbrev pub strike_desk : (M : Machine) → ℕ → List M.Act → List M.Act
strike_desk M u = strike (is_of M u)

-- the second list is the first, in order, without some acts: Out holds of each act struck out, Stays of each act kept
pub data Struck {A : Type 0} (Out Stays : A → Type 0) : List A → List A → Type 0 where
  no_acts : Struck Out Stays [] []
  struck : {a : A} {acts rest : List A} → Out a → Struck Out Stays acts rest → Struck Out Stays (a ∷ acts) rest
  kept : {a : A} {acts rest : List A} → Stays a → Struck Out Stays acts rest → Struck Out Stays (a ∷ acts) (a ∷ rest)

-- the second list is the first without desk u's acts, and every other act is kept
abbrev pub WithoutDesk : (M : Machine) → ℕ → List M.Act → List M.Act → Type 0
WithoutDesk M u = Struck (λ a. M.desk a ≡ some u) (λ a. ¬ (M.desk a ≡ some u))
