-- What each desk sees of a state, who may change it, and the conditions that unwind secrecy to single acts (Rushby 1992). For the proof
-- of demand 3: no entry's promise cites it.
use Rattle.std.specs.Prelude.{ℕ, ◌≡◌, ◌⊎◌}
use Rattle.std.proofs.Math.Option.{none, some}
use Rattle.secrecy.specs.Machine.{Machine}

-- a policy: which desk has a link to which
abbrev pub Policy : Type 1
Policy = ℕ → ℕ → Type 0

-- a view for each desk: when two states look alike to it
abbrev pub Views : Machine → Type 1
Views M = ℕ → M.State → M.State → Type 0

pub record Equivalence {S : Type 0} (R : S → S → Type 0) : Type 0 where
  pub reflexive : (s : S) → R s s
  pub symmetric : (s t : S) → R s t → R t s
  pub transitive : (s t r : S) → R s t → R t r → R s r

-- a desk may change what it sees itself, so a link to itself is not asked for
abbrev pub MayChange : Policy → ℕ → ℕ → Type 0
MayChange linked d u = (d ≡ u) ⊎ linked d u

pub record Unwinding (M : Machine) (linked : Policy) (Alike : Views M) : Type 0 where
  pub views : (u : ℕ) → Equivalence (Alike u)
  -- an act is answered the same on states alike to its desk
  pub answers_agree : (a : M.Act) (d : ℕ) → M.desk a ≡ some d → (s t : M.State) → Alike d s t → M.answer s a ≡ M.answer t a
  -- an act of a desk that is neither u nor linked to u leaves u's view alone
  pub leaves_alone : (a : M.Act) (d : ℕ) → M.desk a ≡ some d → (u : ℕ) → ¬ MayChange linked d u → (s : M.State) → Alike u s (M.step s a)
  -- an act on states alike to u and to its own desk leaves them alike to u
  pub stays_alike : (a : M.Act) (d : ℕ) → M.desk a ≡ some d → (u : ℕ) (s t : M.State) → Alike u s t → Alike d s t → Alike u (M.step s a) (M.step t a)
  -- an act of nobody changes nothing and is answered the same in every state
  pub nobody_changes : (a : M.Act) → M.desk a ≡ none → (s : M.State) → M.step s a ≡ s
  pub nobody_answers : (a : M.Act) → M.desk a ≡ none → (s t : M.State) → M.answer s a ≡ M.answer t a
