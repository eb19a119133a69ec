-- The eight calls, one by one: what decides each, what it shows, and what it changes.
-- Assumes nothing.
use Prim.Native.Nat.{ℕ, ◌<◌, ◌≤◌}
use mathlib.Core.Path.{◌≡◌, refl}
use mathlib.Core.Bool.{true, false, and-false}
use mathlib.Core.Logic.{◌⊎◌, inl, inr, ◌≢◌}
use Rattle.rules.specs.Sizes.{most_processes}
use Rattle.rules.specs.Setups.{desk_of, may_read, may_write}
use Rattle.rules.specs.Stores.{holder_of}
use Rattle.rules.specs.Calls.{goes_through, effect, says, answer_to}
use Rattle.rules.specs.Parts.{process_of, file_of, changeable}
use Rattle.rules.specs.declared.Setup.{Setup}
use Rattle.rules.specs.declared.Store.{Store}
use Rattle.rules.specs.declared.Call.{Call}
use Rattle.rules.specs.declared.Call.TheVariants.{Read, Write, Lock, Unlock, Open, Close, Testlock, Copy}
use Rattle.rules.specs.declared.Answer.{Answer}
use Rattle.rules.specs.declared.Answer.TheVariants.{Nothing}
use Rattle.rules.proofs.Lists.{cond_holds}
use Rattle.views.specs.Views.{Sees, SameOf, Alike}
use Rattle.views.proofs.Alike.{equivalence, holders_alike, contents_alike, marks_alike, holder_unseen, content_unseen, mark_unseen}

-- process p may not read file f, or meets the same of it in both stores
abbrev pub SameIfRead : Setup → ℕ → ℕ → Store → Store → Type 0
SameIfRead s p f m k = (may_read s p f ≡ false) ⊎ SameOf p f m k

module _ (s : Setup) (m k : Store) where
  -- a call that has nothing to say answers the same whether or not it goes through
  quiet : (call : Call) → ((j : Store) → says j call ≡ Nothing) → answer_to s m call ≡ answer_to s k call
  unfolding answer_to
  quiet call nothing = cc (answers_nothing m, answers_nothing k)
    where
      answers_nothing : (j : Store) → answer_to s j call ≡ Nothing
      answers_nothing j = cond_holds (λ (a : Answer). a ≡ Nothing) (goes_through s j call) (λ goes. nothing j) (λ stays. refl)

  -- what a call answers is decided by what its process sees
  pub answers_alike : (call : Call) → SameIfRead s (process_of call) (file_of call) m k → answer_to s m call ≡ answer_to s k call
  unfolding answer_to goes_through says
  answers_alike (Read p f) (inl no-R) = cc
  answers_alike (Read p f) (inr seen) = cc
  answers_alike (Write p f x) seen = quiet (Write p f x) (λ j. refl)
  answers_alike (Lock p f) seen = quiet (Lock p f) (λ j. refl)
  answers_alike (Unlock p f) seen = quiet (Unlock p f) (λ j. refl)
  answers_alike (Open p f) seen = quiet (Open p f) (λ j. refl)
  answers_alike (Close p f) seen = quiet (Close p f) (λ j. refl)
  answers_alike (Testlock p f) (inl no-R) = cc
  answers_alike (Testlock p f) (inr seen) = cc
  answers_alike (Copy p f x) seen = quiet (Copy p f x) (λ j. refl)

  -- what decides a call is what its process sees, and who holds the file that it can change
  pub goes_alike : (call : Call) → SameIfRead s (process_of call) (file_of call) m k →
      holder_of m (changeable call) ≡ holder_of k (changeable call) → goes_through s m call ≡ goes_through s k call
  unfolding goes_through
  goes_alike (Read p f) (inl no-R) h = cc
  goes_alike (Read p f) (inr seen) h = cc
  goes_alike (Write p f x) seen h = cc
  goes_alike (Lock p f) seen h = cc
  goes_alike (Unlock p f) seen h = cc
  goes_alike (Open p f) seen h = cc
  goes_alike (Close p f) (inl no-R) h = cc
  goes_alike (Close p f) (inr seen) h = cc
  goes_alike (Testlock p f) seen h = refl
  goes_alike (Copy p f x) (inl no-R) h = cc
  goes_alike (Copy p f x) (inr seen) h = cc

-- a call is of another desk than u, and has no W on the file that it can change
pub record Apart (s : Setup) (u : ℕ) (call : Call) : Type 0 where
  pub desk : desk_of s (process_of call) ≢ u
  pub no_W : may_write s (process_of call) (changeable call) ≡ false

module _ (s : Setup) (few : s.processes ≤ most_processes) (u : ℕ) (m : Store) where
  -- a call that goes through is not seen, if it is apart where it would be
  pub effect_unseen : (call : Call) → process_of call < s.processes → ((q : ℕ) → Sees s u q (changeable call) → Apart s u call) →
      goes_through s m call ≡ true → Alike s u m (effect m call)
  unfolding goes_through effect
  effect_unseen (Read p f) exists apart goes = (equivalence s u).reflexive m
  effect_unseen (Write p f x) exists apart goes = content_unseen s u f (λ q o. cc (apart q o).no_W)
  effect_unseen (Lock p f) exists apart goes = holder_unseen s u f (λ q o. cc (apart q o).no_W)
  effect_unseen (Unlock p f) exists apart goes = holder_unseen s u f (λ q o. cc (apart q o).no_W)
  effect_unseen (Open p f) exists apart goes = mark_unseen s u f few p exists (λ o. absurd ((apart p o).desk o.process.sits))
  effect_unseen (Close p f) exists apart goes = mark_unseen s u f few p exists (λ o. absurd ((apart p o).desk o.process.sits))
  effect_unseen (Testlock p f) exists apart goes = (equivalence s u).reflexive m
  effect_unseen (Copy p f x) exists apart goes = content_unseen s u x (λ q o. cc ((apart q o).no_W, and-false (may_read s p f)))

  -- what a call leaves of stores that look alike is decided by them and by what its process sees
  pub effects_alike : {k : Store} → Alike s u m k → (call : Call) → process_of call < s.processes → SameIfRead s (process_of call) (file_of call) m k →
      goes_through s m call ≡ true → Alike s u (effect m call) (effect k call)
  unfolding goes_through effect
  effects_alike alike (Read p f) exists own goes = alike
  effects_alike alike (Write p f x) exists own goes = contents_alike s u alike f (λ q o. let seen = alike.meets q f o in cc)
  effects_alike alike (Lock p f) exists own goes = holders_alike s u alike f (λ q o. refl)
  effects_alike alike (Unlock p f) exists own goes = holders_alike s u alike f (λ q o. refl)
  effects_alike alike (Open p f) exists own goes = marks_alike s u alike f few p exists (λ o. refl)
  effects_alike alike (Close p f) exists own goes = marks_alike s u alike f few p exists (λ o. refl)
  effects_alike alike (Testlock p f) exists own goes = alike
  effects_alike alike (Copy p f x) exists (inl no-R) goes = contents_alike s u alike x (λ q o. cc)
  effects_alike alike (Copy p f x) exists (inr own) goes = contents_alike s u alike x (λ q o. let seen = alike.meets q x o in cc)
