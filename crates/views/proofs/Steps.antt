-- What one call on a store does to a view.
-- Assumes nothing.
use Prim.Native.Nat.{ℕ, ◌<◌, ◌≤◌}
use mathlib.Core.Path.{sym, ◌∙◌}
use mathlib.Core.Bool.{true≢false}
use mathlib.Core.Logic.{◌≢◌}
use Rattle.rules.specs.Sizes.{most_processes}
use Rattle.rules.specs.Calls.{goes_through, effect, next_store}
use Rattle.rules.specs.Parts.{process_of, file_of, changeable}
use Rattle.rules.specs.declared.Setup.{Setup}
use Rattle.rules.specs.declared.Store.{Store}
use Rattle.rules.specs.declared.Call.{Call}
use Rattle.rules.proofs.Lists.{cond_holds}
use Rattle.views.specs.Views.{Sees, Alike}
use Rattle.views.proofs.Alike.{equivalence}
use Rattle.views.proofs.Calls.{SameIfRead, goes_alike, Apart, effect_unseen, effects_alike}

module _ (s : Setup) (few : s.processes ≤ most_processes) (call : Call) (exists : process_of call < s.processes) where
  -- a call of another desk is not seen, if it has no W where it would be
  pub alone : {u : ℕ} → ((q : ℕ) → Sees s u q (changeable call) → Apart s u call) → (m : Store) → Alike s u m (next_store s m call)
  unfolding next_store
  alone {u} apart m =
      cond_holds (Alike s u m) (goes_through s m call) (effect_unseen s few u m call exists apart) (λ stays. (equivalence s u).reflexive m)

  module _ {u : ℕ} {m k : Store} (own : SameIfRead s (process_of call) (file_of call) m k) (alike : Alike s u m k) where
    -- where a call goes through in one store alone, the desk does not see the file that it can change
    differs : goes_through s m call ≢ goes_through s k call → (q : ℕ) → Sees s u q (changeable call) → Apart s u call
    differs unlike q o = absurd (unlike (goes_alike s m k call own (alike.meets q (changeable call) o).holder))

    pub stays : Alike s u (next_store s m call) (next_store s k call)
    unfolding next_store
    stays =
        let e = equivalence s u in
        cond_holds (λ (x : Store). Alike s u x (next_store s k call)) (goes_through s m call)
        (λ goes.
        cond_holds (Alike s u (effect m call)) (goes_through s k call) (λ too. effects_alike s few u m alike call exists own goes)
        (λ not.
        let unseen = effect_unseen s few u m call exists (differs (λ same. true≢false (sym goes ∙ same ∙ not))) goes in
        e.transitive _ _ _ (e.symmetric _ _ unseen) alike))
        (λ not.
        cond_holds (Alike s u m) (goes_through s k call)
        (λ goes.
        let unseen = effect_unseen s few u k call exists (differs (λ same. true≢false (sym goes ∙ sym same ∙ not))) goes in
        e.transitive _ _ _ alike unseen)
        (λ too. alike))
