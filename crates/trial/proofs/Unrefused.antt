-- Laws of what a case starts from: bytes that no refusal is given for are accepted, and an accepted setup is given the fresh store.
-- Assumes nothing.
use Rattle.std.proofs.Common.{ℕ, ◌≡◌, true, refl, ap, sym, ◌∙◌, Result, Ok, Err, IsOk, arith}
use Rattle.rules.specs.Setups.{SetupBytes, accepted}
use Rattle.rules.specs.Stores.{fresh_store}
use Rattle.rules.specs.Refusals.{number_of}
use Rattle.rules.specs.Entries.{acceptance, freshness, given_setup, given_store}
use Rattle.rules.specs.declared.refusal.Refusal.{Refusal}
use Rattle.rules.specs.declared.Setup.{Setup}
use Rattle.rules.specs.declared.Store.{Store}
use Rattle.rules.specs.declared.GivenSetup.{GivenSetup}
use Rattle.rules.specs.declared.GivenStore.{GivenStore}
use Rattle.rules.proofs.RefusalNumbers.{unless_numbered}
use Rattle.rules.proofs.Entries.{acceptance_gives, given_accepted, freshness_gives}

-- a refusal's number is not the 0 of none
number_not_0 : (r : Refusal) → number_of r ≡ 0 → ⊥
number_not_0 r e = omega (arith, unless_numbered {A = ℕ} r 0 0 1 e)

pub setup_given : (b : SetupBytes) (r : Result Setup Refusal) → given_setup r ≡ acceptance b → (acceptance b).refusal ≡ 0 → IsOk r
setup_given b (Ok s) e z = refl
setup_given b (Err x) e z = absurd (number_not_0 x (ap (λ (g : GivenSetup). g.refusal) e ∙ z))

pub setup_accepted : (b : SetupBytes) (r : Result Setup Refusal) (s : Setup) → r ≡ Ok s → given_setup r ≡ acceptance b → (acceptance b).refusal ≡ 0 → accepted s ≡ true
unfolding acceptance
setup_accepted b r s k e z = rw (sym (ap (λ (g : GivenSetup). g.setup) (sym (ap given_setup k) ∙ e ∙ acceptance_gives b z))) at (given_accepted b z)

pub store_given : (s : Setup) (r : Result Store Refusal) → given_store r ≡ freshness s → accepted s ≡ true → IsOk r
store_given s (Ok m) e a = refl
store_given s (Err x) e a = absurd (number_not_0 x (ap (λ (g : GivenStore). g.refusal) (e ∙ freshness_gives s a)))

pub store_is_fresh : (s : Setup) (r : Result Store Refusal) (m : Store) → r ≡ Ok m → given_store r ≡ freshness s → accepted s ≡ true → m ≡ fresh_store
store_is_fresh s r m k e a = ap (λ (g : GivenStore). g.store) (sym (ap given_store k) ∙ e ∙ freshness_gives s a)
