-- What the four numbers of a call tell: whose it is, and that it is refused where it is nobody's.
-- Assumes nothing.
use Prim.Native.Nat.{ℕ}
use mathlib.Core.Path.{◌≡◌}
use mathlib.Core.Logic.{◌≢◌}
use mathlib.Core.Option.{none, some, some-injective, none-ne-some, some-ne-none}
use lib.Dec.{ltb}
use borrow.Author.Tests.{ltb-true, lt-ltb}
use Rattle.rules.specs.Calls.{call_of}
use Rattle.rules.specs.Parts.{process_of}
use Rattle.rules.specs.Refusals.{numbers_refusal}
use Rattle.rules.specs.Links.{desk_of_call}
use Rattle.rules.specs.declared.Numbers.{Numbers}
use Rattle.rules.specs.declared.Setup.{Setup}
use Rattle.rules.proofs.Lists.{by_test}
use Rattle.rules.proofs.Codes.{process_of-call_of}
use Rattle.rules.proofs.Refusals.{numbers_refusal_iff}
use Rattle.views.specs.Views.{OfDesk}

module _ (s : Setup) (n : Numbers) where
  -- a call of desk d is of a process of that desk
  pub of_desk : {d : ℕ} → desk_of_call s n ≡ some d → OfDesk s d (process_of (call_of n))
  unfolding desk_of_call
  of_desk {d} e =
      rw process_of-call_of
      (by_test (ltb n.process s.processes)
      (λ t. record { exists = ltb-true _ _ t; sits = some-injective _ _ (rw t at e) })
      (λ t. absurd (none-ne-some d (rw t at e))))

  -- a call of nobody is refused
  pub nobody_refused : desk_of_call s n ≡ none → numbers_refusal s n ≢ 0
  unfolding desk_of_call
  nobody_refused e ok = some-ne-none _ (rw (lt-ltb _ _ ((numbers_refusal_iff s n).0 ok).process) at e)
