-- What an accepted and a refused setup is handed to another language as, by the refusal's number.
-- Assumes nothing.
use Prim.Native.Nat.{◌≤◌}
use mathlib.Core.Path.{◌≡◌, sym}
use Rattle.std.specs.Prelude.{Ok, Err}
use Rattle.rules.specs.Sizes.{most_classes}
use Rattle.rules.specs.Setups.{SetupBytes, setup_from}
use Rattle.rules.specs.Refusals.{number_of, setup_refusal}
use Rattle.rules.specs.Entries.{given_setup, acceptance}
use Rattle.rules.specs.declared.refusal.Refusal.{Refusal}
use Rattle.rules.proofs.RefusalNumbers.{unless_number}
use Rattle.rules.proofs.Refusals.{setup_refusal_iff}
use Rattle.rules.proofs.Entries.{acceptance_gives}

module _ (b : SetupBytes) where
  pub bytes_refused : (r : Refusal) → number_of r ≡ setup_refusal b → given_setup (Err r) ≡ acceptance b
  unfolding acceptance
  bytes_refused r e = rw (sym e, unless_number)

  pub bytes_taken : 0 ≡ setup_refusal b → given_setup (Ok (setup_from b)) ≡ acceptance b
  bytes_taken e = sym (acceptance_gives b (sym e))

  -- bytes that are not refused have no more classes than there may be
  pub classes_inside : 0 ≡ setup_refusal b → b.classes ≤ most_classes
  classes_inside e = ((setup_refusal_iff b).0 (sym e)).sizes.of_classes.high
