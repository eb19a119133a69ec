-- What a call that was decoded names lies in range, so that the code can look it up.
-- Assumes nothing.
use Prim.Native.Nat.{◌<◌}
use mathlib.Core.Path.{◌≡◌, sym}
use mathlib.Core.Bool.{true}
use Rattle.std.specs.Prelude.{Ok}
use Rattle.rules.specs.Sizes.{most_processes, most_files}
use Rattle.rules.specs.Setups.{accepted}
use Rattle.rules.specs.Parts.{process_of, file_of, changeable}
use Rattle.rules.specs.Entries.{decoded}
use Rattle.rules.specs.declared.Setup.{Setup}
use Rattle.rules.specs.declared.Numbers.{Numbers}
use Rattle.rules.specs.declared.Call.{Call}
use Rattle.rules.proofs.Decodes.{decoded_in_range}

module _ (s : Setup) (n : Numbers) (call : Call) (a : accepted s ≡ true) (e : Ok call ≡ decoded s n) where
  pub process_lt : process_of call < most_processes
  process_lt = (decoded_in_range s n call a (sym e)).process

  pub file_lt : file_of call < most_files
  file_lt = (decoded_in_range s n call a (sym e)).file

  pub changed_lt : changeable call < most_files
  changed_lt = (decoded_in_range s n call a (sym e)).changed
