-- 01, case 8: "Two desks, one class, one file; process n at desk n; desk 0 R, desk 1 RW."
use Rattle.std.specs.Prelude.{[], ◌∷◌}
use Rattle.rules.specs.Setups.{right_r, right_both, SetupBytes, setup_bytes, setup_from}
use Rattle.rules.specs.declared.Setup.{Setup}

abbrev pub setup8 : SetupBytes
setup8 = setup_bytes 2 1 2 1 (right_r ∷ right_both ∷ []) (0 ∷ 1 ∷ []) (0 ∷ [])

unfoldable pub case8 : Setup
case8 = setup_from setup8
