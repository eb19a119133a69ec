-- `judging::fitting::row_fits` meets its contract: a desk's rights are a part of the table.
use Prim.Native.Nat.{◌+◌, ◌*◌}
use native.Mathlib.Nat.{add-sub_cancel_left}
use native.Mathlib.Omega.{arith}
use Rattle.rules.specs.Sizes.{most_classes}
use Rattle.rules.specs.Setups.{right_both, entry_fits, classes_at, row_fits}
use Rattle.rules.proofs.Sizes.{every_part}
use Rattle.judging.proofs.fitting.row_fits.Goals as goal

pub returns : goal.returns
unfolding row_fits
returns c =
    let s = c.args.setup.now in
    let d = c.args.desk in
    rw (c.entries_fit.ensures, c.classes_at.ensures, add-sub_cancel_left)
    (every_part s.rights (d * most_classes) most_classes (entry_fits (classes_at s d) (right_both + 1)) (omega (arith, c.requires)))
