-- Laws of the grid as a whole: when it is refused, and what its answer and its room are in each case.
-- Assumes nothing.
use Prim.Native.Nat.{ℕ, ◌≤◌}
use mathlib.Core.Path.{◌≡◌, ap, sym}
use mathlib.Core.Bool.{true}
use mathlib.Core.Logic.{◌≢◌}
use mathlib.Core.List.{List, ◌++◌}
use native.Mathlib.Omega.{arith}
use borrow.Author.Tests.{ltb-false, not-false}
use lib.ListN.{length, drop}
use Rattle.std.specs.Prelude.{Ok, Err}
use Rattle.rules.specs.Setups.{accepted}
use Rattle.rules.specs.Links.{linked}
use Rattle.rules.specs.Refusals.{number_of, numbered}
use Rattle.rules.specs.Answers.{done_numbers_of}
use Rattle.rules.specs.declared.Setup.{Setup}
use Rattle.rules.specs.declared.refusal.Refusal.{Refusal}
use Rattle.rules.proofs.Refusals.{unmet_iff}
use Rattle.rules.proofs.Told.{unless_refused}
use Rattle.rules.proofs.RefusalNumbers.{unless_numbered, numbered_refused}
use Rattle.grids.specs.Grids.{grid_length, grid_order, grid_refusal, grid_over, gridded, room_after}

-- a grid that is not refused has an accepted setup, and room for its numbers
pub record Sound (s : Setup) (room : ℕ) : Type 0 where
  pub setup : accepted s ≡ true
  pub spacious : grid_length s ≤ room

pub grid_sound : (s : Setup) (room : ℕ) → grid_refusal s room ≡ 0 → Sound s room
unfolding grid_refusal
grid_sound s room e =
    let u = (unmet_iff (grid_order s room) (omega arith)).0 e in
    record { setup = not-false _ u.0; spacious = ltb-false _ _ u.1.0 }

module _ (s : Setup) (room : List ℕ) where
  -- a refused grid writes nothing
  module _ (h : grid_refusal s (length room) ≢ 0) where
    pub gridded_refused : gridded s (length room) ≡ Err (grid_refusal s (length room))
    unfolding gridded
    gridded_refused = unless_refused _ _ _ h

    pub room_refused : room_after s room ≡ room
    unfolding room_after
    room_refused = unless_refused _ _ _ h

  -- and else the front of the room is the grid
  module _ (e : grid_refusal s (length room) ≡ 0) where
    pub gridded_filled : gridded s (length room) ≡ Ok (grid_length s)
    unfolding gridded
    gridded_filled = rw e

    pub room_filled : room_after s room ≡ grid_over (linked s) s.desks ++ drop (grid_length s) room
    unfolding room_after
    room_filled = rw e

module _ (s : Setup) (room : List ℕ) where
  -- so it is of a refusal
  module _ (r : Refusal) (e : number_of r ≡ grid_refusal s (length room)) where
    pub refused_told : numbered {A = ℕ} (Err r) ≡ gridded s (length room)
    unfolding gridded
    refused_told = numbered_refused r _ _ e

    pub refused_numbers : done_numbers_of (numbered {A = ℕ} (Err r)) ≡ done_numbers_of (gridded s (length room))
    refused_numbers = ap done_numbers_of refused_told

    pub refused_kept : room ≡ room_after s room
    unfolding room_after
    refused_kept = sym (unless_numbered r _ _ _ e)
