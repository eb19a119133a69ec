-- Laws of where a number lies in a grid of so many desks: at the desk that is heard from times the desks, plus the desk that hears.
-- Assumes nothing.
use Prim.Native.Nat.{ℕ, zero, suc, ◌+◌, ◌*◌, ◌/◌, ◌%◌, ◌<◌, ◌≤◌}
use mathlib.Core.Path.{◌≡◌, ap, sym, ◌∙◌}
use mathlib.Core.Bool.{true}
use native.Mathlib.Nat.{not-suc-le-zero, mul-le-mul, mul-le-mul_right, mod-lt, mod-eq_of_lt, div-eq_of_lt, div-add-mod', div-lt_iff_lt-mul, mul-add-div_right, mul-add-mod_self_right}
use native.Mathlib.Omega.{arith}
use Rattle.rules.specs.Sizes.{most_desks}
use Rattle.rules.specs.Setups.{accepted}
use Rattle.rules.specs.declared.Setup.{Setup}
use Rattle.rules.proofs.Setups.{accepted_sizes}
use Rattle.reaching.specs.Tables.{most_pairs}
use Rattle.grids.specs.Grids.{grid_length, grid_place}

-- a grid has no more numbers than a table of links
pub few_numbers : (desks : ℕ) → desks ≤ most_desks → desks * desks ≤ most_pairs
few_numbers desks h = mul-le-mul h h

pub grid_small : (s : Setup) → accepted s ≡ true → grid_length s ≤ most_pairs
grid_small s e = few_numbers s.desks (accepted_sizes s e).of_desks.high

module _ (desks a b : ℕ) (column : b < desks) where
  -- the place tells its row and its column
  pub row_told : grid_place desks a b / desks ≡ a
  row_told = mul-add-div_right (omega arith) a b ∙ ap (λ (k : ℕ). a + k) (div-eq_of_lt column) ∙ omega arith

  pub column_told : grid_place desks a b % desks ≡ b
  column_told = mul-add-mod_self_right a desks b ∙ mod-eq_of_lt column

  pub place_lt : a < desks → grid_place desks a b < desks * desks
  place_lt row = omega (arith, mul-le-mul_right desks row)

-- places of one column in two rows, or of two columns, are apart
pub same_row : (desks a a' b b' : ℕ) → b < desks → b' < desks → grid_place desks a b ≡ grid_place desks a' b' → a ≡ a'
same_row desks a a' b b' l l' e = sym (row_told desks a b l) ∙ ap (λ (i : ℕ). i / desks) e ∙ row_told desks a' b' l'

pub same_column : (desks a a' b b' : ℕ) → b < desks → b' < desks → grid_place desks a b ≡ grid_place desks a' b' → b ≡ b'
same_column desks a a' b b' l l' e = sym (column_told desks a b l) ∙ ap (λ (i : ℕ). i % desks) e ∙ column_told desks a' b' l'

some_desk : (desks i : ℕ) → i < desks * desks → 0 < desks
some_desk zero i h = absurd (not-suc-le-zero h)
some_desk (suc n) i h = omega arith

module _ (desks i : ℕ) (inside : i < desks * desks) where
  pub row_lt : i / desks < desks
  row_lt = (div-lt_iff_lt-mul (some_desk desks i inside)).1 inside

  pub column_lt : i % desks < desks
  column_lt = mod-lt i (some_desk desks i inside)

  -- and each place below the end is that of its row and its column
  pub place_again : grid_place desks (i / desks) (i % desks) ≡ i
  place_again = div-add-mod' i desks
