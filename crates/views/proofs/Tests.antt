-- A law of refusals that the conditions ask for.
-- Assumes nothing.
use Prim.Native.Nat.{ℕ, zero, suc}
use mathlib.Core.Path.{◌≡◌, refl}

-- what holds where no refusal is given, and of each refusal, holds
pub by_refusal : (P : ℕ → Type 0) (r : ℕ) → (r ≡ 0 → P 0) → ((e : ℕ) → P (suc e)) → P r
by_refusal P zero none each = none refl
by_refusal P (suc e) none each = each e
