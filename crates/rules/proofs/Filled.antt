-- What a loop that fills a list with f at each place keeps, and what it has filled at its end.
-- Assumes nothing.
use Prim.Native.Nat.{ℕ, ◌+◌, ◌<◌, ◌≤◌}
use mathlib.Core.Path.{◌≡◌, ◌∙◌}
use mathlib.Core.List.{List}
use mathlib.Core.Logic.{⊎_elim}
use native.Mathlib.Nat.{eq-or-lt_of_le}
use native.Mathlib.Omega.{arith}
use lib.ListN.{length, get_or, set, length-set}
use lib.Seq.{get_or-set_same, get_or-set_other}
use Rattle.rules.specs.Sizes.{table}
use Rattle.rules.proofs.Sizes.{table_is}

-- the list has n entries, and f stands at each place before i
pub record Filled (n : ℕ) (f : ℕ → ℕ) (xs : List ℕ) (i : ℕ) : Type 0 where
  pub long : length xs ≡ n
  pub before : i ≤ n
  pub each : (k : ℕ) → k < i → get_or xs k 0 ≡ f k

pub filled_none : (n : ℕ) (f : ℕ → ℕ) (xs : List ℕ) → length xs ≡ n → Filled n f xs 0
filled_none n f xs l = record { long = l; before = omega arith; each = λ k h. absurd (omega arith) }

pub filled_more : (n : ℕ) (f : ℕ → ℕ) (xs : List ℕ) (i x : ℕ) → Filled n f xs i → i < n → x ≡ f i → Filled n f (set xs i x) (i + 1)
filled_more n f xs i x h l e =
    record {
      long = length-set xs i x ∙ h.long;
      before = omega arith;
      each = λ k b.
          ⊎_elim (λ q. rw q (get_or-set_same xs i x 0 (omega arith) ∙ e))
          (λ c. get_or-set_other xs i k x 0 (omega arith) ∙ h.each k c) (eq-or-lt_of_le (omega arith));
    }

pub filled_all : (n : ℕ) (f : ℕ → ℕ) (xs : List ℕ) (i : ℕ) → Filled n f xs i → n ≤ i → xs ≡ table n f
filled_all n f xs i h l = table_is n f xs 0 h.long (λ k b. h.each k (omega arith))
