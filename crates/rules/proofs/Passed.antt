-- What a loop that asks a condition of each number below n keeps, and what it answers.
-- Assumes nothing.
use Prim.Native.Nat.{ℕ, ◌+◌, ◌<◌, ◌≤◌}
use mathlib.Core.Path.{◌≡◌, sym}
use mathlib.Core.Bool.{Bool, true, false}
use native.Mathlib.Omega.{arith}
use borrow.Author.Count.{below_none, below_more}
use Rattle.rules.specs.Sizes.{every}
use Rattle.rules.proofs.Sizes.{every_true, every-false}

-- the condition held of each number before i
pub record Passed (n : ℕ) (p : ℕ → Bool) (i : ℕ) : Type 0 where
  pub before : i ≤ n
  pub each : (k : ℕ) → k < i → p k ≡ true

pub passed_none : (n : ℕ) (p : ℕ → Bool) → Passed n p 0
passed_none n p = record { before = omega arith; each = below_none _ }

pub passed_more : (n : ℕ) (p : ℕ → Bool) (i : ℕ) → Passed n p i → i < n → p i ≡ true → Passed n p (i + 1)
passed_more n p i h l e = record { before = omega arith; each = below_more _ _ h.each e }

pub passed_all : (n : ℕ) (p : ℕ → Bool) (i : ℕ) → Passed n p i → n ≤ i → true ≡ every n p
passed_all n p i h l = sym (every_true n p (λ k b. h.each k (omega arith)))

pub stopped_at : (n : ℕ) (p : ℕ → Bool) (i : ℕ) → i < n → p i ≡ false → false ≡ every n p
stopped_at n p i l e = sym (every-false n p i l e)
