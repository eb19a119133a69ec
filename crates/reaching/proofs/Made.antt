-- What `array::from_fn` makes by a closure that changes nothing: the table of what the closure answers.
-- Assumes nothing.
use Prim.Native.Nat.{ℕ, zero, suc, ◌+◌, ◌<◌, ◌≤◌}
use mathlib.Core.Path.{◌≡◌, ◌∙◌, subst}
use mathlib.Core.List.{List}
use mathlib.Core.Logic.{⊎_elim}
use native.Mathlib.Nat.{eq-or-lt_of_le}
use native.Mathlib.Omega.{arith}
use denote.Param.Members.{Mut, Called}
use lib.ListN.{get_or}
use Rattle.std.specs.Array.{IsFromFnResult, IsFromFnResultFrom}
use Rattle.rules.specs.Sizes.{table}
use Rattle.rules.proofs.Sizes.{table_is}

module _ {F B : Type 0} (g : Mut F (ℕ × Unit {0}) B) (f : F) (ys : List B) (n : ℕ) (h : ℕ → B) (d : B) where
  -- called at a number below n, it answers h of it and is what it was
  abbrev pub Answers : Type 0
  Answers = (i : ℕ) (y : B) (q : F) → i < n → Called g f (i, tt) y q → (q ≡ f) × (y ≡ h i)

  at_each : Answers → (i m : ℕ) → i + m ≡ n → IsFromFnResultFrom g f ys i m → (k : ℕ) → i ≤ k → k < n → get_or ys k d ≡ h k
  at_each a i zero e r k low high = absurd (omega arith)
  at_each a i (suc m) e r k low high =
      let (q, y, at, called, rest) = r in
      let (same, is) = a i y q (omega arith) called in
      ⊎_elim (λ (o : i ≡ k). subst (λ (j : ℕ). get_or ys j d ≡ h j) o (at.1 d ∙ is))
      (λ l. at_each a (i + 1) m (omega arith) (subst (λ (p : F). IsFromFnResultFrom g p ys (i + 1) m) same rest) k (omega arith) high)
      (eq-or-lt_of_le low)

  pub made_is : IsFromFnResult g f ys n → Answers → ys ≡ table n h
  made_is r a = table_is n h ys d r.long (λ k l. at_each a 0 n (omega arith) r.each k (omega arith) l)
