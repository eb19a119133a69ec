-- What a test on a callee's flag tells of the definition that the callee's contract equates the flag to; and of refusals, whether one is given.
-- Assumes nothing.
use Prim.Native.Nat.{ℕ, zero, suc}
use mathlib.Core.Path.{◌≡◌, refl, sym, ◌∙◌}
use mathlib.Core.Bool.{Bool, true, false, not}
use mathlib.Core.Logic.{◌≢◌}
use native.Mathlib.Omega.{arith}
use borrow.Author.Tests.{not-true, not-false}
use Rattle.std.specs.Prelude.{Result, Ok, Err}
use Rattle.rules.specs.Entries.{unless}

-- `if !flag` was taken
pub fails : {flag fact : Bool} → flag ≡ fact → not flag ≡ true → fact ≡ false
fails {flag} e t = sym e ∙ not-true flag t

-- `if !flag` was not taken
pub holds : {flag fact : Bool} → flag ≡ fact → not flag ≡ false → fact ≡ true
holds {flag} e t = sym e ∙ not-false flag t

-- a flag that a test has told is the fact
pub known : {flag fact told : Bool} → flag ≡ fact → flag ≡ told → fact ≡ told
known e t = sym e ∙ t

-- what follows where no refusal is given and where one is follows
pub refused_or_not : {C : Type 0} (n : ℕ) → (n ≡ 0 → C) → (n ≢ 0 → C) → C
refused_or_not zero f g = f refl
refused_or_not (suc n) f g = g (λ e. omega arith)

-- a number that is not 0 is a refusal
pub unless_refused {ℓ} : {A : Type ℓ} (n : ℕ) (good refused : A) → (n ≡ 0 → ⊥) → unless n good refused ≡ refused
unless_refused zero good refused h = absurd (h refl)
unless_refused (suc n) good refused h = refl

-- a result is given or refused, and not both; and it has one value or one refusal
pub ok_not_err : {A E : Type 0} {x : A} {e : E} → ◌≡◌ {A = Result A E} (Ok x) (Err e) → ⊥
ok_not_err q = let z : ◌≡◌ {A = ℕ} 0 1 = cc in omega arith

pub ok_same : {A E : Type 0} {x y : A} → ◌≡◌ {A = Result A E} (Ok x) (Ok y) → x ≡ y
ok_same q = cc

pub err_same : {A E : Type 0} {x y : E} → ◌≡◌ {A = Result A E} (Err x) (Err y) → x ≡ y
err_same q = cc
