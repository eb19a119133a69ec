-- Laws that the pages name and that no proof of code cites any more: when a flag tells a claim, what a room holds, and when two stores are the same.
-- Assumes nothing.
use Prim.Native.Nat.{ℕ, zero, suc, ◌<◌}
use mathlib.Core.Path.{◌≡◌, refl, ap, sym, ◌∙◌}
use mathlib.Core.Bool.{Bool, true, false, ◌&&◌, and-eq-true_iff, false≢true}
use mathlib.Core.Logic.{◌↔◌}
use mathlib.Core.List.{List, [], append-nil}
use native.Mathlib.Omega.{arith}
use borrow.Author.Tests.{eqb-true, eq-eqb}
use lib.Dec.{eqb}
use lib.ListN.{length, drop, replicate, length-append}
use Rattle.std.specs.Prelude.{Result, Ok, Err}
use Rattle.rules.specs.declared.Store.{Store}
use Rattle.rules.proofs.Told.{ok_same, ok_not_err}
use Rattle.trial.specs.Trials.{untouched, room_of, written_into}

-- a flag that is another tells what that one tells
pub told_by_lem : {r b : Bool} {P : Type 0} → r ≡ b → (b ≡ true) ↔ P → (r ≡ true) ↔ P
told_by_lem e t = (λ h. t.0 (sym e ∙ h), λ p. e ∙ t.1 p)

-- two flags joined tell both claims
told_both : {x y : Bool} {P Q : Type 0} → (x ≡ true) ↔ P → (y ≡ true) ↔ Q → (x && y ≡ true) ↔ (P × Q)
told_both {x} {y} p q = (
  λ e. let h = (and-eq-true_iff x y).0 e in (p.0 h.0, q.0 h.1),
  λ h. (and-eq-true_iff x y).1 (p.1 h.0, q.1 h.1),
)

-- a front that is longer than the room is not in it
pub too_long : (room front : List ℕ) → room ≡ written_into front (room_of (length room)) → length room < length front → ⊥
too_long room front e h = omega (arith, simp length-append at (ap length e))

-- a list that was run has as many calls as it says, and one that was stopped has none
pub ran_so : (answer : Result ℕ ℕ) (n calls : ℕ) → answer ≡ Ok n → (eqb n calls ≡ true) ↔ (answer ≡ Ok calls)
ran_so answer n calls e = (λ t. e ∙ ap Ok (eqb-true n calls t), λ q. eq-eqb n calls (ok_same (sym e ∙ q)))

pub stopped_so : (answer : Result ℕ ℕ) (n calls : ℕ) → answer ≡ Err n → (false ≡ true) ↔ (answer ≡ Ok calls)
stopped_so answer n calls e = (λ t. absurd (false≢true t), λ q. absurd (ok_not_err (sym q ∙ e)))

-- nothing lies past a room's end
drop_room : (n x : ℕ) → drop n (replicate n x) ≡ []
drop_room zero x = refl
drop_room (suc n) x = drop_room n x

-- two stores are the same exactly where their three tables are
pub store_told_parts : (a b : Store) → length a.holders ≡ length b.holders → {x y z : Bool}
    → (x ≡ true) ↔ (a.holders ≡ written_into b.holders (room_of (length a.holders))) → (y ≡ true) ↔ (a.cells ≡ b.cells)
    → (z ≡ true) ↔ (a.marks ≡ b.marks) → (x && y && z ≡ true) ↔ (a ≡ b)
store_told_parts a b k {x} {y} {z} p q r =
    let whole : written_into b.holders (room_of (length a.holders)) ≡ b.holders = rw (k, drop_room (length b.holders) untouched) (append-nil b.holders) in
    let t = told_both (told_both (rw whole at p) q) r in (
      λ e. let ((h, c), n) = t.0 e in λ i. record { holders = h i; cells = c i; marks = n i },
      λ e. t.1 ((ap (λ (m : Store). m.holders) e, ap (λ (m : Store). m.cells) e), ap (λ (m : Store). m.marks) e),
    )
