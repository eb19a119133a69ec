-- What holds of every act of a list; and, for the proof of demand 3, sets of desks, whose acts a list holds, and when one is closed
-- against another.
use Rattle.std.specs.Prelude.{ℕ, ◌≡◌}
use mathlib.Core.List.{List, Memᴰ}
use Rattle.std.proofs.Math.Option.{none, some}
use Rattle.secrecy.specs.Machine.{Machine}
use Rattle.secrecy.specs.Views.{Policy, Views}

abbrev pub Desks : Type 1
Desks = ℕ → Type 0

-- the act belongs to a desk of the set
pub record OfSet (M : Machine) (S : Desks) (a : M.Act) : Type 0 where
  pub who : ℕ
  pub belongs : M.desk a ≡ some who
  pub inside : S who

-- the act belongs to a desk of H, to a desk of L or to nobody
pub data OfEither (M : Machine) (H L : Desks) (a : M.Act) : Type 0 where
  of_H : OfSet M H a → OfEither M H L a
  of_L : OfSet M L a → OfEither M H L a
  of_nobody : M.desk a ≡ none → OfEither M H L a

-- P holds of each act of the list
abbrev pub Every : {A : Type 0} → (A → Type 0) → List A → Type 0
Every {A} P acts = (a : A) → Memᴰ a acts → P a

-- no desk is in both sets, and no desk of H has a link to a desk of L
pub record Closed (linked : Policy) (H L : Desks) : Type 0 where
  pub apart : (d : ℕ) → H d → ¬ L d
  pub no_link : (d u : ℕ) → H d → L u → ¬ linked d u

-- the states look alike to every desk of the set
abbrev pub AlikeTo : (M : Machine) → Views M → Desks → M.State → M.State → Type 0
AlikeTo M Alike L s t = (u : ℕ) → L u → Alike u s t
