-- The laws of striking out: it keeps exactly the acts that fail the test, in order.
-- Assumes nothing.
use Prim.Native.Nat.{ℕ, ◌≤◌}
use native.Mathlib.Omega.{arith}
use mathlib.Core.Path.{◌≡◌, refl, ap}
use mathlib.Core.Bool.{Bool, true, false, not}
use mathlib.Core.List.Memᴰ
use mathlib.Core.List.{List, [], ◌∷◌, ◌++◌}
use mathlib.Core.Option.{Option, none, some}
use lib.Dec.{T, eqb→eq, eqb_refl, not_T, T_not}
use lib.ListN.{length}
use Rattle.secrecy.specs.Machine.{Machine, front_if, is_desk, is_of}
use Rattle.secrecy.specs.Strike.{strike, strike_desk, WithoutDesk, Struck, no_acts, struck, kept}
use Rattle.secrecy.specs.Sets.{Every}
use Rattle.secrecy.proofs.Front.{front_if_passes, front_if_fails, front_if_append, front_if-length}

module _ {A : Type 0} (out : A → Bool) where
  -- striking out sorts the acts by Out and Stays where those that pass the test are Out and those that fail it Stay
  pub strike_sorts : {Out Stays : A → Type 0} (acts : List A) →
      Every (λ a. T (out a) → Out a) acts → Every (λ a. T (not (out a)) → Stays a) acts → Struck Out Stays acts (strike out acts)
  unfolding strike
  strike_sorts [] passes fails = no_acts
  strike_sorts {Out} {Stays} (a ∷ acts) passes fails =
      sort (out a) (passes a (Memᴰ.head refl)) (fails a (Memᴰ.head refl))
      (strike_sorts acts (λ b m. passes b (Memᴰ.tail m)) (λ b m. fails b (Memᴰ.tail m)))
    where
      sort : (b : Bool) → (T b → Out a) → (T (not b) → Stays a) → {rest : List A} → Struck Out Stays acts rest → Struck Out Stays (a ∷ acts) (front_if (not b) a rest)
      sort true p f r = struck (p tt) r
      sort false p f r = kept (f tt) r

  -- and it alone does, where what is Out passes the test and what Stays fails it
  pub strike_only : {Out Stays : A → Type 0} → ((a : A) → Out a → T (out a)) → ((a : A) → Stays a → T (not (out a))) →
      {acts rest : List A} → Struck Out Stays acts rest → rest ≡ strike out acts
  unfolding strike
  strike_only passes fails no_acts = refl
  strike_only passes fails (struck {a} o r) = rw (front_if_fails (not (out a)) (λ t. T_not (out a) t (passes a o))) (strike_only passes fails r)
  strike_only passes fails (kept {a} k r) = rw (front_if_passes (not (out a)) (fails a k)) (ap (◌∷◌ a) (strike_only passes fails r))

  pub strike_append : (xs ys : List A) → strike out (xs ++ ys) ≡ strike out xs ++ strike out ys
  unfolding strike
  strike_append [] ys = refl
  strike_append (a ∷ xs) ys = rw (strike_append xs ys) (front_if_append (not (out a)) _ _ _)

  pub strike-length : (acts : List A) → length (strike out acts) ≤ length acts
  unfolding strike
  strike-length [] = omega arith
  strike-length (a ∷ acts) = omega (arith, strike-length acts, front_if-length (not (out a)) a (strike out acts))

-- the test for desk u passes at that desk alone
pub is_desk_some : (u : ℕ) (o : Option ℕ) → T (is_desk u o) → o ≡ some u
is_desk_some u none t = absurd t
is_desk_some u (some d) t = ap some (eqb→eq d u t)

pub some_is_desk : (u : ℕ) (o : Option ℕ) → o ≡ some u → T (is_desk u o)
some_is_desk u o e = rw e (eqb_refl u)

module _ (M : Machine) (u : ℕ) where
  -- striking out desk u's acts keeps exactly the acts that are not desk u's, in order
  pub strike_desk-without : (acts : List M.Act) → WithoutDesk M u acts (strike_desk M u acts)
  strike_desk-without acts =
      strike_sorts (is_of M u) acts (λ a m. is_desk_some u (M.desk a)) (λ a m t e. T_not (is_of M u a) t (some_is_desk u (M.desk a) e))

  pub without-strike_desk : {acts rest : List M.Act} → WithoutDesk M u acts rest → rest ≡ strike_desk M u acts
  without-strike_desk = strike_only (is_of M u) (λ a. some_is_desk u (M.desk a)) (λ a n. not_T (is_of M u a) (λ t. n (is_desk_some u (M.desk a) t)))

  -- an act of nobody is never struck out
  pub nobody_stays : (a : M.Act) → M.desk a ≡ none → (acts : List M.Act) → strike_desk M u (a ∷ acts) ≡ a ∷ strike_desk M u acts
  unfolding strike
  nobody_stays a e acts = rw e
