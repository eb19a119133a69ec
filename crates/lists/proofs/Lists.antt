-- Laws of a list as a whole: what its run and its room are where it is refused and where it is not.
-- Assumes nothing.
use Prim.Native.Nat.{ℕ, zero, suc, ◌*◌, ◌/◌, ◌%◌, ◌≤◌}
use mathlib.Core.Path.{◌≡◌, refl, ◌∙◌}
use mathlib.Core.Bool.{true}
use mathlib.Core.List.{List, [], ◌∷◌, ◌++◌}
use mathlib.Core.Logic.{◌≢◌}
use Rattle.std.specs.Prelude.{Ok, Err}
use native.Mathlib.Omega.{arith}
use borrow.Author.Tests.{ltb-false, eqb-true, not-false}
use lib.ListN.{length, drop}
use Rattle.secrecy.specs.Machine.{after, answers_where}
use Rattle.secrecy.proofs.Runs.{after_append, answers_append}
use Rattle.rules.specs.Sizes.{table, most_calls}
use Rattle.rules.specs.Setups.{accepted}
use Rattle.rules.specs.Stores.{fits}
use Rattle.rules.specs.Calls.{call_width, calls_in, calls_of}
use Rattle.rules.specs.Refusals.{first_of, refusal15, refusal16, judge_refusal, number_of}
use Rattle.rules.specs.Entries.{unless, called, ran}
use Rattle.rules.specs.declared.Numbers.{Numbers}
use Rattle.rules.specs.declared.Setup.{Setup}
use Rattle.rules.specs.declared.Store.{Store}
use Rattle.rules.specs.declared.refusal.Refusal.{Refusal}
use Rattle.rules.proofs.Lists.{neither}
use Rattle.rules.proofs.Refusals.{unmet_iff, first_of_append, judge_refusal_iff}
use Rattle.rules.proofs.Entries.{called-judged, ran-fits}
use Rattle.rules.proofs.RefusalNumbers.{unless_number}
use Rattle.rules.proofs.Told.{unless_refused}
use Rattle.views.specs.Machine.{machine}
use Rattle.lists.specs.Lists.{answer_width, end_of, answers_over, in_numbers, refusal10_of_list, refusal11_of_list, list_order, list_refusal, listed, answers_after}

-- a list that is not refused has an accepted setup, a fitting store, four numbers a call and room for the answers
pub record Sound (s : Setup) (m : Store) (numbers room : ℕ) : Type 0 where
  pub setup : accepted s ≡ true
  pub store : fits s m ≡ true
  pub fours : numbers % call_width ≡ 0
  pub short : numbers ≤ most_calls * call_width
  pub spacious : numbers / call_width * answer_width ≤ room

pub list_sound : (s : Setup) (m : Store) (numbers room : ℕ) → list_refusal s m numbers room ≡ 0 → Sound s m numbers room
unfolding list_refusal
list_sound s m numbers room e =
    let u = (unmet_iff (list_order s m numbers room) (omega arith)).0 e in
    let ten = (neither _ _).0 u.1.1.0 in
    record {
      setup = not-false _ u.0;
      store = not-false _ u.1.0;
      fours = eqb-true _ _ (not-false _ ten.0);
      short = ltb-false _ _ ten.1;
      spacious = ltb-false _ _ u.1.1.1.0;
    }

-- what is held against the setup and the store comes before what is held against the list
pub list_after : (s : Setup) (m : Store) (numbers room : ℕ) → list_refusal s m numbers room ≡ unless (judge_refusal s m) (first_of (refusal10_of_list numbers ∷ refusal11_of_list numbers room ∷ [])) (judge_refusal s m)
unfolding list_refusal judge_refusal
list_after s m numbers room = first_of_append (refusal15 s ∷ refusal16 s m ∷ []) (refusal10_of_list numbers ∷ refusal11_of_list numbers room ∷ []) (omega arith)

pub list_judged : (s : Setup) (m : Store) (numbers room : ℕ) → judge_refusal s m ≡ 0 → list_refusal s m numbers room ≡ first_of (refusal10_of_list numbers ∷ refusal11_of_list numbers room ∷ [])
list_judged s m numbers room e = list_after s m numbers room ∙ rw e

pub list_unjudged : (s : Setup) (m : Store) (numbers room : ℕ) → judge_refusal s m ≢ 0 → list_refusal s m numbers room ≡ judge_refusal s m
list_unjudged s m numbers room h = list_after s m numbers room ∙ unless_refused (judge_refusal s m) _ _ h

-- what is refused has a number that is not the 0 of none
pub refused_not_0 : (r : Refusal) (n : ℕ) → number_of r ≡ n → n ≢ 0
refused_not_0 r n e z = let one : ◌≡◌ {A = ℕ} 0 1 = rw (e ∙ z) at (unless_number {A = ℕ} r 0 1) in omega arith

module _ (s : Setup) (m : Store) (list room : List ℕ) where
  -- a refused list runs nothing and writes nothing
  module _ (h : list_refusal s m (length list) (length room) ≢ 0) where
    pub listed_stops : listed s m list room ≡ (Err (list_refusal s m (length list) (length room)), m)
    unfolding listed
    listed_stops = unless_refused _ _ _ h

    pub room_stops : answers_after s m list room ≡ room
    unfolding answers_after
    room_stops = unless_refused _ _ _ h

  -- any other runs every call
  module _ (e : list_refusal s m (length list) (length room) ≡ 0) where
    pub listed_runs : listed s m list room ≡ (Ok (calls_in list), end_of s m (calls_of list))
    unfolding listed
    listed_runs = rw e

    pub room_runs : answers_after s m list room ≡ in_numbers (answers_over s m (calls_of list)) ++ drop (calls_in list * answer_width) room
    unfolding answers_after
    room_runs = rw e

-- running a list is running its first part and then the rest from where that ended
pub end_append : (s : Setup) (m : Store) (xs ys : List Numbers) → end_of s m (xs ++ ys) ≡ end_of s (end_of s m xs) ys
end_append s m xs ys = after_append (machine s) m xs ys

pub answers_append_list : (s : Setup) (m : Store) (xs ys : List Numbers) → answers_over s m (xs ++ ys) ≡ answers_over s m xs ++ answers_over s (end_of s m xs) ys
answers_append_list s m xs ys = answers_append (machine s) (λ a. true) m xs ys

-- "An empty list gives no answers and the same store", whatever the store
pub end_none : (s : Setup) (m : Store) → end_of s m (calls_of []) ≡ m
unfolding after calls_of table
end_none s m = refl

pub answers_none : (s : Setup) (m : Store) → answers_over s m (calls_of []) ≡ []
unfolding answers_where calls_of table
answers_none s m = refl

pub room_none : (s : Setup) (m : Store) (room : List ℕ) → answers_after s m [] room ≡ room
unfolding answers_after in_numbers
room_none s m room = rw (answers_none s m) (either (list_refusal s m 0 (length room)))
  where
    either : (r : ℕ) → unless r (in_numbers [] ++ drop 0 room) room ≡ room
    either zero = refl
    either (suc r) = refl

-- on an accepted setup and a store that fits, a run is the entry for one call, again and again, and its store still fits
module _ (s : Setup) (a : accepted s ≡ true) where
  pub end_called : (m : Store) → fits s m ≡ true → (n : Numbers) (rest : List Numbers) → end_of s m (n ∷ rest) ≡ end_of s (called s m n).store rest
  unfolding after
  end_called m f n rest = rw (called-judged s m n ((judge_refusal_iff s m).1 (a, f)))

  pub answers_called : (m : Store) → fits s m ≡ true → (n : Numbers) (rest : List Numbers) → answers_over s m (n ∷ rest) ≡ (called s m n).answer ∷ answers_over s (called s m n).store rest
  unfolding answers_where
  answers_called m f n rest = rw (called-judged s m n ((judge_refusal_iff s m).1 (a, f)))

pub end_fits : (s : Setup) → accepted s ≡ true → (m : Store) (acts : List Numbers) → fits s m ≡ true → fits s (end_of s m acts) ≡ true
unfolding after
end_fits s a m [] f = f
end_fits s a m (n ∷ acts) f = end_fits s a (ran s m n).store acts (ran-fits s m n a f)
