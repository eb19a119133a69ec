-- The twelve sheets of trial come out as 01, and 02 with Req 02, say, by computation. That a store fits is cited: all else is computed.
-- Assumes nothing.
use Prim.Native.Nat.{ℕ, zero, suc, ◌+◌, ◌*◌, ◌<◌}
use mathlib.Core.Path.{◌≡◌, refl, ap, ◌∙◌}
use mathlib.Core.Logic.{◌≢◌}
use mathlib.Core.Bool.{Bool, true}
use mathlib.Core.List.{List, [], ◌∷◌, ◌++◌}
use native.Mathlib.Nat.{not-suc-le-zero, le_of_suc-le-suc}
use native.Mathlib.Omega.{arith}
use lib.ListN.{length, get_or, drop}
use Rattle.secrecy.specs.Machine.{after, answers_where}
use Rattle.rules.specs.Sizes.{every, some_below, table}
use Rattle.rules.specs.Setups.{may_read, may_write, within_sizes, entry_fits, row_fits, rights_fit, desks_fit, classes_fit, accepted, given_right, setup_from}
use Rattle.rules.specs.Stores.{blank_content, holder_of, fresh_store, holder_fits, mark_fits, fits}
use Rattle.rules.specs.Calls.{written_to, call_of, goes_through, effect, says, answer_to, next_store, calls_in, calls_of, in_quads}
use Rattle.rules.specs.Refusals.{first_of, some_from, slices_match, setup_refusal, numbers_refusal}
use Rattle.rules.specs.Entries.{acceptance, ran}
use Rattle.rules.specs.Links.{has_process, linked}
use Rattle.rules.specs.declared.Setup.{Setup}
use Rattle.rules.specs.declared.Store.{Store}
use Rattle.rules.proofs.Refusals.{judge_refusal_iff}
use Rattle.rules.proofs.Stores.{fresh_store-fits, fits-put_holder, fits-put_content, fits-put_mark}
use Rattle.lists.specs.Lists.{answer_width, in_numbers, end_of, answers_over, refusal10_of_list, refusal11_of_list, list_refusal}
use Rattle.lists.proofs.Lists.{list_judged, listed_runs, room_runs}
use Rattle.chains.specs.Chains.{lowest, nearer, reach, next_desk, walk, chain_of}
use Rattle.demand.specs.Routes.{onward, route_calls}
use Rattle.routes.specs.Reports.{route_refusal, told_by, with_route, routed, room_after}
use Rattle.views.specs.Case8.{setup8}
use Rattle.trial.specs.Trials.{setup_q, in_use, in_pairs, answers_room, written_into, Answers, Leaves, Reports, Case, ComesOut, EachComesOut, case1, twelve}

-- every definition that a case computes with
unfoldable computes : Bool
unfolding every some_below table within_sizes entry_fits row_fits rights_fit desks_fit classes_fit accepted given_right setup_from
    some_from slices_match setup_refusal acceptance may_read may_write fresh_store holder_fits mark_fits call_of goes_through effect says
    answer_to next_store numbers_refusal ran after answers_where calls_of in_quads in_numbers has_process linked lowest nearer reach
    next_desk walk chain_of onward route_calls route_refusal told_by with_route routed room_after in_use in_pairs Reports
computes = true

-- neither 10 nor 11 is held against the list
abbrev Whole : List ℕ → Type 0
Whole list = first_of (refusal10_of_list (length list) ∷ refusal11_of_list (length list) (length answers_room) ∷ []) ≡ 0

-- its run writes the answers into the room
abbrev Comes : Setup → Store → List ℕ → List ℕ → Type 0
Comes s m list expected = in_numbers (answers_over s m (calls_of list)) ++ drop (calls_in list * answer_width) answers_room ≡ written_into expected answers_room

-- on an accepted setup and a store that fits, a list of whole calls comes out as its run does
module _ (s : Setup) (m : Store) (a : accepted s ≡ true) (f : fits s m ≡ true) (list : List ℕ)
    (whole : Whole list) where
  unrefused : list_refusal s m (length list) (length answers_room) ≡ 0
  unrefused = list_judged s m (length list) (length answers_room) ((judge_refusal_iff s m).1 (a, f)) ∙ whole

  answers : (expected : List ℕ) → Comes s m list expected → Answers s m list expected
  unfolding Answers
  answers expected e = (rw (listed_runs s m list answers_room unrefused), room_runs s m list answers_room unrefused ∙ e)

  leaves : (left : Store) → end_of s m (calls_of list) ≡ left → Leaves s m list left
  unfolding Leaves
  leaves left e = rw (listed_runs s m list answers_room unrefused) e

-- setup Q and case 8's are accepted
abbrev pub q : Setup
q = (acceptance setup_q).setup

abbrev pub eight : Setup
eight = (acceptance setup8).setup

pub q-accepted : accepted q ≡ true
unfolding computes
q-accepted = refl

pub eight-accepted : accepted eight ≡ true
unfolding computes
eight-accepted = refl

-- the store of case 12 fits Q, and is not fresh
in_use-fits : fits q in_use ≡ true
unfolding computes
in_use-fits =
    let written = fits-put_content q fresh_store 0 (omega arith) (fresh_store-fits q) (written_to blank_content 5) refl in
    fits-put_mark q _ 0 (omega arith) (fits-put_holder q _ 0 (omega arith) written (0 + 1) refl) 1 1 (omega arith) refl

pub in_use-not_fresh : in_use ≢ fresh_store
unfolding in_use fresh_store
in_use-not_fresh e = let h = ap (λ (m : Store). holder_of m 0) e in omega arith

-- a list of calls on a fresh store of Q, and of case 8's setup
on_q : (list expected : List ℕ) → Whole list → Comes q fresh_store list expected → Answers q fresh_store list expected
on_q list expected w e = answers q fresh_store q-accepted (fresh_store-fits q) list w expected e

on_eight : (list expected : List ℕ) → Whole list → Comes eight fresh_store list expected → Answers eight fresh_store list expected
on_eight list expected w e = answers eight fresh_store eight-accepted (fresh_store-fits eight) list w expected e

-- a list of calls on the store of case 12
on_used : (list expected : List ℕ) → Whole list → Comes q in_use list expected → Answers q in_use list expected
on_used list expected w e = answers q in_use q-accepted in_use-fits list w expected e

in_use_stays : Leaves q in_use (in_quads []) in_use
unfolding computes
in_use_stays = leaves q in_use q-accepted in_use-fits _ refl _ refl

-- one case, and then the rest
infixr 5 ◌then◌
◌then◌ : {A B : Type 0} → A → B → A × B
a then b = (a, b)

pub all_come_out : EachComesOut twelve
unfolding computes
all_come_out =
    on_q _ _ refl refl then on_q _ _ refl refl then on_q _ _ refl refl then on_q _ _ refl refl then on_q _ _ refl refl
    then on_q _ _ refl refl then on_q _ _ refl refl then on_q _ _ refl refl then on_eight _ _ refl refl
    then on_eight _ _ refl refl then (refl, refl, refl) then (refl, refl, refl) then on_q _ _ refl refl then on_q _ _ refl refl then (refl, refl, refl)
    then (refl, refl, refl) then (refl, refl, refl) then (refl, refl, refl) then (on_used _ _ refl refl, in_use_stays) then on_used _ _ refl refl then tt

-- so each does, by its place in the table
at_place : (table : List Case) → EachComesOut table → (k : ℕ) → k < length table → ComesOut (get_or table k case1)
at_place [] h k l = absurd (not-suc-le-zero l)
at_place (c ∷ rest) h zero l = h.0
at_place (c ∷ rest) h (suc k) l = at_place rest h.1 k (le_of_suc-le-suc l)

pub comes_out : (k : ℕ) → k < length twelve → ComesOut (get_or twelve k case1)
comes_out = at_place twelve all_come_out

-- neither setup is refused
pub q_unrefused : (acceptance setup_q).refusal ≡ 0
unfolding computes
q_unrefused = refl

pub eight_unrefused : (acceptance setup8).refusal ≡ 0
unfolding computes
eight_unrefused = refl

-- the store of case 12 is left by the program's five calls on a fresh store
pub in_use_left : Leaves q fresh_store (3 ∷ 0 ∷ 0 ∷ 0 ∷ 2 ∷ 0 ∷ 0 ∷ 5 ∷ 4 ∷ 0 ∷ 0 ∷ 0 ∷ 5 ∷ 1 ∷ 0 ∷ 0 ∷ 3 ∷ 0 ∷ 0 ∷ 0 ∷ []) in_use
unfolding computes
in_use_left = leaves q fresh_store q-accepted (fresh_store-fits q) _ refl _ refl
