-- 01, case 8: no link runs from desk 0, so nothing that it does changes an answer to desk 1.
-- Assumes nothing.
use Prim.Native.Nat.{ℕ, zero, suc}
use native.Mathlib.Omega.{arith}
use mathlib.Core.Path.{◌≡◌, refl, sym}
use mathlib.Core.Bool.{true, false≢true}
use mathlib.Core.Option.{Option, none, some}
use mathlib.Core.List.{List}
use Rattle.secrecy.specs.Machine.{answers_to}
use Rattle.secrecy.specs.Strike.{strike_desk}
use Rattle.secrecy.specs.Sets.{Desks, OfEither, of_H, of_L, of_nobody, Closed}
use Rattle.secrecy.proofs.Closed.{desk_unheard}
use Rattle.rules.specs.Sizes.{every, some_below, table}
use Rattle.rules.specs.Setups.{within_sizes, entry_fits, row_fits, rights_fit, desks_fit, classes_fit, accepted, given_right, setup_from}
use Rattle.rules.specs.Links.{desk_of_call, has_process, linked}
use Rattle.rules.specs.declared.Numbers.{Numbers}
use Rattle.rules.specs.declared.Store.{Store}
use Rattle.views.specs.Machine.{machine, linked_to}
use Rattle.views.specs.Views.{OfDesk}
use Rattle.views.specs.Case8.{case8}
use Rattle.views.proofs.Numbers.{of_desk}
use Rattle.views.proofs.Unwinding.{unwound}

pub case8-accepted : accepted case8 ≡ true
unfolding case8 setup_from table given_right accepted within_sizes rights_fit desks_fit classes_fit row_fits entry_fits every
case8-accepted = refl

abbrev Only : ℕ → Desks
Only u d = d ≡ u

closed : Closed (linked_to case8) (Only 0) (Only 1)
unfolding case8 setup_from table given_right linked has_process some_below every
closed = record { apart = λ d h l. omega arith; no_link = λ d u h l. rw (h, l) false≢true }

-- process n sits at desk n
sides : (n : Numbers) → OfEither (machine case8) (Only 0) (Only 1) n
unfolding case8 setup_from table
sides n = go (desk_of_call case8 n) refl
  where
    desk : {d p : ℕ} → OfDesk case8 d p → desk_of_call case8 n ≡ some d → OfEither (machine case8) (Only 0) (Only 1) n
    desk {d} {p = zero} o e = of_H (record { who = d; belongs = e; inside = sym o.sits })
    desk {d} {p = suc zero} o e = of_L (record { who = d; belongs = e; inside = sym o.sits })
    desk {d} {p = suc (suc p)} o e = absurd (omega arith)

    go : (o : Option ℕ) → desk_of_call case8 n ≡ o → OfEither (machine case8) (Only 0) (Only 1) n
    go none e = of_nobody e
    go (some d) e = desk (of_desk case8 n e) e

pub desk_0_unheard : (m : Store) (acts : List Numbers) →
    answers_to (machine case8) 1 m acts ≡ answers_to (machine case8) 1 m (strike_desk (machine case8) 0 acts)
desk_0_unheard m acts = desk_unheard (unwound case8 case8-accepted) closed 0 refl acts (λ n i. sides n) 1 refl m
