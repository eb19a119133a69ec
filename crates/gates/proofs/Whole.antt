-- Laws of the gate report as a whole: when it is refused, and what its answer and its room are in each case.
-- Assumes nothing.
use Prim.Native.Nat.{ℕ, ◌<◌}
use mathlib.Core.Path.{◌≡◌, ap, sym, ◌∙◌}
use mathlib.Core.Bool.{true, false, ◌||◌}
use mathlib.Core.Logic.{◌≢◌, ◌⊎◌, inl, inr}
use mathlib.Core.List.{List}
use native.Mathlib.Omega.{arith}
use borrow.Author.Tests.{ltb-false, leb-false, eqb-false, not-false}
use lib.Dec.{leb, eqb}
use lib.ListN.{length}
use Rattle.std.specs.Prelude.{Option, Some, None, Ok, Err}
use Rattle.rules.specs.Setups.{accepted}
use Rattle.rules.specs.Refusals.{number_of, numbered}
use Rattle.rules.specs.Answers.{told_numbers_of}
use Rattle.rules.specs.declared.Setup.{Setup}
use Rattle.rules.specs.declared.refusal.Refusal.{Refusal}
use Rattle.rules.proofs.Lists.{by_test, neither}
use Rattle.rules.proofs.Refusals.{unmet_iff}
use Rattle.rules.proofs.Told.{unless_refused}
use Rattle.rules.proofs.RefusalNumbers.{unless_numbered, numbered_refused}
use Rattle.chains.specs.Chains.{Links}
use Rattle.routes.specs.Reports.{told_by, with_route}
use Rattle.routes.specs.Writers.{calls_along}
use Rattle.routes.proofs.Reports.{way_by}
use Rattle.routes.proofs.Reports as route
use Rattle.gates.specs.Gates.{gate_order, gate_refusal, links_around, gated, room_after}

-- none of the three is D or more, and no two of them are equal
record Three (s : Setup) (a b c : ℕ) : Type 0 where
  from : a < s.desks
  onto : b < s.desks
  gate : c < s.desks
  apart : a ≢ b
  from_gate : a ≢ c
  onto_gate : b ≢ c

three : (s : Setup) (a b c : ℕ) → (leb s.desks a || leb s.desks b || leb s.desks c ≡ false) → (eqb a b || eqb a c || eqb b c ≡ false) → Three s a b c
three s a b c twelve thirteen =
    let desks = (neither _ _).0 twelve in
    let both = (neither _ _).0 desks.0 in
    let pairs = (neither _ _).0 thirteen in
    let first = (neither _ _).0 pairs.0 in
    record {
      from = leb-false _ _ both.0;
      onto = leb-false _ _ both.1;
      gate = leb-false _ _ desks.1;
      apart = eqb-false _ _ first.0;
      from_gate = eqb-false _ _ first.1;
      onto_gate = eqb-false _ _ pairs.1;
    }

-- a gate that is not refused has what a route from a to b asks, and a desk beside the two
pub record Sound (s : Setup) (a b c room : ℕ) : Type 0 where
  pub route : route.Sound s a b room
  pub gate : c < s.desks
  pub from_gate : a ≢ c
  pub onto_gate : b ≢ c

pub gate_sound : (s : Setup) (a b c room : ℕ) → gate_refusal s a b c room ≡ 0 → Sound s a b c room
unfolding gate_refusal
gate_sound s a b c room e =
    let u = (unmet_iff (gate_order s a b c room) (omega arith)).0 e in
    let t = three s a b c u.1.0 u.1.1.0 in
    record {
      route = record { setup = not-false _ u.0; from = t.from; onto = t.onto; apart = t.apart; spacious = ltb-false _ _ u.1.1.1.0 };
      gate = t.gate;
      from_gate = t.from_gate;
      onto_gate = t.onto_gate;
    }

-- with fewer than three desks it is 12 or 13 always
pub few_desks : (s : Setup) (a b c room : ℕ) → accepted s ≡ true → s.desks < 3 → (gate_refusal s a b c room ≡ 12) ⊎ (gate_refusal s a b c room ≡ 13)
unfolding gate_refusal
few_desks s a b c room e few =
    by_test (leb s.desks a || leb s.desks b || leb s.desks c) (λ t. inl (rw (e, t)))
    (λ t.
    by_test (eqb a b || eqb a c || eqb b c) (λ u. inr (rw (e, t, u)))
    (λ u. let h = three s a b c t u in absurd (omega (arith, few, h.from, h.onto, h.gate, h.apart, h.from_gate, h.onto_gate))))

module _ (s : Setup) (a b c : ℕ) (room : List ℕ) where
  -- a refused gate writes nothing
  module _ (h : gate_refusal s a b c (length room) ≢ 0) where
    pub gated_refused : gated s a b c (length room) ≡ Err (gate_refusal s a b c (length room))
    unfolding gated
    gated_refused = unless_refused _ _ _ h

    pub room_refused : room_after s a b c room ≡ room
    unfolding room_after
    room_refused = unless_refused _ _ _ h

  -- and else the way around the gate is told, and written if there is one
  module _ (e : gate_refusal s a b c (length room) ≡ 0) where
    pub gated_is : gated s a b c (length room) ≡ Ok (told_by (links_around s c) a b Some None)
    unfolding gated
    gated_is = rw e

    pub room_is : room_after s a b c room ≡ with_route s (links_around s c) a b room
    unfolding room_after
    room_is = rw e

module _ (s : Setup) (a b c : ℕ) (room : List ℕ) where
  -- so it is of a refusal
  module _ (r : Refusal) (e : number_of r ≡ gate_refusal s a b c (length room)) where
    pub refused_told : numbered {A = Option ℕ} (Err r) ≡ gated s a b c (length room)
    unfolding gated
    refused_told = numbered_refused r _ _ e

    pub refused_numbers : told_numbers_of (numbered {A = Option ℕ} (Err r)) ≡ told_numbers_of (gated s a b c (length room))
    refused_numbers = ap told_numbers_of refused_told

    pub refused_kept : room ≡ room_after s a b c room
    unfolding room_after
    refused_kept = sym (unless_numbered r _ _ _ e)

  -- and of what a way by the links around the gate gives
  pub way_gated : {links : Links} → links ≡ links_around s c → 0 ≡ gate_refusal s a b c (length room) → {calls : Option ℕ} {after : List ℕ}
      → (calls ≡ calls_along links a b) × (after ≡ with_route s links a b room) → (Ok calls ≡ gated s a b c (length room)) × (after ≡ room_after s a b c room)
  way_gated q e h = let way = way_by s a b room q h in (ap Ok way.0 ∙ sym (gated_is s a b c room (sym e)), way.1 ∙ sym (room_is s a b c room (sym e)))
