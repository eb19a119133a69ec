-- What the numbers of the grid tell: the same as the report, and so what demand 3 says of the two desks.
-- Assumes nothing.
use Prim.Native.Nat.{ℕ, ◌/◌, ◌%◌, ◌<◌, ◌≤◌}
use mathlib.Core.Path.{◌≡◌, refl, ap, sym, ◌∙◌}
use mathlib.Core.Bool.{true}
use mathlib.Core.Logic.{◌↔◌, ◌≢◌, ⊎_elim}
use mathlib.Core.List.{List, []}
use native.Mathlib.Nat.{eq-or-lt_of_le}
use native.Mathlib.Omega.{arith}
use borrow.Author.Tests.{eqb-true, eqb-false, lt-ltb, le-ltb}
use lib.Dec.{eqb}
use lib.ListN.{length, get_or, drop, get_or-append}
use Rattle.std.specs.Prelude.{Some, None, Result, Ok}
use Rattle.rules.specs.Sizes.{most_desks, table}
use Rattle.rules.specs.Setups.{accepted}
use Rattle.rules.specs.Links.{linked}
use Rattle.rules.specs.Answers.{done_numbers_of}
use Rattle.rules.specs.declared.Setup.{Setup}
use Rattle.rules.proofs.Lists.{by_test}
use Rattle.rules.proofs.Setups.{accepted_sizes}
use Rattle.rules.proofs.Sizes.{length-table, get_or-table}
use Rattle.chains.specs.Chains.{Links, HasRoute, far, fewest_links, chain_of}
use Rattle.chains.proofs.Chains.{AmongDesks, chain_none, some_link}
use Rattle.chains.proofs.Walk.{chain_of-length, chain_of_taken}
use Rattle.chains.proofs.Enough.{by_way, fewest_links_iff, fewest_links_none}
use Rattle.chains.proofs.Acts.{linked_among_most}
use Rattle.demand.specs.Routes.{calls_for}
use Rattle.demand.specs.Heard.{Unheard}
use Rattle.demand.proofs.Exactly.{exactly}
use Rattle.routes.specs.Reports.{most_route_numbers, route_refusal, routed}
use Rattle.routes.proofs.Reports.{sound_unrefused, routed_none, routed_shown}
use Rattle.routes.proofs.Demands.{no_route_exactly}
use Rattle.grids.specs.Grids.{grid_length, grid_refusal, grid_number, grid_place, grid_over, gridded, room_after, NumberTells, GridTells}
use Rattle.grids.proofs.Squares.{row_told, column_told, place_lt}
use Rattle.grids.proofs.Whole.{grid_sound, gridded_refused, room_refused, gridded_filled, room_filled}

module _ (links : Links) (a b : ℕ) where
  near_number : fewest_links links a b < far → grid_number links a b ≡ fewest_links links a b
  near_number h = rw (lt-ltb (fewest_links links a b) far h)

  far_number : far ≤ fewest_links links a b → grid_number links a b ≡ 0
  far_number h = rw (le-ltb (fewest_links links a b) far h)

module _ {links : Links} (among : AmongDesks most_desks links) (a : ℕ) (l : a < most_desks) where
  -- "0 for .. the diagonal": a desk reaches itself in no link
  pub diagonal : grid_number links a a ≡ 0
  diagonal =
      let own = (chain_none links a a).1 refl in
      let near = (fewest_links_iff among a a l).1 (record { through = []; chain = own }) in
      let none = (chain_of_taken among a a l near).of_fewest.fewest [] own in
      near_number links a a near ∙ omega (arith, none, chain_of-length links a a)

  -- "0 for no route", and for two different desks for nothing else
  pub none_iff : (b : ℕ) → a ≢ b → (grid_number links a b ≡ 0) ↔ (¬ HasRoute links a b)
  none_iff b apart = (
    λ z r.
        let near = (fewest_links_iff among a b l).1 r in
        let some = some_link links a b (chain_of links a b) (chain_of_taken among a b l near).of_fewest.chain apart in
        omega (arith, z, near_number links a b near, some, chain_of-length links a b),
    λ none. far_number links a b (omega (arith, (fewest_links_none among a b l).1 none)),
  )

-- what the run holds for desks a and b after the grid
abbrev pub entry_for : Setup → List ℕ → ℕ → ℕ → ℕ
entry_for s run a b = get_or (room_after s run) (grid_place s.desks a b) 0

-- of a grid that is not refused: its setup is accepted, and the run is long enough
module _ (s : Setup) (run : List ℕ) (unrefused : grid_refusal s (length run) ≡ 0) where
  sound : accepted s ≡ true
  sound = (grid_sound s (length run) unrefused).setup

  is_desk : (a : ℕ) → a < s.desks → a < most_desks
  is_desk a l = omega (arith, l, (accepted_sizes s sound).of_desks.high)

  entry_is : (a b : ℕ) → a < s.desks → b < s.desks → entry_for s run a b ≡ grid_number (linked s) a b
  unfolding grid_over
  entry_is a b l m =
      let n = grid_length s in
      let i = grid_place s.desks a b in
      let number : ℕ → ℕ = λ k. grid_number (linked s) (k / s.desks) (k % s.desks) in
      let inside = place_lt s.desks a b m l in
      ap (λ (xs : List ℕ). get_or xs i 0) (room_filled s run unrefused)
      ∙ get_or-append (table n number) (drop n run) 0 i (omega (arith, inside, length-table n number))
      ∙ get_or-table n number i 0 inside
      ∙ cc (row_told s.desks a b m, column_told s.desks a b m)

  -- for a desk and itself the entry is 0
  pub own_entry : (a : ℕ) → a < s.desks → entry_for s run a a ≡ 0
  own_entry a l = entry_is a a l l ∙ diagonal (linked_among_most s sound) a (is_desk a l)

  module _ (a b : ℕ) (from : a < s.desks) (onto : b < s.desks) (apart : a ≢ b) where
    same : entry_for s run a b ≡ grid_number (linked s) a b
    same = entry_is a b from onto

    -- for two different desks it is 0 exactly where no list of calls lets desk b hear desk a
    pub unheard_iff : (entry_for s run a b ≡ 0) ↔ Unheard s a b
    unheard_iff =
        let none = none_iff (linked_among_most s sound) a (is_desk a from) b apart in
        let heard = exactly s sound a b (is_desk a from) apart in
        (λ z. heard.1 (none.0 (sym same ∙ z)), λ u. same ∙ none.1 (heard.0 u))

    module _ (room : List ℕ) (spacious : most_route_numbers ≤ length room) where
      -- the report on the two desks is not refused
      reported : route_refusal s a b (length room) ≡ 0
      reported = sound_unrefused (record { setup = sound; from = from; onto = onto; apart = apart; spacious = spacious })

      -- 0 exactly where the report answers "no route"
      pub no_route_iff : (entry_for s run a b ≡ 0) ↔ (routed s a b (length room) ≡ Ok None)
      no_route_iff =
          let report = no_route_exactly s a b room reported in (λ z. report.1 (unheard_iff.0 z), λ q. unheard_iff.1 (report.0 q))

      -- and k links exactly where the report answers a route of so many calls
      pub route_iff : (k : ℕ) → 0 < k → (entry_for s run a b ≡ k) ↔ (routed s a b (length room) ≡ Ok (Some (calls_for k)))
      route_iff k some =
          let fewest = fewest_links (linked s) a b in
          by_way (linked s) a b
          (λ near.
          let links = same ∙ near_number (linked s) a b near in
          let shown = routed_shown s a b room reported near in (
            λ q. shown ∙ ap (λ (n : ℕ). Ok (Some (calls_for n))) (sym links ∙ q),
            λ q. let calls : calls_for fewest ≡ calls_for k = cc (shown, q) in omega (arith, links, calls),
          ))
          (λ past. (
            λ q. absurd (omega (arith, some, q, same, far_number (linked s) a b past)),
            λ q.
                let kinds : ◌≡◌ {A = ℕ} 0 1 = cc (routed_none s a b room reported past, q) in
                absurd (omega arith),
          ))

    -- so the report's answer is read off the entry, and whether desk b can hear desk a
    pub entry_tells : NumberTells s a b (entry_for s run a b)
    entry_tells =
        let k = entry_for s run a b in
        record {
          report = λ room spacious.
              by_test (eqb k 0) (λ t. rw t ((no_route_iff room spacious).0 (eqb-true k 0 t)))
              (λ t. rw t ((route_iff room spacious k (omega (arith, eqb-false k 0 t))).0 refl));
          unheard = unheard_iff;
        }

-- the answer, and the room as the grid leaves it, tell what they promise of all desks
pub grid_tells : (s : Setup) (room : List ℕ) → GridTells s (gridded s (length room)) (room_after s room)
grid_tells s room =
    ⊎_elim (λ z. rw (gridded_filled s room (sym z)) (entry_tells s room (sym z)))
    (λ h.
    let given : grid_refusal s (length room) ≢ 0 = λ z. omega (arith, h, z) in
    rw (gridded_refused s room given, room_refused s room given))
    (eq-or-lt_of_le (omega arith))

-- so an answer and a room that are the grid's keep all that it promises
pub promised : (s : Setup) (was : List ℕ) {after : List ℕ} {r : Result ℕ ℕ} → r ≡ gridded s (length was) → after ≡ room_after s was
    → record { value : r ≡ gridded s (length was); room : after ≡ room_after s was; demand3 : GridTells s r after; numbers : done_numbers_of r ≡ done_numbers_of (gridded s (length was)) }
promised s was e w = record { value = e; room = w; demand3 = rw (e, w) (grid_tells s was); numbers = ap done_numbers_of e }
