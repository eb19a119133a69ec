-- 02, Req 04, "Who stands at the gate": a report on desks a, b and a gate desk c. Its refusals, its answer, what the lent room holds after
-- it, and what it promises of the three desks.
use Rattle.std.specs.Prelude.{ℕ, ◌*◌, ◌≡◌, ◌||◌, List, [], ◌∷◌, leb, eqb, length, take, Option, Some, None, Result, Ok, Err}
use Rattle.rules.specs.Calls.{call_width, calls_of}
use Rattle.rules.specs.Refusals.{Ground, ◌gives◌, first_of, refusal15}
use Rattle.rules.specs.Entries.{unless}
use Rattle.rules.specs.Links.{linked}
use Rattle.rules.specs.declared.Setup.{Setup}
use Rattle.chains.specs.Chains.{Links, others, links_among, Taken}
use Rattle.demand.specs.Routes.{route_calls, calls_for}
use Rattle.demand.specs.Heard.{NoneOf, GuardedBy, Shows}
use Rattle.routes.specs.Reports.{refusal11_of_route, told_by, with_route}

-- "12 for any of the three"
abbrev pub refusal12_of_gate : Setup → ℕ → ℕ → ℕ → Ground
refusal12_of_gate s a b c = leb s.desks a || leb s.desks b || leb s.desks c gives 12

-- "13 when any two are equal"
abbrev pub refusal13_of_gate : ℕ → ℕ → ℕ → Ground
refusal13_of_gate a b c = eqb a b || eqb a c || eqb b c gives 13

-- "Refusals: 15; 12 ..; 13 ..; 11"; as decided, "the gate's room is the route's"
abbrev pub gate_order : Setup → ℕ → ℕ → ℕ → ℕ → List Ground
gate_order s a b c room = refusal15 s ∷ refusal12_of_gate s a b c ∷ refusal13_of_gate a b c ∷ refusal11_of_route room ∷ []

unfoldable pub gate_refusal : Setup → ℕ → ℕ → ℕ → ℕ → ℕ
gate_refusal s a b c room = first_of (gate_order s a b c room)

-- the links that the report goes by: those "over the desks other than C"
abbrev pub links_around : Setup → ℕ → Links
links_around s c = links_among (others c) (linked s)

-- the number of calls that show a difference; where no chain runs from a to b among the others, it is "guarded", which is none
unfoldable pub gated : Setup → ℕ → ℕ → ℕ → ℕ → Result (Option ℕ) ℕ
gated s a b c room =
    let r = gate_refusal s a b c room in
    unless r (Ok (told_by (links_around s c) a b Some None)) (Err r)

-- the list is written "by 01's route rules over the desks other than C"; "guarded" and a refusal write nothing
unfoldable pub room_after : Setup → ℕ → ℕ → ℕ → List ℕ → List ℕ
room_after s a b c room = unless (gate_refusal s a b c (length room)) (with_route s (links_around s c) a b room) room

-- n calls at the front of the room go around desk c
pub record GoesAround (s : Setup) (a b c n : ℕ) (room : List ℕ) : Type 0 where
  -- a chain from a to b of links among the others; none has fewer, and none of as many has the smaller desk at the first difference
  pub chain : List ℕ
  pub taken : Taken (links_around s c) a b chain
  -- they are the calls along the chain, "a list without calls from C"
  pub count : n ≡ calls_for (length chain)
  pub list : calls_of (take (n * call_width) room) ≡ route_calls s a chain
  pub silent : NoneOf s c (calls_of (take (n * call_width) room))
  -- run from a fresh store they let b hear a: its last answer is the figure 1, and "nothing" without a's calls
  pub shows : Shows s a b (calls_of (take (n * call_width) room))
  pub hears : ¬ GuardedBy s a b c

-- what each answer tells of the three desks; where it is "guarded", no list of calls in which c makes none lets b hear whether a's are in it
abbrev pub GateTells : Setup → ℕ → ℕ → ℕ → Result (Option ℕ) ℕ → List ℕ → Type 0
GateTells s a b c (Ok None) room = GuardedBy s a b c
GateTells s a b c (Ok (Some n)) room = GoesAround s a b c n room
GateTells s a b c (Err n) room = n ≡ gate_refusal s a b c (length room)
