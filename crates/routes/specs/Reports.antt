-- 01, "The route report": its refusals, its answer, and what the lent room holds after it.
use Rattle.std.specs.Prelude.{ℕ, ◌*◌, ◌||◌, cond, List, [], ◌∷◌, ◌++◌, ltb, leb, eqb, length, drop, Option, Some, None, Result, Ok, Err}
use Rattle.rules.specs.Calls.{call_width, in_quads}
use Rattle.rules.specs.Refusals.{Ground, ◌gives◌, first_of, refusal15}
use Rattle.rules.specs.Entries.{unless}
use Rattle.rules.specs.Links.{linked}
use Rattle.rules.specs.declared.Setup.{Setup}
use Rattle.chains.specs.Chains.{Links, most_links, far, fewest_links, chain_of}
use Rattle.demand.specs.Routes.{route_calls, calls_for}

-- "As k is at most 15, 61 calls or 244 numbers suffice"
abbrev pub most_route_numbers : ℕ
most_route_numbers = calls_for most_links * call_width

-- "route room below 244 numbers"
abbrev pub refusal11_of_route : ℕ → Ground
refusal11_of_route room = ltb room most_route_numbers gives 11

-- "a route desk is D or more"
abbrev pub refusal12 : Setup → ℕ → ℕ → Ground
refusal12 s a b = leb s.desks a || leb s.desks b gives 12

-- "the two route desks are equal"
abbrev pub refusal13 : ℕ → ℕ → Ground
refusal13 a b = eqb a b gives 13

-- "Route: 15, 12, 13, 11"
abbrev pub route_order : Setup → ℕ → ℕ → ℕ → List Ground
route_order s a b room = refusal15 s ∷ refusal12 s a b ∷ refusal13 a b ∷ refusal11_of_route room ∷ []

unfoldable pub route_refusal : Setup → ℕ → ℕ → ℕ → ℕ
route_refusal s a b room = first_of (route_order s a b room)

-- of some links, for the fewest links k from a to b: `some` of the number of calls that show it, or `none` where there is no chain
unfoldable pub told_by : {A : Type 0} → Links → ℕ → ℕ → (ℕ → A) → A → A
told_by links a b some none =
    let k = fewest_links links a b in
    cond (ltb k far) (some (calls_for k)) none

-- "The answer gives the number of calls"; where no chain runs from a to b it is "no route", which is none
unfoldable pub routed : Setup → ℕ → ℕ → ℕ → Result (Option ℕ) ℕ
routed s a b room =
    let r = route_refusal s a b room in
    unless r (Ok (told_by (linked s) a b Some None)) (Err r)

-- the list along the chain that is taken fills the front of the room, and what lies past it keeps its values; where there is no chain
-- nothing is written
unfoldable pub with_route : Setup → Links → ℕ → ℕ → List ℕ → List ℕ
with_route s links a b room = told_by links a b (λ n. in_quads (route_calls s a (chain_of links a b)) ++ drop (n * call_width) room) room

-- so "No route" writes nothing; nor does a refusal
unfoldable pub room_after : Setup → ℕ → ℕ → List ℕ → List ℕ
room_after s a b room = unless (route_refusal s a b (length room)) (with_route s (linked s) a b room) room
