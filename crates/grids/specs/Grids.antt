-- 02, Req 01, "The whole desk grid at once": its refusals, its answer, and what the lent room holds after it.
use Rattle.std.specs.Prelude.{ℕ, ◌+◌, ◌*◌, ◌/◌, ◌%◌, ◌<◌, ◌≤◌, ◌≡◌, cond, ◌↔◌, ◌≢◌, List, [], ◌∷◌, ◌++◌, ltb, eqb, length, get_or, drop, Some, None, Result, Ok, Err}
use Rattle.rules.specs.Sizes.{table}
use Rattle.rules.specs.Refusals.{Ground, ◌gives◌, first_of, refusal15}
use Rattle.rules.specs.Entries.{unless}
use Rattle.rules.specs.Links.{linked}
use Rattle.rules.specs.declared.Setup.{Setup}
use Rattle.chains.specs.Chains.{Links, far, fewest_links}
use Rattle.demand.specs.Routes.{calls_for}
use Rattle.demand.specs.Heard.{Unheard}
use Rattle.routes.specs.Reports.{most_route_numbers, routed}

-- "D x D numbers"
abbrev pub grid_length : Setup → ℕ
grid_length s = s.desks * s.desks

-- "when the grid is shorter than D x D"
abbrev pub refusal11_of_grid : Setup → ℕ → Ground
refusal11_of_grid s room = ltb room (grid_length s) gives 11

-- "Refusals: 15, then 11"
abbrev pub grid_order : Setup → ℕ → List Ground
grid_order s room = refusal15 s ∷ refusal11_of_grid s room ∷ []

unfoldable pub grid_refusal : Setup → ℕ → ℕ
grid_refusal s room = first_of (grid_order s room)

-- "0 for no route and for the diagonal, else the number of links"; `far` is no route
abbrev pub links_or_none : ℕ → ℕ
links_or_none k = cond (ltb k far) k 0

-- the number for desks a and b: it is made of the report's number of links, which from a desk to itself is 0
abbrev pub grid_number : Links → ℕ → ℕ → ℕ
grid_number links a b = links_or_none (fewest_links links a b)

-- as decided, "row A, column B: the number for A and B lies at A x D + B"
abbrev pub grid_place : ℕ → ℕ → ℕ → ℕ
grid_place desks a b = a * desks + b

-- so at place i stands row i / D, column i % D
unfoldable pub grid_over : Links → ℕ → List ℕ
grid_over links desks = table (desks * desks) (λ i. grid_number links (i / desks) (i % desks))

-- the answer is the count of the numbers, or the refusal
unfoldable pub gridded : Setup → ℕ → Result ℕ ℕ
gridded s room =
    let r = grid_refusal s room in
    unless r (Ok (grid_length s)) (Err r)

-- the grid fills the front of the room, and what lies past it keeps its values; a refusal writes nothing
unfoldable pub room_after : Setup → List ℕ → List ℕ
room_after s room = unless (grid_refusal s (length room)) (grid_over (linked s) s.desks ++ drop (grid_length s) room) room

-- what the number for two different desks tells
pub record NumberTells (s : Setup) (a b number : ℕ) : Type 0 where
  -- "Each entry must equal what the single report finds for that pair", in any room that is enough for a report
  pub report : (room : List ℕ) → most_route_numbers ≤ length room → routed s a b (length room) ≡ Ok (cond (eqb number 0) None (Some (calls_for number)))
  -- demand 3: it is 0 exactly where no list of calls lets b hear whether a's are in it
  pub unheard : (number ≡ 0) ↔ Unheard s a b

-- what the answer and the room tell of all desks
abbrev pub GridTells : Setup → Result ℕ ℕ → List ℕ → Type 0
GridTells s (Ok n) room = (a b : ℕ) → a < s.desks → b < s.desks → a ≢ b → NumberTells s a b (get_or room (grid_place s.desks a b) 0)
GridTells s (Err n) room = n ≡ grid_refusal s (length room)
