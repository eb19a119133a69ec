-- Demand 3, which 01 names under "What a reader may rely on": "no route" is said where desk B can never hear desk A, and a route is shown by
-- its list.
use Rattle.std.specs.Prelude.{ℕ, ◌*◌, ◌≡◌, List, length, take, Option, Some, None, Result, Ok, Err}
use Rattle.rules.specs.Calls.{call_width, calls_of}
use Rattle.rules.specs.Links.{linked}
use Rattle.rules.specs.declared.Setup.{Setup}
use Rattle.chains.specs.Chains.{Taken}
use Rattle.demand.specs.Routes.{route_calls, calls_for}
use Rattle.demand.specs.Heard.{Unheard, Shows}
use Rattle.routes.specs.Reports.{route_refusal}

-- n calls at the front of the room show a route from a to b
pub record ShownBy (s : Setup) (a b n : ℕ) (room : List ℕ) : Type 0 where
  -- a chain of links from a to b; none has fewer, and none of as many has the smaller desk at the first difference
  pub chain : List ℕ
  pub taken : Taken (linked s) a b chain
  -- "The list written has 4k+1 calls", and they are those along the chain
  pub count : n ≡ calls_for (length chain)
  pub list : calls_of (take (n * call_width) room) ≡ route_calls s a chain
  -- run from a fresh store they let b hear a: its last answer is the figure 1, and "nothing" without a's calls
  pub shows : Shows s a b (calls_of (take (n * call_width) room))
  pub hears : ¬ Unheard s a b

-- what each answer tells of desks a and b; where it is "no route", no list of calls lets b hear whether a's are in it
abbrev pub Demand3 : Setup → ℕ → ℕ → Result (Option ℕ) ℕ → List ℕ → Type 0
Demand3 s a b (Ok None) room = Unheard s a b
Demand3 s a b (Ok (Some n)) room = ShownBy s a b n room
Demand3 s a b (Err n) room = n ≡ route_refusal s a b (length room)
