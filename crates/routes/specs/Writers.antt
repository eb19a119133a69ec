-- For the search by a table of links and the writer of the list, which are no entries: what they ask, how many calls there are, and calls put
-- into a list.
use Rattle.std.specs.Prelude.{ℕ, ◌+◌, ◌<◌, ◌≤◌, ◌≡◌, true, ◌≢◌, List, length, get_or, Option, Some, None}
use Rattle.rules.specs.Sizes.{most_desks}
use Rattle.rules.specs.Setups.{accepted}
use Rattle.rules.specs.Links.{linked}
use Rattle.rules.specs.declared.Numbers.{Numbers}
use Rattle.rules.specs.declared.Setup.{Setup}
use Rattle.lists.specs.Writers.{with_calls}
use Rattle.chains.specs.Chains.{Links, is_chain, most_links, walk}
use Rattle.reaching.specs.Tables.{most_pairs, links_in}
use Rattle.routes.specs.Reports.{most_route_numbers, told_by}
use Rattle.routes.specs.declared.writing.CallList.{CallList}

-- how many calls show the way from a to b by some links; none where there is no chain
abbrev pub calls_along : Links → ℕ → ℕ → Option ℕ
calls_along links a b = told_by links a b Some None

-- links that are all a setup's own
abbrev pub Own : Setup → Links → Type 0
Own s links = (d e : ℕ) → links d e ≡ true → linked s d e ≡ true

-- the links of a table are a setup's own, a and b are two desks, and there is room for the longest list
pub record Asked (s : Setup) (links : List ℕ) (a b : ℕ) (room : List ℕ) : Type 0 where
  pub setup : accepted s ≡ true
  pub long : length links ≡ most_pairs
  pub own : Own s (links_in links)
  pub from : a < most_desks
  pub onto : b < most_desks
  pub apart : a ≢ b
  pub spacious : most_route_numbers ≤ length room

-- the desks after a by a table of links, as many as stand links between a and the end
abbrev pub walked : List ℕ → List ℕ → ℕ → List ℕ
walked links to a = walk (links_in links) to a (get_or to a 0)

-- a walk from a is a chain of a setup's links, with a link at least, and there is room for the longest list
pub record Ready (s : Setup) (links to : List ℕ) (a : ℕ) (room : List ℕ) : Type 0 where
  pub setup : accepted s ≡ true
  pub long : length links ≡ most_pairs
  pub own : Own s (links_in links)
  pub numbers : length to ≡ most_desks
  pub from : a < most_desks
  pub end : ℕ
  pub chain : is_chain (links_in links) a end (walked links to a) ≡ true
  pub some : 0 < get_or to a 0
  pub few : get_or to a 0 ≤ most_links
  pub spacious : most_route_numbers ≤ length room

-- what a list is once calls are put after those that it has: in the same room, which has them now, and past them
pub record Put (l : CallList) (calls : List Numbers) (m : CallList) : Type 0 where
  pub same : m.room.ghost_name ≡ l.room.ghost_name
  pub many : m.calls ≡ l.calls + length calls
  pub put : m.room.now ≡ with_calls l.room.now l.calls calls
