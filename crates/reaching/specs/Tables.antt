-- For the functions that look for links, which are no entries: a table of links, and the marks that it is made from.
use Rattle.std.specs.Prelude.{ℕ, ◌+◌, ◌*◌, ◌/◌, ◌%◌, Bool, false, ◌&&◌, cond, List, ltb, eqb, length, get_or}
use Rattle.rules.specs.Sizes.{most_desks, most_classes, some_below, table}
use Rattle.rules.specs.Setups.{has_r, has_w}
use Rattle.chains.specs.Chains.{Links}

-- a mark is 1 where something is so, else 0
abbrev pub mark : Bool → ℕ
mark so = cond so 1 0

abbrev pub is_marked : List ℕ → ℕ → Bool
is_marked marks i = eqb (get_or marks i 0) 1

-- for each number below n whether it stands among the entries
unfoldable pub marks_of : ℕ → List ℕ → List Bool
marks_of n entries = table n (λ k. some_below (length entries) (λ i. eqb (get_or entries i 0) k))

-- class t has a file, and is one that desk d may write and desk e may read
abbrev pub serving : List ℕ → List Bool → ℕ → ℕ → ℕ → Bool
serving rights filed d e t = get_or filed t false && has_w (get_or rights (d * most_classes + t) 0) && has_r (get_or rights (e * most_classes + t) 0)

abbrev pub is_served : List ℕ → List Bool → ℕ → ℕ → Bool
is_served rights filed d e = some_below most_classes (serving rights filed d e)

-- a link runs from d to e, as the rights, the marks of the desks that have a process and those of the classes that have a file tell it
abbrev pub linked_by : List ℕ → List Bool → List Bool → ℕ → ℕ → Bool
linked_by rights seats filed d e = get_or seats d false && get_or seats e false && is_served rights filed d e

-- a table of links has a mark for each desk and desk, row by the desk that a link runs from
abbrev pub most_pairs : ℕ
most_pairs = most_desks * most_desks

abbrev pub pairs_of : Links → List ℕ
pairs_of links = table most_pairs (λ i. mark (links (i / most_desks) (i % most_desks)))

-- the links of a table; none runs from or to a number that is no desk
unfoldable pub links_in : List ℕ → Links
links_in marks d e = ltb d most_desks && ltb e most_desks && is_marked marks (d * most_desks + e)
