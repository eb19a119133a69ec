-- 01, "The route report": a desk's lowest process and a link's lowest file; over any links chains, how few links reach a desk, and the
-- chain that the report takes. 02, Req 04: the links among the desks that act.
use Rattle.std.specs.Prelude.{ℕ, zero, suc, ◌-◌, ◌≤◌, ◌≡◌, Bool, true, false, not, ◌&&◌, cond, List, [], ◌∷◌, ltb, eqb, get_or, length}
use Rattle.rules.specs.Sizes.{most_desks, some_below, table}
use Rattle.rules.specs.Setups.{desk_of}
use Rattle.rules.specs.Links.{serves}
use Rattle.rules.specs.declared.Setup.{Setup}

-- the lowest number below n of which the condition holds, and n where there is none
unfoldable pub lowest : ℕ → (ℕ → Bool) → ℕ
lowest zero p = zero
lowest (suc n) p = cond (p zero) zero (suc (lowest n (λ k. p (suc k))))

-- "Each desk acts by its lowest process"
abbrev pub process_at : Setup → ℕ → ℕ
process_at s d = lowest s.processes (λ p. eqb (desk_of s p) d)

-- "each link uses the lowest file that serves it"
abbrev pub file_for : Setup → ℕ → ℕ → ℕ
file_for s d e = lowest s.files (serves s d e)

-- links between desks: whether one runs from the first to the second. 01's links of a setup are `linked` of it. What is said below of
-- the fewest links and of the chain taken is so of links that run among numbers below most_desks, as those do (`linked_among_most`, `acting_most`)
abbrev pub Links : Type 0
Links = ℕ → ℕ → Bool

-- the desks that act, told by a test; for Req 04 "the desks other than C"
abbrev pub Acting : Type 0
Acting = ℕ → Bool

abbrev pub others : ℕ → Acting
others c d = not (eqb d c)

-- the links that run from a desk that acts to a desk that acts
abbrev pub links_among : Acting → Links → Links
links_among acting links d e = acting d && acting e && links d e

-- "a chain of links from A to B", as the desks after A: it has as many links as it has desks
unfoldable pub is_chain : Links → ℕ → ℕ → List ℕ → Bool
is_chain links a b [] = eqb a b
is_chain links a b (d ∷ rest) = links a d && is_chain links d b rest

-- the desk at place i of a chain from a, which stands at place 0; for laws
abbrev pub desk_at : ℕ → List ℕ → ℕ → ℕ
desk_at a xs i = get_or (a ∷ xs) i 0

-- "A route is a chain of links from A to B"; the chain with no link leads from a desk to itself, a pair that refusal 13 rules out
pub record HasRoute (links : Links) (a b : ℕ) : Type 0 where
  pub through : List ℕ
  pub chain : is_chain links a b through ≡ true

-- "reached in at most n links when a chain that short exists"
pub record ReachedIn (links : Links) (a b n : ℕ) : Type 0 where
  pub through : List ℕ
  pub chain : is_chain links a b through ≡ true
  pub short : length through ≤ n

-- a chain from a to b, and none has fewer links
pub record Fewest (links : Links) (a b : ℕ) (xs : List ℕ) : Type 0 where
  pub chain : is_chain links a b xs ≡ true
  pub fewest : (ys : List ℕ) → is_chain links a b ys ≡ true → length xs ≤ length ys

-- the first list has "the smallest desk number at the first difference"
unfoldable pub is_before : List ℕ → List ℕ → Bool
is_before [] ys = false
is_before (x ∷ xs) [] = false
is_before (x ∷ xs) (y ∷ ys) = cond (eqb x y) (is_before xs ys) (ltb x y)

-- "The report takes the fewest links k; among those, the chain with the smallest desk number at the first difference"
pub record Taken (links : Links) (a b : ℕ) (xs : List ℕ) : Type 0 where
  pub of_fewest : Fewest links a b xs
  pub first : (ys : List ℕ) → is_chain links a b ys ≡ true → length ys ≡ length xs → is_before ys xs ≡ false

-- the most links that a chain needs
abbrev pub most_links : ℕ
most_links = most_desks - 1

-- a number past every number of links that a chain needs
abbrev pub far : ℕ
far = most_desks

-- a link runs from d to e, and e stands k links from the end
abbrev pub leads : Links → List ℕ → ℕ → ℕ → ℕ → Bool
leads links to d k e = links d e && eqb (get_or to e far) k

-- the number that stood at d, and where none did one more than n if d has a link to a desk that stands n links from the end
unfoldable pub nearer : Links → List ℕ → ℕ → ℕ → ℕ
nearer links before n d = cond (ltb (get_or before d far) far) (get_or before d far) (cond (some_below most_desks (leads links before d n)) (suc n) far)

-- for each desk the fewest links in which it reaches b, as far as n, else a number past them
unfoldable pub reach : Links → ℕ → ℕ → List ℕ
reach links b zero = table most_desks (λ d. cond (eqb d b) 0 far)
reach links b (suc n) = table most_desks (nearer links (reach links b n) n)

-- "the fewest links" from desk a to desk b, or `far` where there is no chain
abbrev pub fewest_links : Links → ℕ → ℕ → ℕ
fewest_links links a b = get_or (reach links b most_links) a far

-- the lowest desk that has a link from d and stands k links from the end
unfoldable pub next_desk : Links → List ℕ → ℕ → ℕ → ℕ
next_desk links to d k = lowest most_desks (leads links to d k)

-- the k desks after d, each one link nearer to the end
unfoldable pub walk : Links → List ℕ → ℕ → ℕ → List ℕ
walk links to d zero = []
walk links to d (suc k) = next_desk links to d k ∷ walk links to (next_desk links to d k) k

-- the chain that the report takes, where there is one
unfoldable pub chain_of : Links → ℕ → ℕ → List ℕ
chain_of links a b = walk links (reach links b most_links) a (fewest_links links a b)
