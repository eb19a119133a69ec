-- Laws of the list that shows a route: how many calls it has, and that each is four 32-bit numbers and a desk's that acts.
-- Assumes nothing.
use Prim.Native.Nat.{ℕ, ◌+◌, ◌<◌, ◌≤◌}
use mathlib.Core.Path.{◌≡◌, refl, sym, subst, ◌∙◌}
use mathlib.Core.Bool.{true}
use mathlib.Core.Logic.{⊎_elim}
use mathlib.Core.List.Memᴰ
use mathlib.Core.List.{List, [], ◌∷◌}
use mathlib.Core.Option.{some}
use native.Mathlib.Omega.{arith}
use lib.ListN.{length}
use Rattle.secrecy.specs.Sets.{Every}
use Rattle.rules.specs.Setups.{accepted}
use Rattle.rules.specs.Calls.{Is32, numbers}
use Rattle.rules.specs.Links.{desk_of_call, linked}
use Rattle.rules.specs.declared.Numbers.{Numbers}
use Rattle.rules.specs.declared.Setup.{Setup}
use Rattle.rules.proofs.Setups.{accepted_sizes}
use Rattle.rules.proofs.Links.{desk_of_call_some}
use Rattle.chains.specs.Chains.{Acting, process_at, file_for, is_chain, Fewest, most_links}
use Rattle.chains.proofs.Chains.{chain_first, links_among_iff}
use Rattle.chains.proofs.Enough.{fewest_most}
use Rattle.chains.proofs.Acts.{linked_among, acting_most, ActsBy, link_acts}
use Rattle.demand.specs.Routes.{onward, route_calls, calls_for}

-- from a desk on there is one call more than its links ask for, the OPEN of the link before it
onward-length : (s : Setup) (d f : ℕ) (rest : List ℕ) → length (onward s d f rest) ≡ calls_for (length rest) + 1
unfolding onward
onward-length s d f [] = refl
onward-length s d f (u ∷ rest) = omega (arith, onward-length s u (file_for s d u) rest)

-- "The list written has 4k+1 calls"
pub route_calls-length : (s : Setup) (a : ℕ) (xs : List ℕ) → 0 < length xs → length (route_calls s a xs) ≡ calls_for (length xs)
unfolding route_calls
route_calls-length s a [] h = absurd (omega arith)
route_calls-length s a (d ∷ rest) h = omega (arith, onward-length s d (file_for s a d) rest)

-- "As k is at most 15, 61 calls .. suffice"
pub route_calls_most : (s : Setup) → accepted s ≡ true → (acting : Acting) {a b : ℕ} {xs : List ℕ} → Fewest (linked_among s acting) a b xs
    → length (route_calls s a xs) ≤ calls_for most_links
unfolding route_calls
route_calls_most s e acting {xs = []} h = omega arith
route_calls_most s e acting {a} {xs = d ∷ rest} h =
    omega (arith, route_calls-length s a (d ∷ rest) (omega arith), fewest_most (acting_most s e acting) h)

-- the call belongs to a desk that acts, or to none
abbrev pub ByActing : Setup → Acting → Numbers → Type 0
ByActing s acting n = (d : ℕ) → desk_of_call s n ≡ some d → acting d ≡ true

-- so does every call of a list
abbrev pub OfActing : Setup → Acting → List Numbers → Type 0
OfActing s acting calls = Every (ByActing s acting) calls

-- the call does, and is four 32-bit numbers
pub record Allowed (s : Setup) (acting : Acting) (n : Numbers) : Type 0 where
  pub small : Is32 n
  pub by : ByActing s acting n

module _ (s : Setup) (acting : Acting) where
  -- no call, and one call more
  none_allowed : Every (Allowed s acting) []
  none_allowed n m = absurd (Memᴰ.not-nil m)

  more_allowed : {n : Numbers} {acts : List Numbers} → Allowed s acting n → Every (Allowed s acting) acts → Every (Allowed s acting) (n ∷ acts)
  more_allowed h k n m = ⊎_elim (λ q. subst (Allowed s acting) (sym q) h) (k n) (Memᴰ.cases_cons m)

module _ (s : Setup) (acting : Acting) {d : ℕ} (acts : acting d ≡ true) (own : ActsBy s d (process_at s d)) where
  -- one call more of the process by which such a desk acts
  own_more : {code f x : ℕ} {calls : List Numbers} → Is32 (numbers code (process_at s d) f x) → Every (Allowed s acting) calls
      → Every (Allowed s acting) (numbers code (process_at s d) f x ∷ calls)
  own_more h = more_allowed s acting (record { small = h; by = λ u q. rw (sym own.sits ∙ ((desk_of_call_some s _ u).0 q).1) at acts })

module _ (s : Setup) (e : accepted s ≡ true) (acting : Acting) where
  onward_allowed : (b : ℕ) (rest : List ℕ) (d f : ℕ)
      → is_chain (linked_among s acting) d b rest ≡ true → acting d ≡ true → ActsBy s d (process_at s d) → f < s.files → Every (Allowed s acting) (onward s d f rest)
  unfolding onward
  onward_allowed b [] d f h acts own on =
      let sizes = accepted_sizes s e in
      own_more s acting acts own (omega arith) (own_more s acting acts own (omega arith) (none_allowed s acting))
  onward_allowed b (u ∷ rest) d f h acts own on =
      let sizes = accepted_sizes s e in
      let (l, r) = (chain_first (linked_among s acting) d b u rest).0 h in
      let (_, acts-too, is-link) = (links_among_iff acting (linked s) d u).0 l in
      let k = link_acts s d u is-link in
      own_more s acting acts own (omega arith)
      (own_more s acting acts own (omega arith)
      (own_more s acting acts own (omega arith)
      (own_more s acting acts own (omega arith) (onward_allowed b rest u (file_for s d u) r acts-too k.to k.by.exists))))

  -- each process of the list exists and sits at a desk of the chain, and each file exists: so a list may hold every call in it
  pub route_calls_allowed : (a b : ℕ) (xs : List ℕ) → is_chain (linked_among s acting) a b xs ≡ true → Every (Allowed s acting) (route_calls s a xs)
  unfolding route_calls
  route_calls_allowed a b [] h = none_allowed s acting
  route_calls_allowed a b (d ∷ rest) h =
      let sizes = accepted_sizes s e in
      let (l, r) = (chain_first (linked_among s acting) a b d rest).0 h in
      let (acts, acts-too, is-link) = (links_among_iff acting (linked s) a d).0 l in
      let k = link_acts s a d is-link in
      own_more s acting acts k.from (omega arith)
      (own_more s acting acts k.from (omega arith)
      (own_more s acting acts k.from (omega arith) (onward_allowed b rest d (file_for s a d) r acts-too k.to k.by.exists)))
