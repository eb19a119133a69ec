-- Laws of a setup's links: the desks that they run among, and the lowest process and the lowest file by which each acts.
-- Assumes nothing.
use Prim.Native.Nat.{ℕ, suc, ◌<◌, ◌≤◌}
use mathlib.Core.Path.{◌≡◌}
use mathlib.Core.Bool.{true, ◌&&◌, and-eq-true_iff}
use mathlib.Core.Logic.{◌≢◌}
use mathlib.Core.List.{List}
use native.Mathlib.Omega.{arith}
use borrow.Author.Tests.{eqb-true, eq-eqb}
use lib.Dec.{eqb}
use lib.ListN.{length}
use Rattle.rules.specs.Sizes.{most_desks, some_below}
use Rattle.rules.specs.Setups.{has_r, has_w, desk_of, class_of, right_of, accepted}
use Rattle.rules.specs.Links.{has_process, serves, linked}
use Rattle.rules.specs.declared.Setup.{Setup}
use Rattle.rules.proofs.Setups.{accepted_sizes, desk_of-lt}
use Rattle.rules.proofs.Links.{ProcessAt, linked_iff}
use Rattle.chains.specs.Chains.{Links, Acting, links_among, process_at, file_for, desk_at, Fewest}
use Rattle.chains.proofs.Lowest.{lowest_iff, lowest_holds, lowest_below}
use Rattle.chains.proofs.Chains.{AmongDesks, link_at, links_among_iff, links_among_desks}
use Rattle.chains.proofs.Shortest.{links_apart}

-- a setup's links among the desks that act
abbrev pub linked_among : Setup → Acting → Links
linked_among s acting = links_among acting (linked s)

module _ (s : Setup) (e : accepted s ≡ true) where
  -- a desk that has a process is one of the setup
  seat_lt : {d : ℕ} → ProcessAt s d → d < s.desks
  seat_lt p = rw p.sits at (desk_of-lt s e p.process (omega (arith, p.exists, (accepted_sizes s e).of_processes.high)))

  -- so a link runs between desks of the setup
  pub linked_among_lem : AmongDesks s.desks (linked s)
  linked_among_lem = record { ends = λ d u h. let k = (linked_iff s d u).0 h in (seat_lt k.from, seat_lt k.to) }

  -- which are among the desks that any setup may have
  pub linked_among_most : AmongDesks most_desks (linked s)
  linked_among_most =
      let most = (accepted_sizes s e).of_desks.high in
      record { ends = λ d u h. let (k, l) = linked_among_lem.ends d u h in (omega arith, omega arith) }

  -- the same is so of the links among the desks that act
  pub acting_most : (acting : Acting) → AmongDesks most_desks (linked_among s acting)
  acting_most acting = links_among_desks acting linked_among_most

-- "Each desk acts by its lowest process": one that exists and sits there, and none that sits there is lower
pub record ActsBy (s : Setup) (d p : ℕ) : Type 0 where
  pub exists : p < s.processes
  pub sits : desk_of s p ≡ d
  pub least : (q : ℕ) → desk_of s q ≡ d → p ≤ q

pub process_at_acts : (s : Setup) (d : ℕ) → has_process s d ≡ true → ActsBy s d (process_at s d)
unfolding has_process
process_at_acts s d h =
    let l = (lowest_iff s.processes (λ p. eqb (desk_of s p) d)).1 h in
    record {
      exists = l;
      sits = eqb-true (desk_of s (process_at s d)) d (lowest_holds s.processes (λ p. eqb (desk_of s p) d) l);
      least = λ q z. lowest_below s.processes (λ p. eqb (desk_of s p) d) q (eq-eqb (desk_of s q) d z);
    }

-- "each link uses the lowest file that serves it": one that exists and serves it, and none that serves it is lower
pub record Uses (s : Setup) (d e f : ℕ) : Type 0 where
  pub exists : f < s.files
  pub served : serves s d e f ≡ true
  pub least : (g : ℕ) → serves s d e g ≡ true → f ≤ g

pub file_for_used : (s : Setup) (d e : ℕ) → some_below s.files (serves s d e) ≡ true → Uses s d e (file_for s d e)
file_for_used s d e h =
    let l = (lowest_iff s.files (serves s d e)).1 h in
    record { exists = l; served = lowest_holds s.files (serves s d e) l; least = lowest_below s.files (serves s d e) }

-- what a link has: a process at each of its desks, and a file
pub record LinkActs (s : Setup) (d e : ℕ) : Type 0 where
  pub from : ActsBy s d (process_at s d)
  pub to : ActsBy s e (process_at s e)
  pub by : Uses s d e (file_for s d e)

pub link_acts : (s : Setup) (d e : ℕ) → linked s d e ≡ true → LinkActs s d e
unfolding linked
link_acts s d e h =
    let (both, f) = (and-eq-true_iff (has_process s d && has_process s e) (some_below s.files (serves s d e))).0 h in
    let (p, q) = (and-eq-true_iff (has_process s d) (has_process s e)).0 both in
    record { from = process_at_acts s d p; to = process_at_acts s e q; by = file_for_used s d e f }

-- a file by which d's link to e is served and u's to v serves a link from d to v too
pub shared_file : (s : Setup) (d e u v f : ℕ) → linked s d e ≡ true → linked s u v ≡ true → f < s.files
    → serves s d e f ≡ true → serves s u v f ≡ true → linked s d v ≡ true
shared_file s d e u v f k l h x y =
    (linked_iff s d v).1
    (record {
      from = ((linked_iff s d e).0 k).from;
      to = ((linked_iff s u v).0 l).to;
      file = f;
      exists = h;
      writes = ((and-eq-true_iff (has_w (right_of s d (class_of s f))) (has_r (right_of s e (class_of s f)))).0 x).0;
      reads = ((and-eq-true_iff (has_w (right_of s u (class_of s f))) (has_r (right_of s v (class_of s f)))).0 y).1;
    })

module _ (s : Setup) (acting : Acting) {a b : ℕ} {xs : List ℕ} (h : Fewest (linked_among s acting) a b xs) where
  -- a link of a chain among desks that act: they do, and it is a link of the setup
  link_of : (i : ℕ) → i < length xs
      → let d = desk_at a xs i in let u = desk_at a xs (suc i) in (acting d ≡ true) × (acting u ≡ true) × (linked s d u ≡ true)
  link_of i l = (links_among_iff acting (linked s) _ _).0 (link_at (linked_among s acting) a b xs h.chain i l)

  -- no file serves two links of a chain with the fewest links among desks that act: the first desk of the one would have a link to the
  -- second of the other
  pub files_apart : (i j f : ℕ) → i < j → j < length xs → f < s.files
      → serves s (desk_at a xs i) (desk_at a xs (suc i)) f ≡ true → serves s (desk_at a xs j) (desk_at a xs (suc j)) f ≡ true → ⊥
  files_apart i j f l m k x y =
      let (from, _, one) = link_of i (omega arith) in
      let (_, to, other) = link_of j m in
      links_apart h i (suc j) (omega arith) m ((links_among_iff acting (linked s) _ _).1 (from, to, shared_file s _ _ _ _ f one other k x y))

  -- so each link uses a file of its own
  pub files_used_apart : (i j : ℕ) → i < j → j < length xs
      → file_for s (desk_at a xs i) (desk_at a xs (suc i)) ≢ file_for s (desk_at a xs j) (desk_at a xs (suc j))
  files_used_apart i j l m q =
      let x = (link_acts s _ _ (link_of i (omega arith)).2).by in
      let y = (link_acts s _ _ (link_of j m).2).by in
      files_apart i j _ l m y.exists (rw q at x.served) y.served
