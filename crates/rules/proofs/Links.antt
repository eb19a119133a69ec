-- Laws of the desk that a call belongs to, and of links: what each is, without the search that decides it.
-- Assumes nothing.
use Prim.Native.Nat.{ℕ, ◌<◌, ◌≤◌}
use mathlib.Core.Path.{◌≡◌}
use mathlib.Core.Bool.{true, ◌&&◌, and-eq-true_iff}
use mathlib.Core.Logic.{◌↔◌}
use mathlib.Core.Option.{some, none}
use native.Mathlib.Omega.{arith}
use borrow.Author.Tests.{ltb-true, ltb-false, eqb-true, lt-ltb, le-ltb, eq-eqb}
use lib.Dec.{ltb, eqb}
use Rattle.rules.specs.Sizes.{some_below}
use Rattle.rules.specs.Setups.{has_r, has_w, desk_of, class_of, right_of}
use Rattle.rules.specs.Links.{desk_of_call, has_process, serves, linked}
use Rattle.rules.specs.declared.Numbers.{Numbers}
use Rattle.rules.specs.declared.Setup.{Setup}
use Rattle.rules.proofs.Lists.{by_test}
use Rattle.rules.proofs.Sizes.{some_below_iff}

module _ (s : Setup) (n : Numbers) where
  -- the desk of a process that exists, and none of one that does not
  desk_of_present : n.process < s.processes → desk_of_call s n ≡ some (desk_of s n.process)
  unfolding desk_of_call
  desk_of_present l = rw (lt-ltb n.process s.processes l)

  desk_of_missing : s.processes ≤ n.process → desk_of_call s n ≡ none
  unfolding desk_of_call
  desk_of_missing l = rw (le-ltb n.process s.processes l)

  -- "A call belongs to the desk of its process"
  pub desk_of_call_some : (d : ℕ) → (desk_of_call s n ≡ some d) ↔ ((n.process < s.processes) × (desk_of s n.process ≡ d))
  desk_of_call_some d = (
    λ e.
        by_test (ltb n.process s.processes) (λ t. let l = ltb-true n.process s.processes t in (l, cc (desk_of_present l)))
        (λ t. let z : ◌≡◌ {A = ℕ} 0 1 = cc (desk_of_missing (ltb-false n.process s.processes t)) in absurd (omega arith)),
    λ h. cc (desk_of_present h.0),
  )

  -- "A call whose process does not exist belongs to none"
  pub desk_of_call_none : (desk_of_call s n ≡ none) ↔ (s.processes ≤ n.process)
  desk_of_call_none = (
    λ e.
        by_test (ltb n.process s.processes)
        (λ t. let z : ◌≡◌ {A = ℕ} 0 1 = cc (desk_of_present (ltb-true n.process s.processes t)) in absurd (omega arith))
        (ltb-false n.process s.processes),
    desk_of_missing,
  )

-- a process that exists and sits at the desk
pub record ProcessAt (s : Setup) (d : ℕ) : Type 0 where
  pub process : ℕ
  pub exists : process < s.processes
  pub sits : desk_of s process ≡ d

-- and this is what is tested of the desk
pub has_process_iff : (s : Setup) (d : ℕ) → (has_process s d ≡ true) ↔ ProcessAt s d
unfolding has_process
has_process_iff s d =
    let i = some_below_iff s.processes (λ p. eqb (desk_of s p) d) in (
      λ e. let (p, l, q) = i.0 e in record { process = p; exists = l; sits = eqb-true (desk_of s p) d q },
      λ h. i.1 (h.process, h.exists, eq-eqb (desk_of s h.process) d h.sits),
    )

-- "A link runs from desk d to desk e when d has W and e has R on the class of some file, and each of the two has a process"
pub record Link (s : Setup) (d e : ℕ) : Type 0 where
  pub from : ProcessAt s d
  pub to : ProcessAt s e
  pub file : ℕ
  pub exists : file < s.files
  pub writes : has_w (right_of s d (class_of s file)) ≡ true
  pub reads : has_r (right_of s e (class_of s file)) ≡ true

-- and this is what is tested of the two desks
pub linked_iff : (s : Setup) (d e : ℕ) → (linked s d e ≡ true) ↔ Link s d e
unfolding linked
linked_iff s d e =
    let from = has_process_iff s d in
    let to = has_process_iff s e in
    let file = some_below_iff s.files (serves s d e) in
    let both = and-eq-true_iff (has_process s d) (has_process s e) in
    let all = and-eq-true_iff (has_process s d && has_process s e) (some_below s.files (serves s d e)) in (
      λ q.
          let (f, l, h) = file.0 (all.0 q).1 in
          let (x, y) = both.0 (all.0 q).0 in
          record { from = from.0 x; to = to.0 y; file = f; exists = l; writes = ((rights f).0 h).0; reads = ((rights f).0 h).1 },
      λ k. all.1 (both.1 (from.1 k.from, to.1 k.to), file.1 (k.file, k.exists, (rights k.file).1 (k.writes, k.reads))),
    )
  where
    rights : (f : ℕ) → (serves s d e f ≡ true) ↔ ((has_w (right_of s d (class_of s f)) ≡ true) × (has_r (right_of s e (class_of s f)) ≡ true))
    rights f = and-eq-true_iff (has_w (right_of s d (class_of s f))) (has_r (right_of s e (class_of s f)))
