-- Laws of a table of links: its links are those of the setup that it was made of, and a link that leads nearer is told by it.
-- Assumes nothing.
use Prim.Native.Nat.{ℕ, ◌+◌, ◌*◌, ◌/◌, ◌%◌, ◌<◌, ◌≤◌}
use mathlib.Core.Path.{◌≡◌, refl, ap, sym, ◌∙◌, fun_ext}
use mathlib.Core.Bool.{Bool, true, false, not, ◌&&◌, and-eq-true_iff, true≢false}
use mathlib.Core.List.{List}
use native.Mathlib.Omega.{arith}
use borrow.Author.Tests.{ltb-true, eqb-true, lt-ltb, eq-eqb}
use lib.Dec.{ltb, eqb}
use lib.ListN.{length, get_or, take, length-take}
use lib.Seq.{get_or-take}
use Rattle.rules.specs.Sizes.{most_desks, most_classes, most_processes, most_files, some_below, table}
use Rattle.rules.specs.Setups.{has_r, has_w, desk_of, class_of, right_of, accepted}
use Rattle.rules.specs.Links.{has_process, serves, linked}
use Rattle.rules.specs.declared.Setup.{Setup}
use Rattle.rules.proofs.Lists.{by_test, get_or_by_option}
use Rattle.rules.proofs.Sizes.{every_cong, length-table, get_or-table, table_is, some_below_iff, some_below-true}
use Rattle.rules.proofs.Setups.{accepted_sizes, desk_of-lt, class_of-lt}
use Rattle.chains.specs.Chains.{Links, far, leads}
use Rattle.chains.proofs.Acts.{linked_among_most}
use Rattle.reaching.specs.Tables.{mark, is_marked, marks_of, serving, is_served, linked_by, most_pairs, pairs_of, links_in}

-- what stands before the end of a list stands there, whatever would stand in for what is missing
pub get_or-inside : (xs : List ℕ) (i a b : ℕ) → i < length xs → get_or xs i a ≡ get_or xs i b
get_or-inside xs i a b l = cc (get_or_by_option xs i a l, get_or_by_option xs i b l)

-- between desks a table's mark tells
pub links_in-at : (marks : List ℕ) (d e : ℕ) → d < most_desks → e < most_desks → links_in marks d e ≡ is_marked marks (d * most_desks + e)
unfolding links_in
links_in-at marks d e k l = rw (lt-ltb d most_desks k, lt-ltb e most_desks l)

-- so a link that leads nearer is told by a mark and by where its desk stands
pub leads_told : (marks to : List ℕ) (d k e : ℕ) → d < most_desks → e < most_desks → e < length to
    → leads (links_in marks) to d k e ≡ (is_marked marks (d * most_desks + e) && eqb (get_or to e 0) k)
leads_told marks to d k e h l m = rw (links_in-at marks d e h l, get_or-inside to e far 0 m)

-- two tests each of which passes where the other does are one
same_tests : {a b : Bool} → (a ≡ true → b ≡ true) → (b ≡ true → a ≡ true) → a ≡ b
same_tests {a = true} f g = sym (f refl)
same_tests {a = false} {b = true} f g = g refl
same_tests {a = false} {b = false} f g = refl

-- a mark is 1 where it stands for something that is so
mark-tells : (so : Bool) → eqb (mark so) 1 ≡ so
mark-tells true = refl
mark-tells false = refl

-- what is below a bound among the first entries is so in the part that they make
pub front_below : (count : ℕ) (entries : List ℕ) (bound : ℕ) → ((i : ℕ) → i < count → get_or entries i 0 < bound)
    → (i : ℕ) → i < length (take count entries) → get_or (take count entries) i 0 < bound
front_below count entries bound h i l =
    let m : i < count = omega (arith, length-take count entries) in
    rw (get_or-take count entries i 0 m) (h i m)

-- a number is marked where it is one of a table's
marked_table : (n count : ℕ) (entry : ℕ → ℕ) (k : ℕ) → k < n → get_or (marks_of n (table count entry)) k false ≡ some_below count (λ i. eqb (entry i) k)
unfolding marks_of some_below
marked_table n count entry k l =
    get_or-table n (λ e. some_below (length (table count entry)) (λ i. eqb (get_or (table count entry) i 0) e)) k false l
    ∙ ap (λ (m : ℕ). some_below m (λ i. eqb (get_or (table count entry) i 0) k)) (length-table count entry)
    ∙ ap not (every_cong count _ _ (λ i m. ap (λ (e : ℕ). not (eqb e k)) (get_or-table count entry i 0 m)))

-- the front of a list is the table of its entries
pub front_table : (xs : List ℕ) (n : ℕ) → n ≤ length xs → take n xs ≡ table n (λ i. get_or xs i 0)
front_table xs n h = table_is n _ (take n xs) 0 (simp length-take (omega arith)) (λ k l. get_or-take n xs k 0 l)

-- between desks the marks of a relation tell it
pairs_at : (links : Links) (d e : ℕ) → d < most_desks → e < most_desks → links_in (pairs_of links) d e ≡ links d e
pairs_at links d e k l =
    let row : (d * most_desks + e) / most_desks ≡ d = omega arith in
    let place : (d * most_desks + e) % most_desks ≡ e = omega arith in
    links_in-at (pairs_of links) d e k l
    ∙ rw (get_or-table most_pairs (λ i. mark (links (i / most_desks) (i % most_desks))) (d * most_desks + e) 0 (omega arith), row, place) (mark-tells _)

module _ (s : Setup) (h : accepted s ≡ true) where
  -- as many processes and files lie in the tables as there are
  pub processes_le : s.processes ≤ most_processes
  processes_le = (accepted_sizes s h).of_processes.high

  pub files_le : s.files ≤ most_files
  files_le = (accepted_sizes s h).of_files.high

  -- a process sits at one of the desks that any setup may have, and a file has one of the classes
  pub desk_lt : (p : ℕ) → p < s.processes → desk_of s p < most_desks
  desk_lt p l = let k = accepted_sizes s h in omega (arith, k.of_desks.high, desk_of-lt s h p (omega (arith, k.of_processes.high)))

  pub class_lt : (f : ℕ) → f < s.files → class_of s f < most_classes
  class_lt f l = let k = accepted_sizes s h in omega (arith, k.of_classes.high, class_of-lt s h f (omega (arith, k.of_files.high)))

  -- the desks that have a process, the classes that have a file, and the links that they and the rights tell
  abbrev seats : List Bool
  seats = marks_of most_desks (table s.processes (desk_of s))

  abbrev filed : List Bool
  filed = marks_of most_classes (table s.files (class_of s))

  abbrev told : Links
  told = linked_by s.rights seats filed

  seat_at : (d : ℕ) → d < most_desks → get_or seats d false ≡ some_below s.processes (λ p. eqb (desk_of s p) d)
  seat_at d l = marked_table most_desks s.processes (desk_of s) d l

  filed_at : (t : ℕ) → t < most_classes → get_or filed t false ≡ some_below s.files (λ f. eqb (class_of s f) t)
  filed_at t l = marked_table most_classes s.files (class_of s) t l

  -- one of them serves where some file does
  served_is : (d e : ℕ) → is_served s.rights filed d e ≡ some_below s.files (serves s d e)
  served_is d e =
      same_tests
      (λ x.
      let (t, l, y) = (some_below_iff most_classes (serving s.rights filed d e)).0 x in
      let (m, r) = (and-eq-true_iff (get_or filed t false && has_w (right_of s d t)) (has_r (right_of s e t))).0 y in
      let (k, w) = (and-eq-true_iff (get_or filed t false) (has_w (right_of s d t))).0 m in
      let (f, i, z) = (some_below_iff s.files (λ f. eqb (class_of s f) t)).0 (sym (filed_at t l) ∙ k) in
      let q = eqb-true (class_of s f) t z in
      some_below-true s.files (serves s d e) f i (rw q ((and-eq-true_iff (has_w (right_of s d t)) (has_r (right_of s e t))).1 (w, r))))
      (λ x.
      let (f, i, y) = (some_below_iff s.files (serves s d e)).0 x in
      let t = class_of s f in
      let l = class_lt f i in
      let (w, r) = (and-eq-true_iff (has_w (right_of s d t)) (has_r (right_of s e t))).0 y in
      let k = filed_at t l ∙ some_below-true s.files (λ g. eqb (class_of s g) t) f i (eq-eqb t t refl) in
      some_below-true most_classes (serving s.rights filed d e) t l
      ((and-eq-true_iff (get_or filed t false && has_w (right_of s d t)) (has_r (right_of s e t))).1 ((and-eq-true_iff (get_or filed t false) (has_w (right_of s d t))).1 (k, w), r)))

  told_is : (d e : ℕ) → d < most_desks → e < most_desks → told d e ≡ linked s d e
  unfolding linked has_process
  told_is d e k l = rw (seat_at d k, seat_at e l, served_is d e)

  -- no link of a setup runs from or to a number that is no desk
  unlinked : (d e : ℕ) → (ltb d most_desks && ltb e most_desks ≡ false) → linked s d e ≡ false
  unlinked d e x =
      by_test (linked s d e)
      (λ t.
      let (k, l) = (linked_among_most s h).ends d e t in
      absurd (true≢false (sym ((and-eq-true_iff (ltb d most_desks) (ltb e most_desks)).1 (lt-ltb d most_desks k, lt-ltb e most_desks l)) ∙ x)))
      (λ t. t)

  -- the table that is made of a setup has the setup's links
  pub links_told : links_in (pairs_of told) ≡ linked s
  unfolding links_in
  links_told =
      fun_ext (λ d. fun_ext (λ e.
      by_test (ltb d most_desks && ltb e most_desks)
      (λ t.
      let (k, l) = (and-eq-true_iff (ltb d most_desks) (ltb e most_desks)).0 t in
      pairs_at told d e (ltb-true d most_desks k) (ltb-true e most_desks l) ∙ told_is d e (ltb-true d most_desks k) (ltb-true e most_desks l))
      (λ t. rw t (sym (unlinked d e t)))))
