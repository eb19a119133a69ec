-- Laws of the tables that a setup's lines fill: the rights of access lines by place, and entries in front of zeros.
-- Assumes nothing.
use Prim.Native.Nat.{ℕ, ◌+◌, ◌*◌, ◌/◌, ◌%◌, ◌-◌, ◌<◌, ◌≤◌}
use mathlib.Core.Path.{◌≡◌, refl, ap, sym, ◌∙◌}
use mathlib.Core.Bool.{true, false}
use mathlib.Core.List.{List, [], ◌∷◌, ◌++◌}
use native.Mathlib.Omega.{arith}
use native.Mathlib.Nat.{mul-le-mul_right}
use borrow.Author.Tests.{ltb-true, ltb-false, lt-ltb, le-ltb, eqb-true, eqb-false, eq-eqb, ne_eqb}
use lib.Arith.{digits_lt, digits_div, digits_mod}
use lib.Dec.{ltb, eqb}
use lib.ListN.{length, get_or, set, drop, replicate, length-append, length-drop, length-set, length-replicate, get_or-replicate, get_or-append, get_or-eq_default}
use lib.Seq.{get_or-set_same, get_or-set_other, get_or-append-add, get_or-drop}
use Rattle.rules.specs.Sizes.{most_desks, most_classes, most_rights, table}
use Rattle.rules.specs.Setups.{given_right, given_rights}
use Rattle.rules.proofs.Lists.{by_test, cond_holds, get_or-alike}
use Rattle.rules.proofs.Sizes.{length-table, get_or-table, table_is}
use Rattle.lines.specs.Shapes.{Access}
use Rattle.lines.specs.Readings.{rises, right_read}
use Rattle.lines.proofs.Rights.{Among, here, there, right_absent}
use Rattle.text.specs.Stages.{AllInside, rights_of}

-- the place of a pair, and the least place that rises from lines that were read
abbrev pub place_of : Access → ℕ
place_of a = a.desk * most_classes + a.class

abbrev pub least_after : List Access → ℕ
least_after [] = 0
least_after (a ∷ rest) = place_of a + 1

-- rising by desk, then class, is rising by place
module _ (desks classes : ℕ) (k : classes ≤ most_classes) (a : Access) (l : a.class < classes) where
  pub place_rises : (access : List Access) → AllInside desks classes access → least_after access ≤ place_of a → rises access a ≡ true
  place_rises [] i h = refl
  place_rises (b ∷ access) (d, c, i) h =
      by_test (ltb b.desk a.desk) (λ t. rw t)
      (λ f.
      let g = ltb-false b.desk a.desk f in
      rw (f, eq-eqb b.desk a.desk (omega arith), lt-ltb b.class a.class (omega arith)))

  pub place_falls : (access : List Access) → AllInside desks classes access → place_of a < least_after access → rises access a ≡ false
  place_falls [] i h = absurd (omega arith)
  place_falls (b ∷ access) (d, c, i) h =
      rw (le-ltb b.desk a.desk (omega arith))
      (by_test (eqb b.desk a.desk)
      (λ t. let e = eqb-true b.desk a.desk t in rw (t, le-ltb b.class a.class (omega arith))) (λ f. rw f))

-- no line has given a right yet
pub rights_none : replicate most_rights 0 ≡ rights_of []
unfolding rights_of right_read
rights_none = table_is most_rights (λ i. 0) (replicate most_rights 0) 0 (length-replicate {A = ℕ} most_rights 0) (λ i l. get_or-replicate most_rights i 0 0 l)

-- one more line sets the right at its place
right_at_place : (a : Access) (access : List Access) (i : ℕ) → a.class < most_classes → i ≡ place_of a
    → a.right ≡ right_read (a ∷ access) (i / most_classes) (i % most_classes)
unfolding right_read
right_at_place a access i l e =
    rw (e, digits_div a.desk l, digits_mod a.desk l, eq-eqb a.desk a.desk refl, eq-eqb a.class a.class refl)

right_elsewhere : (a : Access) (access : List Access) (i : ℕ) → (i ≡ place_of a → ⊥)
    → right_read access (i / most_classes) (i % most_classes) ≡ right_read (a ∷ access) (i / most_classes) (i % most_classes)
unfolding right_read
right_elsewhere a access i h =
    by_test (eqb a.desk (i / most_classes))
    (λ t.
    let e = eqb-true a.desk (i / most_classes) t in
    rw (t, ne_eqb a.class (i % most_classes) (λ q. h (omega arith)))) (λ f. rw f)

pub rights_more : (a : Access) (access : List Access) → a.desk < most_desks → a.class < most_classes → set (rights_of access) (place_of a) a.right ≡ rights_of (a ∷ access)
unfolding rights_of
rights_more a access d l =
    let old : ℕ → ℕ = λ i. right_read access (i / most_classes) (i % most_classes) in
    let new : ℕ → ℕ = λ i. right_read (a ∷ access) (i / most_classes) (i % most_classes) in
    let long = length-table most_rights old in
    table_is most_rights new (set (table most_rights old) (place_of a) a.right) 0 (length-set (table most_rights old) (place_of a) a.right ∙ long)
    (λ i b.
    by_test (eqb i (place_of a))
    (λ t.
    let e = eqb-true i (place_of a) t in
    ap (λ (j : ℕ). get_or (set (table most_rights old) (place_of a) a.right) j 0) e
    ∙ get_or-set_same (table most_rights old) (place_of a) a.right 0 (omega arith) ∙ right_at_place a access i l e)
    (λ f.
    let n = eqb-false i (place_of a) f in
    get_or-set_other (table most_rights old) (place_of a) i a.right 0 n ∙ get_or-table most_rights old i 0 b ∙ right_elsewhere a access i n))

-- a line among lines inside the counts lies inside them
among_inside : (desks classes : ℕ) (access : List Access) → AllInside desks classes access → (a : Access) → Among a access → (a.desk < desks) × (a.class < classes)
among_inside desks classes [] _ a x3 = elim x3 [ ]
among_inside desks classes (b ∷ access) (d, c, i) a here = (d, c)
among_inside desks classes (b ∷ access) (d, c, i) a (there m) = among_inside desks classes access i a m

-- so the table of all places is the rights that the lines give inside the counts, with none past them
pub rights_given : (desks classes : ℕ) (access : List Access) → classes ≤ most_classes → AllInside desks classes access
    → rights_of access ≡ given_rights (table (desks * classes) (λ i. right_read access (i / classes) (i % classes))) classes
unfolding rights_of given_right
rights_given desks classes access k i =
    table_is most_rights _ (table most_rights (λ j. right_read access (j / most_classes) (j % most_classes))) 0 (length-table most_rights _)
    (λ j b.
    let d = j / most_classes in
    let t = j % most_classes in
    get_or-table most_rights (λ j. right_read access (j / most_classes) (j % most_classes)) j 0 b
    ∙ cond_holds (λ (r : ℕ). right_read access d t ≡ r) (ltb t classes)
    (λ x. inside d t (ltb-true t classes x))
    (λ x. right_absent access d t (λ a m e f. let g = ltb-false t classes x in let h = among_inside desks classes access i a m in omega arith)))
  where
    own : ℕ → ℕ
    own j = right_read access (j / classes) (j % classes)

    inside : (d t : ℕ) → t < classes → right_read access d t ≡ get_or (table (desks * classes) own) (d * classes + t) 0
    inside d t l =
        by_test (ltb d desks)
        (λ x.
        let m = ltb-true d desks x in
        sym (get_or-table (desks * classes) own (d * classes + t) 0 (digits_lt m l) ∙ rw (digits_div d l, digits_mod d l)))
        (λ x.
        let g = ltb-false d desks x in
        let p : desks * classes ≤ d * classes + t = omega (arith, mul-le-mul_right classes g) in
        let q : length (table (desks * classes) own) ≤ d * classes + t = rw length-table p in
        right_absent access d t (λ a m e f. let h = among_inside desks classes access i a m in omega arith)
        ∙ sym (get_or-eq_default (table (desks * classes) own) 0 q))

-- entries in front of zeros are the table of the entries, with 0 past them
pub entries_table : (n : ℕ) (entries : List ℕ) → length entries ≤ n → entries ++ drop (length entries) (replicate n 0) ≡ table n (λ i. get_or entries i 0)
entries_table n entries l =
    let rest : List ℕ = drop (length entries) (replicate n 0) in
    table_is n (λ i. get_or entries i 0) (entries ++ rest) 0
    (simp (length-append, length-drop, length-replicate) (omega arith))
    (λ i b.
    by_test (ltb i (length entries)) (λ t. get_or-append entries rest 0 i (ltb-true i (length entries) t))
    (λ f.
    let g = ltb-false i (length entries) f in
    let past : i ≡ length entries + (i - length entries) = omega arith in
    ap (λ (j : ℕ). get_or (entries ++ rest) j 0) past ∙ get_or-append-add entries rest (i - length entries) 0
    ∙ get_or-drop (length entries) (replicate n 0) (i - length entries) 0 ∙ get_or-alike n _ 0 ∙ sym (get_or-eq_default entries 0 g)))
