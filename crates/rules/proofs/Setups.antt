-- Laws of an accepted setup: its counts, and its entries before and past the counts.
-- Assumes nothing.
use Prim.Native.Nat.{ℕ, ◌+◌, ◌≤◌, ◌<◌}
use mathlib.Core.Path.{◌≡◌, refl, subst}
use mathlib.Core.Bool.{Bool, true, false, cond, and-eq-true_iff}
use mathlib.Core.Logic.{◌↔◌}
use native.Mathlib.Omega.{arith}
use borrow.Author.Tests.{ltb-true, ltb-false, leb-true, eqb-true, lt-ltb, le-ltb, le-leb, eq-eqb}
use lib.Dec.{ltb, leb, eqb}
use Rattle.rules.specs.Sizes.{least, most_desks, most_classes, most_processes, most_files, within, every}
use Rattle.rules.specs.Setups.{right_both, desk_of, class_of, right_of, sizes_asked, within_sizes, blank_setup}
use Rattle.rules.specs.Setups.{entry_fits, classes_at, row_fits, rights_fit, desks_fit, classes_fit, setup_asked, accepted}
use Rattle.rules.specs.declared.Setup.{Setup}
use Rattle.rules.proofs.Lists.{by_test, cond_holds, met_iff}
use Rattle.rules.proofs.Sizes.{every-at, every_true}

-- a count lies inside its sizes
pub record Within (count most : ℕ) : Type 0 where
  pub low : least ≤ count
  pub high : count ≤ most

within_iff : (count most : ℕ) → (within count most ≡ true) ↔ Within count most
within_iff count most =
    let b = and-eq-true_iff (leb least count) (leb count most) in (
      λ e. record { low = leb-true least count (b.0 e).0; high = leb-true count most (b.0 e).1 },
      λ w. b.1 (le-leb least count w.low, le-leb count most w.high),
    )

-- each of the four counts lies inside its sizes
pub record WithinSizes (desks classes processes files : ℕ) : Type 0 where
  pub of_desks : Within desks most_desks
  pub of_classes : Within classes most_classes
  pub of_processes : Within processes most_processes
  pub of_files : Within files most_files

-- and this is what is tested of them
pub within_sizes_iff : (desks classes processes files : ℕ) → (within_sizes desks classes processes files ≡ true) ↔ WithinSizes desks classes processes files
unfolding within_sizes
within_sizes_iff desks classes processes files =
    let d = within_iff desks most_desks in
    let t = within_iff classes most_classes in
    let p = within_iff processes most_processes in
    let f = within_iff files most_files in
    let all = met_iff (sizes_asked desks classes processes files) in (
      λ e.
          let (hd, (ht, (hp, (hf, _)))) = all.0 e in
          record { of_desks = d.0 hd; of_classes = t.0 ht; of_processes = p.0 hp; of_files = f.0 hf },
      λ w. all.1 (d.1 w.of_desks, (t.1 w.of_classes, (p.1 w.of_processes, (f.1 w.of_files, tt)))),
    )

-- entries before the count are below their bound, and those past it are 0
pub record Entries (most count bound : ℕ) (entry : ℕ → ℕ) : Type 0 where
  pub before : (i : ℕ) → i < most → i < count → entry i < bound
  pub past : (i : ℕ) → i < most → count ≤ i → entry i ≡ 0

-- and this is what is tested of them
pub entries_iff : (most count bound : ℕ) (entry : ℕ → ℕ) → (every most (λ i. entry_fits count bound i (entry i)) ≡ true) ↔ Entries most count bound entry
unfolding entry_fits
entries_iff most count bound entry = (
  λ e.
      record {
        before = λ i l h. ltb-true (entry i) bound (chosen i (lt-ltb i count h) (every-at most _ e i l));
        past = λ i l h. eqb-true (entry i) 0 (chosen i (le-ltb i count h) (every-at most _ e i l));
      },
  λ h.
      every_true most _
      (λ i l.
      cond_holds (λ (b : Bool). b ≡ true) (ltb i count) (λ t. lt-ltb (entry i) bound (h.before i l (ltb-true i count t)))
      (λ t. eq-eqb (entry i) 0 (h.past i l (ltb-false i count t)))),
)
  where
    chosen : (i : ℕ) {b : Bool} → ltb i count ≡ b → entry_fits count bound i (entry i) ≡ true → cond b (ltb (entry i) bound) (eqb (entry i) 0) ≡ true
    chosen i t e = subst (λ (b : Bool). cond b (ltb (entry i) bound) (eqb (entry i) 0) ≡ true) t e

-- an entry past the count is below the bound too, where anything is
entry_lt : {most count bound : ℕ} {entry : ℕ → ℕ} → Entries most count bound entry → 0 < bound → (i : ℕ) → i < most → entry i < bound
entry_lt {most} {count} {bound} {entry} h b i l = by_test (ltb i count) (λ t. h.before i l (ltb-true i count t)) (λ t. omega (arith, h.past i l (ltb-false i count t)))

module _ (s : Setup) (d t : ℕ) where
  -- a row of rights counts a class of the setup where its desk is one of the setup, and none elsewhere
  pub classes_at-before : t < classes_at s d → (d < s.desks) × (t < s.classes)
  classes_at-before h = counted (ltb d s.desks) refl h
    where
      counted : (b : Bool) → ltb d s.desks ≡ b → t < cond b s.classes 0 → (d < s.desks) × (t < s.classes)
      counted true e l = (ltb-true d s.desks e, l)
      counted false e l = absurd (omega arith)

  pub classes_at_past : (classes_at s d ≤ t) ↔ (d < s.desks → s.classes ≤ t)
  classes_at_past = (
    λ h l. rw (lt-ltb d s.desks l) at h,
    λ h. cond_holds (λ (n : ℕ). n ≤ t) (ltb d s.desks) (λ e. h (ltb-true d s.desks e)) (λ e. omega arith),
  )

-- what a setup is accepted for
pub record Acceptable (s : Setup) : Type 0 where
  pub sizes : WithinSizes s.desks s.classes s.processes s.files
  pub right : (d : ℕ) → d < most_desks → Entries most_classes (classes_at s d) (right_both + 1) (right_of s d)
  pub desk : Entries most_processes s.processes s.desks (desk_of s)
  pub class : Entries most_files s.files s.classes (class_of s)

-- a setup is accepted exactly for that
pub accepted_iff : (s : Setup) → (accepted s ≡ true) ↔ Acceptable s
unfolding accepted row_fits rights_fit desks_fit classes_fit
accepted_iff s =
    let sizes = within_sizes_iff s.desks s.classes s.processes s.files in
    let desk = entries_iff most_processes s.processes s.desks (desk_of s) in
    let class = entries_iff most_files s.files s.classes (class_of s) in
    let all = met_iff (setup_asked s) in (
      λ e.
          let (w, (r, (d, (c, _)))) = all.0 e in
          record { sizes = sizes.0 w; right = right.0 r; desk = desk.0 d; class = class.0 c },
      λ a. all.1 (sizes.1 a.sizes, (right.1 a.right, (desk.1 a.desk, (class.1 a.class, tt)))),
    )
  where
    row : (d : ℕ) → (row_fits s d ≡ true) ↔ Entries most_classes (classes_at s d) (right_both + 1) (right_of s d)
    row d = entries_iff most_classes (classes_at s d) (right_both + 1) (right_of s d)

    right : (rights_fit s ≡ true) ↔ ((d : ℕ) → d < most_desks → Entries most_classes (classes_at s d) (right_both + 1) (right_of s d))
    right = (λ e d l. (row d).0 (every-at most_desks (row_fits s) e d l), λ h. every_true most_desks (row_fits s) (λ d l. (row d).1 (h d l)))

module _ (s : Setup) (e : accepted s ≡ true) where
  -- an accepted setup's counts lie inside their sizes
  pub accepted_sizes : WithinSizes s.desks s.classes s.processes s.files
  accepted_sizes = ((accepted_iff s).0 e).sizes

  -- every process sits at a desk of the setup
  pub desk_of-lt : (p : ℕ) → p < most_processes → desk_of s p < s.desks
  desk_of-lt p l = entry_lt ((accepted_iff s).0 e).desk accepted_sizes.of_desks.low p l

  -- every file has a class of the setup
  pub class_of-lt : (f : ℕ) → f < most_files → class_of s f < s.classes
  class_of-lt f l = entry_lt ((accepted_iff s).0 e).class accepted_sizes.of_classes.low f l

  -- every right is none, R, W or both
  pub right_of-lt : (d t : ℕ) → d < most_desks → t < most_classes → right_of s d t < right_both + 1
  right_of-lt d t k l = entry_lt (((accepted_iff s).0 e).right d k) (omega arith) t l

  -- "every entry past the counts is 0"
  pub desk_of_past : (p : ℕ) → p < most_processes → s.processes ≤ p → desk_of s p ≡ 0
  desk_of_past p l h = ((accepted_iff s).0 e).desk.past p l h

  pub class_of_past : (f : ℕ) → f < most_files → s.files ≤ f → class_of s f ≡ 0
  class_of_past f l h = ((accepted_iff s).0 e).class.past f l h

  pub right_of_past : (d t : ℕ) → d < most_desks → t < most_classes → (d < s.desks → s.classes ≤ t) → right_of s d t ≡ 0
  right_of_past d t k l h = (((accepted_iff s).0 e).right d k).past t l ((classes_at_past s d t).1 h)

-- the stand-in for a refused setup is not accepted
pub blank_setup_refused : accepted blank_setup ≡ false
unfolding accepted within_sizes blank_setup
blank_setup_refused = refl
