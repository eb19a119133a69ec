-- Laws of refusals: when none is given, and what an order of refusals depends on.
-- Assumes nothing.
use Prim.Native.Nat.{ℕ, zero, suc, ◌+◌, ◌*◌, ◌<◌, ◌≤◌}
use mathlib.Core.Path.{◌≡◌, refl, ap, sym, ◌∙◌}
use mathlib.Core.Bool.{Bool, true, false, not, ◌&&◌, ◌||◌, cond, true≢false}
use mathlib.Core.Logic.{◌↔◌, ◌≢◌}
use mathlib.Core.List.{List, [], ◌∷◌, ◌++◌}
use native.Mathlib.Omega.{arith}
use borrow.Author.Tests.{ltb-false, leb-true, leb-false, eqb-true, eqb-false, not-true, not-false, lt-ltb, le-ltb, lt-leb, eq-eqb, ne_eqb}
use lib.Dec.{ltb, leb, eqb}
use lib.ListN.{length, get_or}
use Rattle.rules.specs.Sizes.{every, some_below}
use Rattle.rules.specs.Setups.{SetupBytes, right_both, entry_fits, accepted}
use Rattle.rules.specs.Stores.{fits}
use Rattle.rules.specs.Calls.{first_code, last_code, code_of_write, code_of_copy, call_of}
use Rattle.rules.specs.Refusals.{Ground, first_of, slices_asked, slices_match, some_from, setup_order, numbers_order}
use Rattle.rules.specs.Refusals.{refusal5, refusal7, refusal8, refusal9, refusal15, refusal16}
use Rattle.rules.specs.Refusals.{setup_refusal, call_refusal, fresh_refusal, judge_refusal, numbers_refusal}
use Rattle.rules.specs.Entries.{unless}
use Rattle.rules.specs.declared.Numbers.{Numbers}
use Rattle.rules.specs.declared.Setup.{Setup}
use Rattle.rules.specs.declared.Store.{Store}
use Rattle.rules.proofs.Lists.{by_test, met_iff, neither, not_both}
use Rattle.rules.proofs.Sizes.{every-at, every_true, every_cong}
use Rattle.rules.proofs.Setups.{WithinSizes, within_sizes_iff}
use Rattle.rules.proofs.Codes.{Exists, process_of-call_of, file_of-call_of, changeable_holds}

-- each number of an order is a refusal's, and not the 0 of none
abbrev pub Numbered : List Ground → Type 0
Numbered [] = Unit {0}
Numbered (r ∷ rs) = (0 < r.1) × Numbered rs

-- no condition of an order holds
abbrev pub Unmet : List Ground → Type 0
Unmet [] = Unit {0}
Unmet (r ∷ rs) = (r.0 ≡ false) × Unmet rs

-- an order gives 0 exactly where none of its conditions holds
pub unmet_iff : (order : List Ground) → Numbered order → (first_of order ≡ 0) ↔ Unmet order
unmet_iff [] h = (λ e. tt, λ u. refl)
unmet_iff (r ∷ rs) h = first r.0 r.1 h.0 (unmet_iff rs h.1)
  where
    first : (b : Bool) (n : ℕ) → 0 < n → (first_of rs ≡ 0) ↔ Unmet rs → (cond b n (first_of rs) ≡ 0) ↔ ((b ≡ false) × Unmet rs)
    first true n l i = (λ e. absurd (omega arith), λ u. absurd (true≢false u.0))
    first false n l i = (λ e. (refl, i.0 e), λ u. i.1 u.1)

-- one order after another: the second is looked at only where the first gives none
pub first_of_append : (order next : List Ground) → Numbered order → first_of (order ++ next) ≡ unless (first_of order) (first_of next) (first_of order)
first_of_append [] next h = refl
first_of_append (r ∷ rs) next h = first r.0 r.1 h.0 (first_of_append rs next h.1)
  where
    first : (b : Bool) (n : ℕ) → 0 < n → first_of (rs ++ next) ≡ unless (first_of rs) (first_of next) (first_of rs)
        → cond b n (first_of (rs ++ next)) ≡ unless (cond b n (first_of rs)) (first_of next) (cond b n (first_of rs))
    first true zero l e = absurd (omega arith)
    first true (suc n) l e = refl
    first false n l e = e

-- a call is judged after its setup and its store
pub call_refusal-after : (s : Setup) (m : Store) (n : Numbers) → call_refusal s m n ≡ unless (judge_refusal s m) (numbers_refusal s n) (judge_refusal s m)
unfolding call_refusal judge_refusal numbers_refusal
call_refusal-after s m n = first_of_append (refusal15 s ∷ refusal16 s m ∷ []) (numbers_order s n) (omega arith)

-- nothing is held against a setup and a store exactly where the one is accepted and the other fits it
pub judge_refusal_iff : (s : Setup) (m : Store) → (judge_refusal s m ≡ 0) ↔ ((accepted s ≡ true) × (fits s m ≡ true))
unfolding judge_refusal
judge_refusal_iff s m =
    let i = unmet_iff (refusal15 s ∷ refusal16 s m ∷ []) (omega arith) in (
      λ e. (not-false (accepted s) (i.0 e).0, not-false (fits s m) (i.0 e).1.0),
      λ h. i.1 (ap not h.0, (ap not h.1, tt)),
    )

-- and nothing against a setup alone exactly where it is accepted
pub fresh_refusal_iff : (s : Setup) → (fresh_refusal s ≡ 0) ↔ (accepted s ≡ true)
unfolding fresh_refusal
fresh_refusal_iff s =
    let i = unmet_iff (refusal15 s ∷ []) (omega arith) in
    (λ e. not-false (accepted s) (i.0 e).0, λ h. i.1 (ap not h, tt))

-- no refusal is given for a call exactly where none is given for its setup and store, and none for its numbers
pub call_refusal_iff : (s : Setup) (m : Store) (n : Numbers) → (call_refusal s m n ≡ 0) ↔ ((judge_refusal s m ≡ 0) × (numbers_refusal s n ≡ 0))
call_refusal_iff s m n = rw call_refusal-after (both (judge_refusal s m))
  where
    both : (judged : ℕ) → (unless judged (numbers_refusal s n) judged ≡ 0) ↔ ((judged ≡ 0) × (numbers_refusal s n ≡ 0))
    both zero = (λ e. (refl, e), λ h. h.1)
    both (suc j) = (λ e. absurd (omega arith), λ h. h.0)

-- once the setup and the store are judged, a refusal depends on the setup and the call alone
pub call_refusal-judged : (s : Setup) (m : Store) (n : Numbers) → judge_refusal s m ≡ 0 → call_refusal s m n ≡ numbers_refusal s n
call_refusal-judged s m n e = call_refusal-after s m n ∙ rw e

pub call_refusal_alike : (s : Setup) (m m' : Store) (n : Numbers) → accepted s ≡ true → fits s m ≡ true → fits s m' ≡ true → call_refusal s m n ≡ call_refusal s m' n
call_refusal_alike s m m' n a f f' = call_refusal-judged s m n ((judge_refusal_iff s m).1 (a, f)) ∙ sym (call_refusal-judged s m' n ((judge_refusal_iff s m').1 (a, f')))

-- numbers that are a call whose process and files exist, with no extra where it has none and no COPY onto itself
pub record Sound (s : Setup) (n : Numbers) : Type 0 where
  pub from_first_code : first_code ≤ n.operation
  pub to_last_code : n.operation ≤ last_code
  pub process : n.process < s.processes
  pub file : n.file < s.files
  pub target : n.operation ≡ code_of_copy → n.extra < s.files
  pub idle : n.operation ≢ code_of_write → n.operation ≢ code_of_copy → n.extra ≡ 0
  pub apart : n.operation ≡ code_of_copy → n.extra ≢ n.file

module _ (n : Numbers) where
  -- refusal 5 is not given exactly where the operation is a code
  code_iff : ((refusal5 n).0 ≡ false) ↔ ((first_code ≤ n.operation) × (n.operation ≤ last_code))
  code_iff =
      let i = neither (ltb n.operation first_code) (ltb last_code n.operation) in (
        λ e. (ltb-false n.operation first_code (i.0 e).0, ltb-false last_code n.operation (i.0 e).1),
        λ h. i.1 (le-ltb n.operation first_code h.0, le-ltb last_code n.operation h.1),
      )

  -- what is asked for COPY alone fails exactly where it fails for COPY
  copy_iff : (b : Bool) → (eqb n.operation code_of_copy && b ≡ false) ↔ (n.operation ≡ code_of_copy → b ≡ false)
  copy_iff b =
      let i = not_both (eqb n.operation code_of_copy) b in
      (λ e q. i.0 e (eq-eqb n.operation code_of_copy q), λ h. i.1 (λ t. h (eqb-true n.operation code_of_copy t)))

  -- refusal 7 is not given exactly where the files that the call names exist
  files_iff : (s : Setup) → ((refusal7 s n).0 ≡ false) ↔ ((n.file < s.files) × (n.operation ≡ code_of_copy → n.extra < s.files))
  files_iff s =
      let i = neither (leb s.files n.file) (eqb n.operation code_of_copy && leb s.files n.extra) in
      let target = copy_iff (leb s.files n.extra) in (
        λ e. (leb-false s.files n.file (i.0 e).0, λ q. leb-false s.files n.extra (target.0 (i.0 e).1 q)),
        λ h. i.1 (lt-leb s.files n.file h.0, target.1 (λ q. lt-leb s.files n.extra (h.1 q))),
      )

  -- refusal 8 is not given exactly where the extra is 0 for a call that has none
  idle_iff : ((refusal8 n).0 ≡ false) ↔ (n.operation ≢ code_of_write → n.operation ≢ code_of_copy → n.extra ≡ 0)
  idle_iff =
      let write = eqb n.operation code_of_write in
      let copy = eqb n.operation code_of_copy in
      let i = not_both (not (write || copy)) (not (eqb n.extra 0)) in
      let none = neither write copy in (
        λ e w c.
            let idle = none.1 (ne_eqb n.operation code_of_write w, ne_eqb n.operation code_of_copy c) in
            eqb-true n.extra 0 (not-false _ (i.0 e (ap not idle))),
        λ h.
            i.1
            (λ t.
            let (w, c) = none.0 (not-true (write || copy) t) in
            ap not (eq-eqb n.extra 0 (h (eqb-false n.operation code_of_write w) (eqb-false n.operation code_of_copy c)))),
      )

  -- refusal 9 is not given exactly where COPY has two files
  apart_iff : ((refusal9 n).0 ≡ false) ↔ (n.operation ≡ code_of_copy → n.extra ≢ n.file)
  apart_iff =
      let i = copy_iff (eqb n.extra n.file) in
      (λ e q. eqb-false n.extra n.file (i.0 e q), λ h. i.1 (λ q. ne_eqb n.extra n.file (h q)))

-- no refusal is given for numbers exactly where they are sound
pub numbers_refusal_iff : (s : Setup) (n : Numbers) → (numbers_refusal s n ≡ 0) ↔ Sound s n
unfolding numbers_refusal
numbers_refusal_iff s n =
    let i = unmet_iff (numbers_order s n) (omega arith) in (
      λ e.
          let (u5, (u6, (u7, (u8, (u9, end))))) = i.0 e in
          let code = (code_iff n).0 u5 in
          let files = (files_iff n s).0 u7 in
          record {
            from_first_code = code.0;
            to_last_code = code.1;
            process = leb-false s.processes n.process u6;
            file = files.0;
            target = files.1;
            idle = (idle_iff n).0 u8;
            apart = (apart_iff n).0 u9;
          },
      λ h.
          i.1 (
            (code_iff n).1 (h.from_first_code, h.to_last_code),
            (
              lt-leb s.processes n.process h.process,
              ((files_iff n s).1 (h.file, h.target), ((idle_iff n).1 h.idle, ((apart_iff n).1 h.apart, tt))),
            ),
          ),
    )

-- where no refusal is given, the call's process and files exist
pub numbers_exist : (s : Setup) (n : Numbers) → numbers_refusal s n ≡ 0 → Exists s (call_of n)
numbers_exist s n e =
    let h = (numbers_refusal_iff s n).0 e in
    record {
      process = rw process_of-call_of h.process;
      file = rw file_of-call_of h.file;
      changed = changeable_holds (λ (g : ℕ). g < s.files) n h.file h.target;
    }

-- no entry of a slice is its bound or more exactly where each is below it
pub some_from_iff : (bound : ℕ) (entries : List ℕ) → (some_from bound entries ≡ false) ↔ ((i : ℕ) → i < length entries → get_or entries i 0 < bound)
unfolding some_from some_below
some_from_iff bound entries = (
  λ e i l. leb-false bound (get_or entries i 0) (not-true (leb bound (get_or entries i 0)) (every-at (length entries) _ (not-false _ e) i l)),
  λ h. ap not (every_true (length entries) (λ i. not (leb bound (get_or entries i 0))) (λ i l. ap not (lt-leb bound (get_or entries i 0) (h i l)))),
)

-- bytes whose counts, lengths and entries lie inside their sizes
pub record SoundBytes (b : SetupBytes) : Type 0 where
  pub sizes : WithinSizes b.desks b.classes b.processes b.files
  pub rights_length : length b.rights ≡ b.desks * b.classes
  pub desk_length : length b.desk ≡ b.processes
  pub class_length : length b.class ≡ b.files
  pub right_lt : (i : ℕ) → i < length b.rights → get_or b.rights i 0 < right_both + 1
  pub desk_lt : (i : ℕ) → i < length b.desk → get_or b.desk i 0 < b.desks
  pub class_lt : (i : ℕ) → i < length b.class → get_or b.class i 0 < b.classes

-- no refusal is given for bytes exactly where they are sound
pub setup_refusal_iff : (b : SetupBytes) → (setup_refusal b ≡ 0) ↔ SoundBytes b
unfolding setup_refusal slices_match
setup_refusal_iff b =
    let i = unmet_iff (setup_order b) (omega arith) in
    let sizes = within_sizes_iff b.desks b.classes b.processes b.files in
    let slices = met_iff (slices_asked b) in
    let right_lt = some_from_iff (right_both + 1) b.rights in
    let desk_lt = some_from_iff b.desks b.desk in
    let class_lt = some_from_iff b.classes b.class in (
      λ e.
          let (u1, (u10, (u2, (u3, (u4, _))))) = i.0 e in
          let (lr, (ld, (lc, _))) = slices.0 (not-false (slices_match b) u10) in
          record {
            sizes = sizes.0 (not-false _ u1);
            rights_length = eqb-true _ _ lr;
            desk_length = eqb-true _ _ ld;
            class_length = eqb-true _ _ lc;
            right_lt = right_lt.0 u2;
            desk_lt = desk_lt.0 u3;
            class_lt = class_lt.0 u4;
          },
      λ h.
          let matched : slices_match b ≡ true = slices.1 (eq-eqb _ _ h.rights_length, (eq-eqb _ _ h.desk_length, (eq-eqb _ _ h.class_length, tt))) in
          i.1 (
            ap not (sizes.1 h.sizes),
            (ap not matched, (right_lt.1 h.right_lt, (desk_lt.1 h.desk_lt, (class_lt.1 h.class_lt, tt)))),
          ),
    )

-- no entry is the bound or more exactly where all fit below it
pub some_from_fit : (bound : ℕ) (entries : List ℕ) → not (every (length entries) (λ i. entry_fits (length entries) bound i (get_or entries i 0))) ≡ some_from bound entries
unfolding some_from some_below entry_fits
some_from_fit bound entries = ap not (every_cong (length entries) _ _ (λ i l. rw (lt-ltb i (length entries) l) (flipped bound (get_or entries i 0))))
  where
    flipped : (a b : ℕ) → ltb b a ≡ not (leb a b)
    flipped a b = by_test (leb a b) (λ e. le-ltb b a (leb-true a b e) ∙ ap not (sym e)) (λ e. lt-ltb b a (leb-false a b e) ∙ ap not (sym e))
