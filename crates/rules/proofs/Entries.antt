-- Laws of what the entries answer: a refused call changes nothing, one that is run changes at most one file and keeps a store fitting,
-- a fresh store is given for an accepted setup, and a setup is accepted exactly when its own bytes give it.
-- Assumes nothing.
use Prim.Native.Nat.{ℕ, zero, suc, ◌+◌, ◌*◌, ◌/◌, ◌%◌, ◌<◌, ◌≤◌}
use mathlib.Core.Path.{◌≡◌, refl, ap, sym, ◌∙◌, subst}
use mathlib.Core.Bool.{true, false}
use mathlib.Core.Logic.{◌↔◌, ◌≢◌}
use mathlib.Core.List.{List}
use native.Mathlib.Nat.{mod-lt, mul-le-mul_right, div-add-mod', div-lt_iff_lt-mul}
use native.Mathlib.Omega.{arith}
use borrow.Author.Tests.{ltb-true, ltb-false, lt-ltb}
use lib.Arith.{digits_lt, digits_div, digits_mod}
use lib.Dec.{ltb}
use lib.ListN.{length, get_or, get_or-eq_default}
use Rattle.rules.specs.Sizes.{most_desks, most_classes, most_processes, most_files, most_rights, table}
use Rattle.rules.specs.Setups.{right_both, desk_of, class_of, right_of, classes_at, accepted, SetupBytes, given_right, setup_from, blank_setup}
use Rattle.rules.specs.Stores.{fresh_store, fits, misfit}
use Rattle.rules.specs.Calls.{call_of, answer_to, next_store}
use Rattle.rules.specs.Parts.{changeable}
use Rattle.rules.specs.Refusals.{setup_refusal, call_refusal, fresh_refusal, judge_refusal, numbers_refusal}
use Rattle.rules.specs.Entries.{unless, acceptance, freshness, outcome, called, ran}
use Rattle.rules.specs.declared.Numbers.{Numbers}
use Rattle.rules.specs.declared.Setup.{Setup}
use Rattle.rules.specs.declared.Store.{Store}
use Rattle.rules.specs.declared.Answer.TheVariants.{Refused}
use Rattle.rules.specs.declared.GivenSetup.{GivenSetup}
use Rattle.rules.proofs.Told.{unless_refused}
use Rattle.rules.proofs.Lists.{by_test, cond_holds}
use Rattle.rules.proofs.Sizes.{length-table, get_or-table, table_is}
use Rattle.rules.proofs.Setups.{Entries, classes_at-before, classes_at_past, accepted_iff, accepted_sizes, desk_of-lt, class_of-lt, right_of-lt, right_of_past, desk_of_past, class_of_past}
use Rattle.rules.proofs.Stores.{fresh_store-fits, Kept, kept}
use Rattle.rules.proofs.Calls.{next_store-fits, next_store_other}
use Rattle.rules.proofs.Refusals.{judge_refusal_iff, call_refusal_iff, call_refusal-judged, numbers_exist, setup_refusal_iff}

-- on a setup and a store that nothing is held against, a call does what it does on those that were judged before
pub called-judged : (s : Setup) (m : Store) (n : Numbers) → judge_refusal s m ≡ 0 → called s m n ≡ ran s m n
unfolding called ran
called-judged s m n e = ap (outcome s m n) (call_refusal-judged s m n e)

-- what holds of the store as it is, and of the next one where no refusal is given, holds of the store handed back
pub outcome_holds {ℓ} : (P : Store → Type ℓ) (s : Setup) (m : Store) (n : Numbers) (refusal : ℕ) → P m → (refusal ≡ 0 → P (next_store s m (call_of n))) → P (outcome s m n refusal).store
outcome_holds P s m n zero p h = h refl
outcome_holds P s m n (suc refusal) p h = p

module _ (s : Setup) (m : Store) (n : Numbers) where
  -- a call that no refusal is given for is run
  pub called_runs : call_refusal s m n ≡ 0 → called s m n ≡ record { answer = answer_to s m (call_of n); store = next_store s m (call_of n) }
  unfolding called
  called_runs e = ap (outcome s m n) e

  -- "A refused call leaves the store unchanged, gets its answer"
  pub called_refused : call_refusal s m n ≢ 0 → called s m n ≡ record { answer = Refused (call_refusal s m n); store = m }
  unfolding called
  called_refused h = unless_refused (call_refusal s m n) _ _ h

  -- numbers that no refusal is given for keep a store fitting
  pub numbers_fit : accepted s ≡ true → fits s m ≡ true → numbers_refusal s n ≡ 0 → fits s (next_store s m (call_of n)) ≡ true
  numbers_fit a e q = next_store-fits s m (call_of n) a (numbers_exist s n q) e

  -- "Every accepted call keeps a store fitting", and a refused one leaves it as it is
  pub ran-fits : accepted s ≡ true → fits s m ≡ true → fits s (ran s m n).store ≡ true
  unfolding ran
  ran-fits a e = outcome_holds (λ (x : Store). fits s x ≡ true) s m n (numbers_refusal s n) e (numbers_fit a e)

  pub called-fits : fits s m ≡ true → fits s (called s m n).store ≡ true
  unfolding called
  called-fits e =
      outcome_holds (λ (x : Store). fits s x ≡ true) s m n (call_refusal s m n) e
      (λ q. let h = (call_refusal_iff s m n).0 q in numbers_fit ((judge_refusal_iff s m).0 h.0).0 e h.1)

  -- every call changes at most one file, refused or not
  pub called_other : (g : ℕ) → g ≢ changeable (call_of n) → Kept g m (called s m n).store
  unfolding called
  called_other g h =
      outcome_holds (λ (x : Store). Kept g m x) s m n (call_refusal s m n) kept
      (λ e.
      let (judged, sound) = (call_refusal_iff s m n).0 e in
      let most = (accepted_sizes s ((judge_refusal_iff s m).0 judged).0).of_processes.high in
      next_store_other s m (call_of n) g (omega (arith, (numbers_exist s n sound).process, most)) h)

-- the three runs of a setup have the lengths that its type gives them
pub record Shaped (s : Setup) : Type 0 where
  pub rights_length : length s.rights ≡ most_rights
  pub desk_length : length s.desk ≡ most_processes
  pub class_length : length s.class ≡ most_files

-- the right that stands at k, row by desk
abbrev pub own_right : Setup → ℕ → ℕ
own_right s k = right_of s (k / s.classes) (k % s.classes)

-- a setup as bytes: its own counts and entries
unfoldable pub bytes_of : Setup → SetupBytes
bytes_of s =
    record {
      desks = s.desks;
      classes = s.classes;
      processes = s.processes;
      files = s.files;
      rights = table (s.desks * s.classes) (own_right s);
      desk = table s.processes (desk_of s);
      class = table s.files (class_of s);
    }

-- the right at desk d and class t of the setup that bytes give
right_of_given : (b : SetupBytes) (d t : ℕ) → d < most_desks → t < most_classes → right_of (setup_from b) d t ≡ given_right b.rights b.classes d t
unfolding setup_from
right_of_given b d t k l =
    get_or-table most_rights (λ i. given_right b.rights b.classes (i / most_classes) (i % most_classes)) (d * most_classes + t) 0 (omega arith)
    ∙ ap (λ (i : ℕ). given_right b.rights b.classes i ((d * most_classes + t) % most_classes)) (digits_div d l)
    ∙ ap (given_right b.rights b.classes d) (digits_mod d l)

module _ (b : SetupBytes) (d t : ℕ) where
  -- that right is the slice's where both count, and 0 elsewhere
  given_right-before : t < b.classes → given_right b.rights b.classes d t ≡ get_or b.rights (d * b.classes + t) 0
  unfolding given_right
  given_right-before l = rw (lt-ltb t b.classes l)

  given_right_past : length b.rights ≡ b.desks * b.classes → (d < b.desks → b.classes ≤ t) → given_right b.rights b.classes d t ≡ 0
  unfolding given_right
  given_right_past q h =
      cond_holds (λ (r : ℕ). r ≡ 0) (ltb t b.classes)
      (λ e. get_or-eq_default b.rights 0 (omega (arith, mul-le-mul_right b.classes (far (ltb-true t b.classes e))))) (λ e. refl)
    where
      far : t < b.classes → b.desks ≤ d
      far l = by_test (ltb d b.desks) (λ e. absurd (omega (arith, h (ltb-true d b.desks e)))) (ltb-false d b.desks)

-- slice entries below their bound make entries that fit, of the slice laid out with 0 past its end
laid_out : (most count bound : ℕ) (xs : List ℕ) → length xs ≡ count → ((i : ℕ) → i < length xs → get_or xs i 0 < bound) → Entries most count bound (λ i. get_or (table most (λ k. get_or xs k 0)) i 0)
laid_out most count bound xs q h =
    record {
      before = λ i l k. rw (get_or-table most (λ j. get_or xs j 0) i 0 l) (h i (omega arith));
      past = λ i l k. get_or-table most (λ j. get_or xs j 0) i 0 l ∙ get_or-eq_default xs 0 (omega arith);
    }

-- whatever is given from bytes is accepted
pub given_accepted : (b : SetupBytes) → setup_refusal b ≡ 0 → accepted (setup_from b) ≡ true
unfolding setup_from
given_accepted b e =
    let h = (setup_refusal_iff b).0 e in
    (accepted_iff (setup_from b)).1
    (record {
      sizes = h.sizes;
      right =
          λ d k.
          record {
            before =
                λ t l c.
                let (x, y) = classes_at-before (setup_from b) d t c in
                rw (right_of_given b d t k l, given_right-before b d t y) (h.right_lt (d * b.classes + t) (rw h.rights_length (digits_lt x y)));
            past = λ t l c. right_of_given b d t k l ∙ given_right_past b d t h.rights_length ((classes_at_past (setup_from b) d t).0 c);
          };
      desk = laid_out most_processes b.processes b.desks b.desk h.desk_length h.desk_lt;
      class = laid_out most_files b.files b.classes b.class h.class_length h.class_lt;
    })

-- a run that is 0 past a count is the table of the entries before that count, laid out with 0 past it
laid_out_own : (most count : ℕ) (xs : List ℕ) → length xs ≡ most → ((i : ℕ) → i < most → count ≤ i → get_or xs i 0 ≡ 0) → table most (λ k. get_or (table count (λ i. get_or xs i 0)) k 0) ≡ xs
laid_out_own most count xs q h =
    sym
    (table_is most (λ k. get_or (table count own) k 0) xs 0 q
    (λ k l.
    by_test (ltb k count) (λ b. sym (get_or-table count own k 0 (ltb-true k count b)))
    (λ b.
    let c = ltb-false k count b in
    h k l c ∙ sym (get_or-eq_default (table count own) 0 (rw length-table c)))))
  where
    own : ℕ → ℕ
    own i = get_or xs i 0

-- a table's entries are below what they are made below
table-lt : (n bound : ℕ) (entry : ℕ → ℕ) → ((i : ℕ) → i < n → entry i < bound) → (i : ℕ) → i < length (table n entry) → get_or (table n entry) i 0 < bound
table-lt n bound entry h i l =
    let k : i < n = rw length-table at l in
    rw (get_or-table n entry i 0 k) (h i k)

module _ (s : Setup) (e : accepted s ≡ true) where
  -- an accepted setup's own bytes give its own rights
  given_right_own : (d t : ℕ) → d < most_desks → t < most_classes → given_right (bytes_of s).rights s.classes d t ≡ right_of s d t
  unfolding bytes_of
  given_right_own d t k l =
      by_test (ltb t (classes_at s d))
      (λ c.
      let (x, y) = classes_at-before s d t (ltb-true t (classes_at s d) c) in
      given_right-before (bytes_of s) d t y
      ∙ get_or-table (s.desks * s.classes) (own_right s) (d * s.classes + t) 0 (digits_lt x y) ∙ rw (digits_div d y, digits_mod d y))
      (λ c.
      let h = (classes_at_past s d t).0 (ltb-false t (classes_at s d) c) in
      given_right_past (bytes_of s) d t (length-table _ _) h ∙ sym (right_of_past s e d t k l h))

  -- and so they give the setup itself
  setup_from_own : Shaped s → setup_from (bytes_of s) ≡ s
  unfolding setup_from bytes_of
  setup_from_own h =
      λ i.
      record {
        desks = s.desks;
        classes = s.classes;
        processes = s.processes;
        files = s.files;
        rights = rights i;
        desk = laid_out_own most_processes s.processes s.desk h.desk_length (desk_of_past s e) i;
        class = laid_out_own most_files s.files s.class h.class_length (class_of_past s e) i;
      }
    where
      rights : (setup_from (bytes_of s)).rights ≡ s.rights
      rights =
          sym
          (table_is most_rights (λ k. given_right (bytes_of s).rights s.classes (k / most_classes) (k % most_classes)) s.rights 0 h.rights_length
          (λ k l. rw (given_right_own (k / most_classes) (k % most_classes) (omega arith) (omega arith), div-add-mod' k most_classes)))

  -- no refusal is given for an accepted setup's own bytes
  bytes_of_sound : setup_refusal (bytes_of s) ≡ 0
  unfolding bytes_of
  bytes_of_sound =
      let sizes = accepted_sizes s e in
      (setup_refusal_iff (bytes_of s)).1
      (record {
        sizes = sizes;
        rights_length = length-table _ _;
        desk_length = length-table _ _;
        class_length = length-table _ _;
        right_lt =
            table-lt (s.desks * s.classes) (right_both + 1) (own_right s)
            (λ i l.
            right_of-lt s e (i / s.classes) (i % s.classes) (omega (arith, (div-lt_iff_lt-mul {y = s.desks} sizes.of_classes.low).1 l))
            (omega (arith, mod-lt i sizes.of_classes.low)));
        desk_lt = table-lt s.processes s.desks (desk_of s) (λ i l. desk_of-lt s e i (omega arith));
        class_lt = table-lt s.files s.classes (class_of s) (λ i l. class_of-lt s e i (omega arith));
      })

-- bytes that no refusal is given for give their setup
pub acceptance_gives : (b : SetupBytes) → setup_refusal b ≡ 0 → acceptance b ≡ record { refusal = 0; setup = setup_from b }
unfolding acceptance
acceptance_gives b e = ap {B = GivenSetup} (λ n. record { refusal = n; setup = unless n (setup_from b) blank_setup }) e

pub acceptance_refuses : (b : SetupBytes) → setup_refusal b ≢ 0 → acceptance b ≡ record { refusal = setup_refusal b; setup = blank_setup }
unfolding acceptance
acceptance_refuses b h = ap {B = GivenSetup} (λ x. record { refusal = setup_refusal b; setup = x }) (unless_refused (setup_refusal b) _ _ h)

-- an accepted setup is given the fresh store
pub freshness_gives : (s : Setup) → accepted s ≡ true → freshness s ≡ record { refusal = 0; store = fresh_store }
unfolding freshness fresh_refusal
freshness_gives s e = rw e

-- and that store fits it
pub freshness-fits : (s : Setup) → accepted s ≡ true → fits s (freshness s).store ≡ true
freshness-fits s e = rw (freshness_gives s e) (fresh_store-fits s)

-- "Fresh store: 15": any other setup is refused, and beside the number stands a store that fits no setup
pub freshness_refuses : (s : Setup) → accepted s ≡ false → freshness s ≡ record { refusal = 15; store = misfit }
unfolding freshness fresh_refusal
freshness_refuses s e = rw e

-- a setup is accepted exactly when its own counts and entries give it
pub accepted_exactly : (s : Setup) → Shaped s → (accepted s ≡ true) ↔ (acceptance (bytes_of s) ≡ record { refusal = 0; setup = s })
unfolding acceptance
accepted_exactly s h = (
  λ e. acceptance_gives (bytes_of s) (bytes_of_sound s e) ∙ ap {B = GivenSetup} (λ x. record { refusal = 0; setup = x }) (setup_from_own s e h),
  λ q.
      let e : setup_refusal (bytes_of s) ≡ 0 = ap (λ (g : GivenSetup). g.refusal) q in
      subst (λ (x : Setup). accepted x ≡ true) (ap (λ (g : GivenSetup). g.setup) (sym (acceptance_gives (bytes_of s) e) ∙ q))
      (given_accepted (bytes_of s) e),
)
