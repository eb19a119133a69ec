-- Laws of the rights that are read: a pair's right is that of its access line, and absent pairs have none.
-- Assumes nothing.
use Prim.Native.Nat.{ℕ, ◌+◌, ◌*◌, ◌/◌, ◌%◌, ◌<◌, ◌≤◌}
use mathlib.Core.Path.{◌≡◌, refl, ◌∙◌}
use mathlib.Core.Bool.{true, false, ◌&&◌, and-eq-true_iff, and-false}
use mathlib.Core.List.{List, [], ◌∷◌}
use native.Mathlib.Omega.{arith}
use borrow.Author.Tests.{ltb-true, eqb-true, not-false, lt-ltb, eq-eqb, ne_eqb}
use lib.Arith.{digits_lt, digits_div, digits_mod}
use lib.Dec.{ltb, eqb}
use Rattle.rules.specs.Sizes.{most_desks, most_classes, most_rights, table}
use Rattle.rules.specs.Setups.{right_of, given_right, setup_from}
use Rattle.rules.proofs.Lists.{by_test, cond_holds}
use Rattle.rules.proofs.Sizes.{get_or-table}
use Rattle.rules.proofs.Refusals.{unmet_iff}
use Rattle.lines.specs.Shapes.{Access}
use Rattle.lines.specs.Readings.{SoFar, at_start, sound, rises, access_order, Text, read_text, right_read, bytes_read}
use Rattle.lines.proofs.Kept.{Keeps, read_keeps}

-- an access line comes before another: "by desk, then class"
pub data Before (a b : Access) : Type 0 where
  by_desk : a.desk < b.desk → Before a b
  by_class : a.desk ≡ b.desk → a.class < b.class → Before a b

before_trans : {a b c : Access} → Before a b → Before b c → Before a c
before_trans (by_desk h) (by_desk k) = by_desk (omega arith)
before_trans (by_desk h) (by_class e k) = by_desk (omega arith)
before_trans (by_class e h) (by_desk k) = by_desk (omega arith)
before_trans (by_class e h) (by_class q k) = by_class (e ∙ q) (omega arith)

-- the lines of a list, the last first, all come before a line
abbrev pub AllBefore : List Access → Access → Type 0
AllBefore [] a = Unit {0}
AllBefore (b ∷ rest) a = Before b a × AllBefore rest a

-- and each before those that were read after it: strictly rising
abbrev pub Risen : List Access → Type 0
Risen [] = Unit {0}
Risen (a ∷ rest) = AllBefore rest a × Risen rest

all_before : (rest : List Access) (b a : Access) → AllBefore rest b → Before b a → AllBefore rest a
all_before [] b a h k = tt
all_before (c ∷ rest) b a h k = (before_trans h.0 k, all_before rest b a h.1 k)

rises_before : (b a : Access) (earlier : List Access) → rises (b ∷ earlier) a ≡ true → Before b a
rises_before b a earlier e =
    by_test (ltb b.desk a.desk) (λ t. by_desk (ltb-true b.desk a.desk t))
    (λ f.
    let (d, c) = (and-eq-true_iff (eqb b.desk a.desk) (ltb b.class a.class)).0 (rw f at e) in
    by_class (eqb-true b.desk a.desk d) (ltb-true b.class a.class c))

-- a line that rises from the last of lines that have risen leaves them risen
pub risen_more : (lines : List Access) (a : Access) → Risen lines → rises lines a ≡ true → Risen (a ∷ lines)
risen_more [] a h e = (tt, tt)
risen_more (b ∷ earlier) a h e =
    let k = rises_before b a earlier e in
    ((k, all_before earlier b a h.0 k), h)

-- a line stands among others
pub data Among (a : Access) : List Access → Type 0 where
  here : {rest : List Access} → Among a (a ∷ rest)
  there : {b : Access} {rest : List Access} → Among a rest → Among a (b ∷ rest)

among_before : {a b : Access} (rest : List Access) → Among a rest → AllBefore rest b → Before a b
among_before {a = a} {b = b} [] x h = elim x [ ]
among_before (c ∷ rest) here h = h.0
among_before (c ∷ rest) (there m) h = among_before rest m h.1

-- a pair of two lines that come one before the other is not one pair
pair_apart : (a b : Access) → Before a b → eqb b.desk a.desk && eqb b.class a.class ≡ false
pair_apart a b (by_desk h) = rw (ne_eqb b.desk a.desk (omega arith))
pair_apart a b (by_class e h) = rw (ne_eqb b.class a.class (omega arith)) (and-false (eqb b.desk a.desk))

-- the right of a pair is that of its access line
pub right_of_line : (lines : List Access) (a : Access) → Risen lines → Among a lines → right_read lines a.desk a.class ≡ a.right
unfolding right_read
right_of_line [] a h x = elim x [ ]
right_of_line (b ∷ rest) a h here = rw (eq-eqb a.desk a.desk refl, eq-eqb a.class a.class refl)
right_of_line (b ∷ rest) a h (there m) = rw (pair_apart a b (among_before rest m h.0)) (right_of_line rest a h.1 m)

-- "with absent pairs meaning none"
pub right_absent : (lines : List Access) (d t : ℕ) → ((a : Access) → Among a lines → a.desk ≡ d → a.class ≡ t → ⊥) → right_read lines d t ≡ 0
unfolding right_read
right_absent [] d t h = refl
right_absent (b ∷ rest) d t h =
    cond_holds (λ (r : ℕ). r ≡ 0) (eqb b.desk d && eqb b.class t)
    (λ e.
    let (x, y) = (and-eq-true_iff (eqb b.desk d) (eqb b.class t)).0 e in
    absurd (h b here (eqb-true b.desk d x) (eqb-true b.class t y)))
    (λ f. right_absent rest d t (λ a m. h a (there m)))

-- and it is the right of the setup that is read
pub read_right : (s : SoFar) (d t : ℕ) → s.counts.desks ≤ most_desks → s.counts.classes ≤ most_classes → d < s.counts.desks → t < s.counts.classes
    → right_of (setup_from (bytes_read s)) d t ≡ right_read s.access d t
unfolding setup_from bytes_read given_right
read_right s d t md mt k l =
    let c = s.counts.classes in
    let rights : ℕ → ℕ = λ i. right_read s.access (i / c) (i % c) in
    let own : List ℕ = table (s.counts.desks * c) rights in
    let small : t < most_classes = omega arith in
    get_or-table most_rights (λ i. given_right own c (i / most_classes) (i % most_classes)) (d * most_classes + t) 0 (omega arith)
    ∙ rw (digits_div d small, digits_mod d small, lt-ltb t c l, get_or-table (s.counts.desks * c) rights (d * c + t) 0 (digits_lt k l), digits_div d l, digits_mod d l)

risen : Keeps (λ d s. Risen s.access)
unfolding at_start
risen =
    record {
      start = tt;
      header = λ h z. tt;
      access =
          λ s fields a e z h.
          risen_more s.access a h (not-false (rises s.access a) ((unmet_iff (access_order s a) (omega arith)).0 z).1.1.0);
      no_access = λ s h. h;
      process = λ s p z h. h;
      file = λ s f z h. h;
      calls = λ s h. h;
      call = λ s fields n e z h. h;
    }

-- the access lines of a text that is read have risen
pub read_risen : (t : Text) (text : List ℕ) (s : SoFar) → read_text t text ≡ sound s → Risen s.access
read_risen t text s e = read_keeps risen t text s e
