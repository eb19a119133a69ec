-- Laws of shapes: what it is for fields to have one, and the bounds of the numbers that each kind of line gives.
-- Assumes nothing.
use Prim.Native.Nat.{ℕ, ◌≤◌}
use mathlib.Core.Path.{◌≡◌, refl, sym, subst}
use mathlib.Core.Bool.{Bool, true, ◌&&◌, and-eq-true_iff}
use mathlib.Core.Logic.{◌↔◌}
use mathlib.Core.List.{List, [], ◌∷◌}
use mathlib.Core.Option.{Option, some, none}
use native.Mathlib.Omega.{arith}
use borrow.Author.Tests.{leb-true, eqb-true, eq-eqb}
use lib.Dec.{leb, eqb}
use Rattle.rules.specs.Sizes.{most_number}
use Rattle.rules.specs.Setups.{right_both}
use Rattle.rules.specs.Calls.{Is32}
use Rattle.rules.specs.declared.Numbers.{Numbers}
use Rattle.rules.proofs.Lists.{by_test}
use Rattle.lines.specs.Bytes.{same}
use Rattle.lines.specs.Decimals.{number_of}
use Rattle.lines.specs.Shapes.{Named, named, the_word, a_number, one_of, Shape, before, read_as, made, Access, right_words, access_shape, access_from, access_line, plain_words, extra_words, plain_shape, extra_shape, call_from, either, call_line}
use Rattle.lines.proofs.Decimals.{number_of_iff}

-- what is nothing is not something
pub none_some {ℓ} : {A : Type ℓ} {x : A} → ◌≡◌ {A = Option A} none (some x) → ⊥
none_some {x} e = let z : ◌≡◌ {A = ℕ} 0 1 = cc in omega arith

-- a field is a word exactly when it is its bytes
pub same_iff : (xs ys : List ℕ) → (same xs ys ≡ true) ↔ (xs ≡ ys)
unfolding same
same_iff [] [] = (λ e. refl, λ e. refl)
same_iff [] (y ∷ ys) = (λ e. (cc), λ e. (cc))
same_iff (x ∷ xs) [] = (λ e. (cc), λ e. (cc))
same_iff (x ∷ xs) (y ∷ ys) = (
  λ e.
      let (q, r) = (and-eq-true_iff (eqb x y) (same xs ys)).0 e in
      let head = eqb-true x y q in
      let rest = (same_iff xs ys).0 r in
      cc,
  λ e.
      let head : x ≡ y = cc in
      let rest : xs ≡ ys = cc in
      (and-eq-true_iff (eqb x y) (same xs ys)).1 (eq-eqb x y head, (same_iff xs ys).1 rest),
)

-- fields that have a shape, one for each part, and the numbers that they give
pub data Reads : Shape → List (List ℕ) → List ℕ → Type 0 where
  reads_none : Reads [] [] []
  reads_word : {w field : List ℕ} {parts : Shape} {fields : List (List ℕ)} {ns : List ℕ} → w ≡ field → Reads parts fields ns
      → Reads (the_word w ∷ parts) (field ∷ fields) ns
  reads_number : {field : List ℕ} {n : ℕ} {parts : Shape} {fields : List (List ℕ)} {ns : List ℕ} → number_of field ≡ some n
      → Reads parts fields ns → Reads (a_number ∷ parts) (field ∷ fields) (n ∷ ns)
  reads_one_of : {words : List Named} {field : List ℕ} {n : ℕ} {parts : Shape} {fields : List (List ℕ)} {ns : List ℕ}
      → named words field ≡ some n → Reads parts fields ns → Reads (one_of words ∷ parts) (field ∷ fields) (n ∷ ns)

-- both are something where together they are
before_some : (o : Option ℕ) (rest : Option (List ℕ)) (ns : List ℕ) → before o rest ≡ some ns
    → (n : ℕ) × (ms : List ℕ) × (o ≡ some n) × (rest ≡ some ms) × (ns ≡ n ∷ ms)
before_some none rest ns e = absurd (none_some e)
before_some (some n) none ns e = absurd (none_some e)
before_some (some n) (some ms) ns e = (n, ms, refl, refl, cc)

pub read_as_reads : (shape : Shape) (fields : List (List ℕ)) (ns : List ℕ) → read_as shape fields ≡ some ns → Reads shape fields ns
unfolding read_as
read_as_reads [] [] ns e =
    let z : [] ≡ ns = cc in
    subst (λ (ms : List ℕ). Reads [] [] ms) z reads_none
read_as_reads [] (field ∷ fields) ns e = absurd (none_some e)
read_as_reads (part ∷ parts) [] ns e = absurd (none_some e)
read_as_reads (the_word w ∷ parts) (field ∷ fields) ns e =
    by_test (same w field) (λ t. reads_word ((same_iff w field).0 t) (read_as_reads parts fields ns (rw t at e)))
    (λ f. absurd (none_some (rw f at e)))
read_as_reads (a_number ∷ parts) (field ∷ fields) ns e =
    let (n, ms, q, r, z) = before_some (number_of field) (read_as parts fields) ns e in
    subst (λ (ks : List ℕ). Reads (a_number ∷ parts) (field ∷ fields) ks) (sym z) (reads_number q (read_as_reads parts fields ms r))
read_as_reads (one_of words ∷ parts) (field ∷ fields) ns e =
    let (n, ms, q, r, z) = before_some (named words field) (read_as parts fields) ns e in
    subst (λ (ks : List ℕ). Reads (one_of words ∷ parts) (field ∷ fields) ks) (sym z) (reads_one_of q (read_as_reads parts fields ms r))

pub reads_read_as : {shape : Shape} {fields : List (List ℕ)} {ns : List ℕ} → Reads shape fields ns → read_as shape fields ≡ some ns
unfolding read_as
reads_read_as reads_none = refl
reads_read_as (reads_word {w = w} {field = field} e r) = rw ((same_iff w field).1 e, reads_read_as r)
reads_read_as (reads_number e r) = rw (e, reads_read_as r)
reads_read_as (reads_one_of e r) = rw (e, reads_read_as r)

-- fields have a shape exactly when they are read by it
pub read_as_iff : (shape : Shape) (fields : List (List ℕ)) (ns : List ℕ) → (read_as shape fields ≡ some ns) ↔ Reads shape fields ns
read_as_iff shape fields ns = (read_as_reads shape fields ns, reads_read_as)

-- no word of a list stands for more than a bound
at_most : ℕ → List Named → Bool
at_most bound [] = true
at_most bound (n ∷ more) = leb n.1 bound && at_most bound more

named-le : (bound : ℕ) (words : List Named) (field : List ℕ) (n : ℕ) → at_most bound words ≡ true → named words field ≡ some n → n ≤ bound
unfolding at_most
named-le bound [] field n h e = absurd (none_some e)
named-le bound (w ∷ words) field n h e =
    let (l, rest) = (and-eq-true_iff (leb w.1 bound) (at_most bound words)).0 h in
    by_test (same w.0 field)
    (λ t.
    let q : w.1 ≡ n = cc (rw t at e) in
    rw q at (leb-true w.1 bound l)) (λ f. named-le bound words field n rest (rw f at e))

-- what was made of numbers was made of some
made_some {ℓ} : {A : Type ℓ} (f : List ℕ → A) (o : Option (List ℕ)) (x : A) → made f o ≡ some x → (ns : List ℕ) × (o ≡ some ns) × (f ns ≡ x)
made_some f none x e = absurd (none_some e)
made_some f (some ns) x e = (ns, refl, cc)

-- `R`, `W` or `RW`: a right on an access line is at most both
access_right : (ns : List ℕ) (fields : List (List ℕ)) → Reads access_shape fields ns → (access_from ns).right ≤ right_both
unfolding at_most
access_right ns fields (reads_word w (reads_number d (reads_number t (reads_one_of {field = field} {n = r} e reads_none)))) =
    named-le right_both right_words field r refl e

pub access_line_right : (fields : List (List ℕ)) (a : Access) → access_line fields ≡ some a → a.right ≤ right_both
unfolding access_line
access_line_right fields a e =
    let (ns, q, z) = made_some access_from (read_as access_shape fields) a e in
    subst (λ (b : Access). b.right ≤ right_both) z (access_right ns fields (read_as_reads access_shape fields ns q))

-- numbers of a call line are any 32-bit numbers
number_le : (field : List ℕ) (n : ℕ) → number_of field ≡ some n → n ≤ most_number
number_le field n e = ((number_of_iff field n).0 e).1

plain_32 : (ns : List ℕ) (fields : List (List ℕ)) → Reads plain_shape fields ns → Is32 (call_from ns)
unfolding at_most
plain_32 ns fields (reads_one_of {field = w} {n = o} e (reads_number {field = u} {n = p} q (reads_number {field = v} {n = f} r reads_none))) =
    record { operation = named-le most_number plain_words w o refl e; process = number_le u p q; file = number_le v f r; extra = omega arith }

extra_32 : (ns : List ℕ) (fields : List (List ℕ)) → Reads extra_shape fields ns → Is32 (call_from ns)
unfolding at_most
extra_32 ns fields (reads_one_of {field = w} {n = o} e (reads_number {field = u} {n = p} q (reads_number {field = v} {n = f} r (reads_number {field = y} {n = x} s reads_none)))) =
    record { operation = named-le most_number extra_words w o refl e; process = number_le u p q; file = number_le v f r; extra = number_le y x s }

either_some {ℓ} : {A : Type ℓ} (P : A → Type 0) (o k : Option A) (x : A) → either o k ≡ some x → (o ≡ some x → P x) → (k ≡ some x → P x) → P x
either_some P none k x e f g = g e
either_some P (some y) k x e f g = f e

pub call_line_32 : (fields : List (List ℕ)) (n : Numbers) → call_line fields ≡ some n → Is32 n
unfolding call_line
call_line_32 fields n e =
    let (ns, q, z) = made_some call_from (either (read_as plain_shape fields) (read_as extra_shape fields)) n e in
    subst (λ (m : Numbers). Is32 m) z
    (either_some (λ (ks : List ℕ). Is32 (call_from ks)) (read_as plain_shape fields) (read_as extra_shape fields) ns q
    (λ r. plain_32 ns fields (read_as_reads plain_shape fields ns r)) (λ r. extra_32 ns fields (read_as_reads extra_shape fields ns r)))
