-- Laws that the pages name and that no proof of code cites any more: a line that has been begun, and the bytes that have gone by from a cursor.
-- Assumes nothing.
use Prim.Native.Nat.{ℕ, zero, suc, ◌+◌, ◌<◌, ◌≤◌}
use mathlib.Core.Path.{◌≡◌, refl, ap, sym, ◌∙◌}
use mathlib.Core.Bool.{true, false, not, false≢true}
use mathlib.Core.Logic.{◌↔◌}
use mathlib.Core.List.{List, [], ◌∷◌, ◌++◌, append_assoc}
use mathlib.Core.Option.{Option}
use native.Mathlib.Omega.{arith}
use native.Mathlib.Numerals.{add-one}
use borrow.Author.Tests.{eqb-false, ne_eqb, not-true}
use lib.Dec.{eqb}
use lib.ListN.{length, get_or, get_or-eq_default, take, drop, length-append, length-drop}
use lib.Seq.{take-suc, drop-cons}
use Rattle.std.specs.declared.option.Option.TheVariants.{None, Some}
use Rattle.lines.specs.Bytes.{line_feed, tab, digit0}
use Rattle.lines.specs.Decimals.{is_digit, are_digits, starts_well, field_value}
use Rattle.lines.specs.Shapes.{Part, Shape, read_as}
use Rattle.fields.specs.Cursor.{Found, making, first_field, after_field, starts_with, part_of, part_at, line_at}
use Rattle.fields.proofs.Firsts.{field_whole, found_under}
use Rattle.fields.proofs.Composed.{giving, ended, line_last, line_more}

-- what is found, told by its cursor: 0 that there is nothing
abbrev pub told : {A : Type 0} → ℕ → A → Found A
told zero x = None
told (suc next) x = Some (suc next, x)

pub told_some : {A : Type 0} (r : ℕ) (x : A) → (r ≡ 0 → ⊥) → told r x ≡ Some (r, x)
told_some zero x h = absurd (h refl)
told_some (suc r) x h = refl

-- bytes that start with a stop are some
starts_some : (stop : ℕ) (bytes : List ℕ) → starts_with stop bytes ≡ true → 0 < length bytes
starts_some stop [] t = absurd (false≢true t)
starts_some stop (b ∷ bytes) t = omega arith

-- a field that a stop ends lies within the text, and so does its stop
pub part_within : (part : Part) (stop : ℕ) (text : List ℕ) (at : ℕ) {next n : ℕ} → part_at part stop text at ≡ Some (next, n)
    → (at < next) × (next ≤ length text)
unfolding part_at
part_within part stop text at {next} {n} e =
    let rest = drop at text in
    let (t, k, o) = found_under (starts_with stop (after_field rest)) (at + length (first_field rest) + 1) (part_of part (first_field rest)) e in
    let some_left : 0 < length (after_field rest) = starts_some stop (after_field rest) t in
    let l = simp length-append at (ap length (field_whole rest)) in
    let m = length-drop at text in
    (omega arith, omega arith)

-- the same of what is told of a field
pub part_told : (part : Part) (stop : ℕ) (text : List ℕ) (at r n : ℕ) → told r n ≡ part_at part stop text at → (r ≡ 0 → ⊥)
    → (at < r) × (r ≤ length text)
part_told part stop text at r n e h = part_within part stop text at (sym e ∙ told_some r n h)

-- what is told of the last part of a line is told of the line
pub ended_told : (part : Part) (r n : ℕ) → told r (giving part n []) ≡ ended part (told r n)
ended_told part zero n = refl
ended_told part (suc r) n = refl

with_told : (part : Part) (n end : ℕ) (ns : List ℕ) → told end (giving part n ns) ≡ making (giving part n) (told end ns)
with_told part n zero ns = refl
with_told part n (suc end) ns = refl

-- a line that has been begun: its parts have been read as far as a cursor, and it is what is found of the rest from there on, with what
-- was read before it
pub record Begun {A : Type 0} (read : List (List ℕ) → Option A) (text : List ℕ) (at : ℕ) (rest : Shape) (from : ℕ) (front : List ℕ → A) : Type 0 where
  pub within : from ≤ length text
  pub goes : (end : ℕ) (ns : List ℕ) → told end ns ≡ line_at (read_as rest) text from → told end (front ns) ≡ line_at read text at

-- none of it is read yet
pub begun : (shape : Shape) (text : List ℕ) (at : ℕ) → at ≤ length text → Begun (read_as shape) text at shape at (λ ns. ns)
begun shape text at h = record { within = h; goes = λ end ns e. e }

-- where a part is found the line is what follows it, with its number before
pub line-goes : (part next : Part) (parts : Shape) (text : List ℕ) (at r n end : ℕ) (ns : List ℕ) → told r n ≡ part_at part tab text at
    → (r ≡ 0 → ⊥) → told end ns ≡ line_at (read_as (next ∷ parts)) text r → told end (giving part n ns) ≡ line_at (read_as (part ∷ next ∷ parts)) text at
line-goes part next parts text at r n end ns e h k =
    let here : part_at part tab text at ≡ Some (r, n) = sym e ∙ told_some r n h in
    with_told part n end ns ∙ sym (line_more part next parts text at ∙ rw (here, ← k))

module _ {A : Type 0} {read : List (List ℕ) → Option A} {text : List ℕ} {at : ℕ} {part : Part} {from : ℕ} {front : List ℕ → A} where
  -- one part more
  pub begun_more : {next : Part} {parts : Shape} → Begun read text at (part ∷ next ∷ parts) from front → {r : ℕ} (n : ℕ) → told r n ≡ part_at part tab text from
      → (r ≡ 0 → ⊥) → Begun read text at (next ∷ parts) r (λ ns. front (giving part n ns))
  begun_more {next} {parts} b {r} n e h = record {
    within = (part_told part tab text from r n e h).1;
    goes = λ end ns k. b.goes end (giving part n ns) (line-goes part next parts text from r n end ns e h k);
  }

  -- the last part
  pub begun_ends : Begun read text at (part ∷ []) from front → (r n : ℕ) → told r n ≡ part_at part line_feed text from
      → told r (front (giving part n [])) ≡ line_at read text at
  begun_ends b r n e = b.goes r (giving part n []) (ended_told part r n ∙ ap (ended part) e ∙ sym (line_last part text from))

-- bytes have gone by from a cursor to another
pub record Scanned (text : List ℕ) (at i : ℕ) (front : List ℕ) : Type 0 where
  pub goes : drop at text ≡ front ++ drop i text
  pub long : at + length front ≡ i

pub scanned_none : (text : List ℕ) (at i : ℕ) → i ≡ at → Scanned text at i []
scanned_none text at i e = record { goes = rw e; long = omega arith }

module _ (text : List ℕ) (at i : ℕ) (front : List ℕ) (s : Scanned text at i front) (l : i < length text) where
  -- the byte at the cursor is the next
  pub scanned_next : drop at text ≡ front ++ (get_or text i 0 ∷ drop (i + 1) text)
  scanned_next = s.goes ∙ rw (add-one, drop-cons text i 0)

  pub scanned_more : Scanned text at (i + 1) (front ++ (get_or text i 0 ∷ []))
  scanned_more = record { goes = scanned_next ∙ sym (append_assoc front _ _); long = rw length-append (omega (arith, s.long)) }

-- one byte more of the word has gone by
pub word_more : (word text : List ℕ) (at i : ℕ) → i < length word → at + i < length text → Scanned text at (at + i) (take i word)
    → get_or text (at + i) 0 ≡ get_or word i 0 → Scanned text at (at + (i + 1)) (take (i + 1) word)
word_more word text at i l b s e =
    let more = rw e at (scanned_more text at (at + i) (take i word) s b) in
    let far : at + i + 1 ≡ at + (i + 1) = omega arith in
    rw (← far, add-one i, take-suc word i 0) more

-- a field starts well where it is not empty, and is one byte where that is the digit 0
pub starts_iff : (xs : List ℕ) → (starts_well xs ≡ true) ↔ ((0 < length xs) × (get_or xs 0 0 ≡ digit0 → length xs ≤ 1))
starts_iff [] = (λ e. absurd (false≢true e), λ h. absurd (omega arith))
starts_iff (x ∷ []) = (λ e. (omega arith, λ z. omega arith), λ h. refl)
starts_iff (x ∷ (y ∷ xs)) = (
  λ e. (omega arith, λ z. absurd (eqb-false x digit0 (not-true (eqb x digit0) e) z)),
  λ h. ap not (ne_eqb x digit0 (λ z. omega (arith, h.1 z))),
)

-- no digit stands past the end
pub no_digit_past : (text : List ℕ) (i : ℕ) → length text ≤ i → is_digit (get_or text i 0) ≡ false
no_digit_past text i l = rw (get_or-eq_default text 0 l)

-- the digits that have gone by, and their value
pub record Counted (text : List ℕ) (at i value : ℕ) : Type 0 where
  pub front : List ℕ
  pub scanned : Scanned text at i front
  pub digits : are_digits front ≡ true
  pub worth : field_value front ≡ value

pub counted_none : (text : List ℕ) (at : ℕ) → Counted text at at 0
counted_none text at = record { front = []; scanned = scanned_none text at at refl; digits = refl; worth = refl }
