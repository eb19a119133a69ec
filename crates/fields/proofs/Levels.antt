-- What is found at a cursor, of values of every level, where std's Option holds those of the lowest alone: a line that has been begun, what a line
-- that is found is, and that at the lowest level all this is of what contracts cite.
-- Assumes nothing.
use Prim.Native.Nat.{ℕ, zero, suc, ◌+◌, ◌<◌, ◌≤◌}
use mathlib.Core.Path.{◌≡◌, refl, ap, sym, ◌∙◌}
use mathlib.Core.Bool.{Bool, true, false, cond}
use mathlib.Core.Logic.{◌⊎◌, inl, inr}
use mathlib.Core.List.{List, [], ◌∷◌, ◌++◌}
use mathlib.Core.Option.{Option, some, none}
use native.Mathlib.Omega.{arith}
use lib.ListN.{length, drop, length-append, length-drop}
use Rattle.std.specs.declared.option.Option.TheVariants.{None, Some}
use Rattle.lines.specs.Bytes.{line_feed, tab}
use Rattle.lines.specs.Lines.{fields_of}
use Rattle.lines.specs.Shapes.{Part, Shape, read_as}
use Rattle.lines.proofs.Lines.{holds_no}
use Rattle.lines.proofs.Shapes.{none_some}
use Rattle.fields.specs.Cursor as code
use Rattle.fields.specs.Cursor.{first_field, after_field, starts_with, part_of, first_line, is_whole}
use Rattle.fields.proofs.Firsts.{drop_past, line-without, whole_line}
use Rattle.fields.proofs.Composed.{giving, ended, line_last}
use Rattle.fields.proofs.Begun as lowest

-- what is found: the cursor after it, which is never 0, and what was read; or nothing
abbrev pub Found {ℓ} : Type ℓ → Type ℓ
Found A = Option (ℕ × A)

abbrev pub found_at {ℓ} : {A : Type ℓ} → ℕ → Option A → Found A
found_at next none = none
found_at next (some x) = some (next, x)

-- and told by a cursor: by one of 0 that there is nothing
abbrev pub told {ℓ} : {A : Type ℓ} → ℕ → A → Found A
told zero x = none
told (suc next) x = some (suc next, x)

-- the first field from a cursor on, as a part, where this stop ends it
unfoldable pub part_at : Part → ℕ → List ℕ → ℕ → Found ℕ
part_at part stop text at =
    let rest = drop at text in
    let field = first_field rest in
    cond (starts_with stop (after_field rest)) (found_at (at + length field + 1) (part_of part field)) none

-- the first line from a cursor on, where it is whole, as what its fields are read as
unfoldable pub line_at {ℓ} : {A : Type ℓ} → (List (List ℕ) → Option A) → List ℕ → ℕ → Found A
line_at read text at =
    let rest = drop at text in
    let bytes = first_line rest in
    cond (is_whole rest) (found_at (at + length bytes + 1) (read (fields_of bytes))) none

-- what is found, as contracts cite it; and back
abbrev pub in_code : {A : Type 0} → Found A → code.Found A
in_code none = None
in_code (some found) = Some found

abbrev from_code : {A : Type 0} → code.Found A → Found A
from_code None = none
from_code (Some found) = some found

there_and_back : {A : Type 0} (found : Found A) → from_code (in_code found) ≡ found
there_and_back none = refl
there_and_back (some found) = refl

told_in_code : {A : Type 0} (r : ℕ) (x : A) → in_code (told r x) ≡ lowest.told r x
told_in_code zero x = refl
told_in_code (suc r) x = refl

in_code_under : {A : Type 0} (test : Bool) (k : ℕ) (o : Option A) → in_code (cond test (found_at k o) none) ≡ cond test (code.found_at k o) None
in_code_under false k o = refl
in_code_under true k none = refl
in_code_under true k (some x) = refl

pub part_in_code : (part : Part) (stop : ℕ) (text : List ℕ) (at : ℕ) → in_code (part_at part stop text at) ≡ code.part_at part stop text at
unfolding part_at code.part_at
part_in_code part stop text at =
    let rest = drop at text in
    in_code_under (starts_with stop (after_field rest)) (at + length (first_field rest) + 1) (part_of part (first_field rest))

pub line_in_code : {A : Type 0} (read : List (List ℕ) → Option A) (text : List ℕ) (at : ℕ) → in_code (line_at read text at) ≡ code.line_at read text at
unfolding line_at code.line_at
line_in_code read text at =
    let bytes = first_line (drop at text) in
    in_code_under (is_whole (drop at text)) (at + length bytes + 1) (read (fields_of bytes))

-- so what is told of a part or of a line is told of it in contracts, and the other way round
module _ (text : List ℕ) (at : ℕ) where
  pub part_told_in_code : (part : Part) (stop r n : ℕ) → told r n ≡ part_at part stop text at → lowest.told r n ≡ code.part_at part stop text at
  part_told_in_code part stop r n e = sym (told_in_code r n) ∙ ap in_code e ∙ part_in_code part stop text at

  module _ {A : Type 0} (read : List (List ℕ) → Option A) (r : ℕ) (x : A) where
    pub line_told_in_code : told r x ≡ line_at read text at → lowest.told r x ≡ code.line_at read text at
    line_told_in_code e = sym (told_in_code r x) ∙ ap in_code e ∙ line_in_code read text at

    pub line_told_from_code : lowest.told r x ≡ code.line_at read text at → told r x ≡ line_at read text at
    line_told_from_code e =
        sym (there_and_back (told r x))
        ∙ ap from_code (told_in_code r x ∙ e ∙ sym (line_in_code read text at))
        ∙ there_and_back (line_at read text at)

-- a line that has been begun: its parts have been read as far as a cursor, and it is what is found of the rest from there on, with what
-- was read before it
pub record Begun {ℓ} {A : Type ℓ} (read : List (List ℕ) → Option A) (text : List ℕ) (at : ℕ) (rest : Shape) (from : ℕ) (front : List ℕ → A) : Type ℓ where
  pub within : from ≤ length text
  pub goes : (end : ℕ) (ns : List ℕ) → told end ns ≡ line_at (read_as rest) text from → told end (front ns) ≡ line_at read text at

-- none of it is read yet
pub begun : (shape : Shape) (text : List ℕ) (at : ℕ) → at ≤ length text → Begun (read_as shape) text at shape at (λ ns. ns)
begun shape text at h = record { within = h; goes = λ end ns e. e }

-- what is told of the last part of a line is told of the line
pub line_ends : (part : Part) (text : List ℕ) (at r n : ℕ) → told r n ≡ part_at part line_feed text at
    → told r (giving part n []) ≡ line_at (read_as (part ∷ [])) text at
line_ends part text at r n e =
    line_told_from_code text at (read_as (part ∷ [])) r (giving part n [])
    (lowest.ended_told part r n ∙ ap (ended part) (part_told_in_code text at part line_feed r n e) ∙ sym (line_last part text at))

-- where a part is found the line is what follows it, with its number before
pub line-goes : (part next : Part) (parts : Shape) (text : List ℕ) (at r n end : ℕ) (ns : List ℕ) → told r n ≡ part_at part tab text at
    → (r ≡ 0 → ⊥) → told end ns ≡ line_at (read_as (next ∷ parts)) text r → told end (giving part n ns) ≡ line_at (read_as (part ∷ next ∷ parts)) text at
line-goes part next parts text at r n end ns e h k =
    line_told_from_code text at (read_as (part ∷ next ∷ parts)) end (giving part n ns)
    (lowest.line-goes part next parts text at r n end ns (part_told_in_code text at part tab r n e) h (line_told_in_code text r (read_as (next ∷ parts)) end ns k))

module _ {ℓ} {A : Type ℓ} {read : List (List ℕ) → Option A} {text : List ℕ} {at : ℕ} {part : Part} {from : ℕ} {front : List ℕ → A} where
  module _ {next : Part} {parts : Shape} (b : Begun read text at (part ∷ next ∷ parts) from front) where
    -- one part more
    pub begun_more : {r : ℕ} (n : ℕ) → told r n ≡ part_at part tab text from → (r ≡ 0 → ⊥)
        → Begun read text at (next ∷ parts) r (λ ns. front (giving part n ns))
    begun_more {r} n e h = record {
      within = (lowest.part_told part tab text from r n (part_told_in_code text from part tab r n e) h).1;
      goes = λ end ns k. b.goes end (giving part n ns) (line-goes part next parts text from r n end ns e h k);
    }

  -- the last part
  pub begun_ends : Begun read text at (part ∷ []) from front → (r n : ℕ) → told r n ≡ part_at part line_feed text from
      → told r (front (giving part n [])) ≡ line_at read text at
  begun_ends b r n e = b.goes r (giving part n []) (line_ends part text from r n e)

-- what is found under a test was there, with the cursor and what was read
pub found_under {ℓ} : {A : Type ℓ} (test : Bool) (k : ℕ) (o : Option A) {next : ℕ} {x : A} → cond test (found_at k o) none ≡ some (next, x)
    → (test ≡ true) × (next ≡ k) × (o ≡ some x)
found_under false k o e = absurd (none_some e)
found_under true k none e = absurd (none_some e)
found_under {A} true k (some y) {next} {x} e =
    let both : ◌≡◌ {A = ℕ × A} (k, y) (next, x) = cc in
    (refl, sym (ap (λ (p : ℕ × A). p.0) both), ap (λ (p : ℕ × A). some p.1) both)

-- and where nothing is found the test failed, or what was read is nothing
pub none_under {ℓ} : {A : Type ℓ} (test : Bool) (k : ℕ) (o : Option A) → cond test (found_at k o) none ≡ none
    → ((test ≡ true) × (o ≡ none)) ⊎ (test ≡ false)
none_under false k o e = inr refl
none_under true k none e = inl (refl, refl)
none_under true k (some y) e = absurd (none_some (sym e))

-- a line that is found is the bytes from the cursor as far as the next LF, and the cursor after it is past that LF
pub record LineFound {ℓ} {A : Type ℓ} (read : List (List ℕ) → Option A) (text : List ℕ) (at next : ℕ) (x : A) : Type ℓ where
  pub here : drop at text ≡ first_line (drop at text) ++ (line_feed ∷ drop next text)
  pub plain : holds_no line_feed (first_line (drop at text)) ≡ true
  pub past : next ≡ at + length (first_line (drop at text)) + 1
  pub reads : read (fields_of (first_line (drop at text))) ≡ some x

pub line_found {ℓ} : {A : Type ℓ} (read : List (List ℕ) → Option A) (text : List ℕ) (at : ℕ) {next : ℕ} {x : A}
    → line_at read text at ≡ some (next, x) → LineFound read text at next x
unfolding line_at
line_found read text at {next} {x} e =
    let rest = drop at text in
    let bytes = first_line rest in
    let (w, k, o) = found_under (is_whole rest) (at + length bytes + 1) (read (fields_of bytes)) e in
    let whole = whole_line rest w in
    let after : drop (length bytes + 1) rest ≡ drop next text = rw k (sym (drop_past text at line_feed bytes (drop (length bytes + 1) rest) whole)) in
    record { here = whole ∙ ap (λ (more : List ℕ). bytes ++ (line_feed ∷ more)) after; plain = line-without rest; past = k; reads = o }

-- where none is found there is a whole line that is not read so, or no whole line
pub line_none {ℓ} : {A : Type ℓ} (read : List (List ℕ) → Option A) (text : List ℕ) (at : ℕ) → line_at read text at ≡ none
    → ((is_whole (drop at text) ≡ true) × (read (fields_of (first_line (drop at text))) ≡ none)) ⊎ (is_whole (drop at text) ≡ false)
unfolding line_at
line_none read text at e =
    let bytes = first_line (drop at text) in
    none_under (is_whole (drop at text)) (at + length bytes + 1) (read (fields_of bytes)) e

-- a line that is found lies within the text, and so does its LF
pub line-within {ℓ} : {A : Type ℓ} (read : List (List ℕ) → Option A) (text : List ℕ) (at : ℕ) {next : ℕ} {x : A}
    → line_at read text at ≡ some (next, x) → (at < next) × (next ≤ length text)
line-within read text at {next} {x} e =
    let found = line_found read text at e in
    let l = simp length-append at (ap length found.here) in
    let m = length-drop at text in
    let p = found.past in
    (omega arith, omega arith)
