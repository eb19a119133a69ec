-- The bytes of a text from a cursor on: their first field as a part of a shape, and their first line by its shape.
use Rattle.std.specs.Prelude.{ℕ, ◌+◌, Bool, false, ◌||◌, cond, List, [], ◌∷◌, map, eqb, length, drop}
use Rattle.std.specs.declared.option.Option as code
use Rattle.std.specs.declared.option.Option.TheVariants.{None, Some}
use Rattle.std.specs.Option.{option_map}
use Rattle.std.proofs.Math.Option.{Option, some, none}
use Rattle.lines.specs.Bytes.{line_feed, same}
use Rattle.lines.specs.Lines.{fields_of}
use Rattle.lines.specs.Decimals.{number_of}
use Rattle.lines.specs.Shapes.{Named, named, Part, the_word, a_number, one_of}
use Rattle.fields.specs.Stops.{is_stop}
use Rattle.fields.specs.declared.words.Word.{Word}

-- what code finds: the cursor after it and what was read, or nothing
abbrev pub Found : Type 0 → Type 0
Found A = code.Option (ℕ × A)

abbrev pub found_at : {A : Type 0} → ℕ → Option A → Found A
found_at next none = None
found_at next (some x) = Some (next, x)

-- and what is made of it
abbrev pub making : {A B : Type 0} → (A → B) → Found A → Found B
making f found = option_map (λ (next, x). (next, f x)) found

-- words and their numbers, as code lends them
abbrev pub names_of : List (Word × ℕ) → List Named
names_of words = map (λ w. (w.0.bytes.now, w.1)) words

-- the first field of bytes; and from the stop that ends it on
unfoldable pub first_field : List ℕ → List ℕ
first_field [] = []
first_field (b ∷ rest) = cond (is_stop b) [] (b ∷ first_field rest)

unfoldable pub after_field : List ℕ → List ℕ
after_field [] = []
after_field (b ∷ rest) = cond (is_stop b) (b ∷ rest) (after_field rest)

abbrev pub starts_with : ℕ → List ℕ → Bool
starts_with stop [] = false
starts_with stop (b ∷ rest) = eqb b stop

-- the number that a field is by a part of a shape; for a word that must stand there it is 0
abbrev pub part_of : Part → List ℕ → Option ℕ
part_of (the_word w) field = cond (same w field) (some 0) none
part_of a_number field = number_of field
part_of (one_of words) field = named words field

-- the first field from a cursor on, as a part, where this stop ends it
unfoldable pub part_at : Part → ℕ → List ℕ → ℕ → Found ℕ
part_at part stop text at =
    let rest = drop at text in
    let field = first_field rest in
    cond (starts_with stop (after_field rest)) (found_at (at + length field + 1) (part_of part field)) None

-- the first line of bytes without its LF; and whether its LF is there
unfoldable pub first_line : List ℕ → List ℕ
first_line [] = []
first_line (b ∷ rest) = cond (eqb b line_feed) [] (b ∷ first_line rest)

unfoldable pub is_whole : List ℕ → Bool
is_whole [] = false
is_whole (b ∷ rest) = eqb b line_feed || is_whole rest

-- the first line from a cursor on, where it is whole, as what its fields are read as
unfoldable pub line_at : {A : Type 0} → (List (List ℕ) → Option A) → List ℕ → ℕ → Found A
line_at read text at =
    let rest = drop at text in
    let bytes = first_line rest in
    cond (is_whole rest) (found_at (at + length bytes + 1) (read (fields_of bytes))) None
