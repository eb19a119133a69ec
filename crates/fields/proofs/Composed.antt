-- Laws of a line read by its shape: it is its parts read one after the other at a moving cursor.
-- Assumes nothing.
use Prim.Native.Nat.{ℕ, ◌+◌}
use mathlib.Core.Path.{◌≡◌, refl, ap, ◌∙◌}
use mathlib.Core.Bool.{Bool, true, false, cond}
use mathlib.Core.List.{List, [], ◌∷◌, ◌++◌, append-nil}
use mathlib.Core.Option.{Option, some, none}
use native.Mathlib.Omega.{arith}
use lib.Dec.{eqb}
use lib.ListN.{length, drop, length-append}
use Rattle.std.specs.Option.{option_and_then, option_or}
use Rattle.std.specs.declared.option.Option.TheVariants.{None}
use Rattle.rules.proofs.Lists.{by_test}
use Rattle.lines.specs.Bytes.{line_feed, tab, same}
use Rattle.lines.specs.Lines.{fields_of}
use Rattle.lines.specs.Decimals.{number_of}
use Rattle.lines.specs.Shapes.{named, Part, the_word, a_number, one_of, Shape, before, read_as, made, either, header_from, header_shape, header_line, access_from, access_shape, access_line, calls_shape, calls_line, call_from, plain_shape, extra_shape, call_line}
use Rattle.lines.proofs.Lines.{holds_no, first_piece, pieces_last, pieces_first}
use Rattle.fields.specs.Cursor.{Found, found_at, making, after_field, part_of, part_at, first_line, is_whole, line_at}
use Rattle.fields.proofs.Firsts.{FirstStop, no_stop_left, tab_stop, feed_stop, first_stop, part_here, drop_past, first_line_past, is_whole_past}

-- the number of a part before those of the parts that follow; a word gives none
abbrev pub giving : Part → ℕ → List ℕ → List ℕ
giving (the_word w) n ns = ns
giving a_number n ns = n ∷ ns
giving (one_of words) n ns = n ∷ ns

-- a part that was read, before what follows it
abbrev pub joining : Part → Option ℕ → Option (List ℕ) → Option (List ℕ)
joining part none rest = none
joining part (some n) none = none
joining part (some n) (some ns) = some (giving part n ns)

-- the last part of a line; and another, with what is found after it
abbrev pub ended : Part → Found ℕ → Found (List ℕ)
ended part found = making (λ n. giving part n []) found

abbrev pub followed : Part → Found ℕ → (ℕ → Found (List ℕ)) → Found (List ℕ)
followed part found after = option_and_then (λ (next, n). making (giving part n) (after next)) found

word_joining : (w : List ℕ) (rest : Option (List ℕ)) → rest ≡ joining (the_word w) (some 0) rest
word_joining w none = refl
word_joining w (some ns) = refl

number_joining : (part : Part) (o : Option ℕ) (rest : Option (List ℕ)) → ((n : ℕ) (ns : List ℕ) → n ∷ ns ≡ giving part n ns)
    → before o rest ≡ joining part o rest
number_joining part none rest h = refl
number_joining part (some n) none h = refl
number_joining part (some n) (some ns) h = ap some (h n ns)

-- a field is read by its part, and then the others by theirs
read_as-joining : (part : Part) (parts : Shape) (field : List ℕ) (fields : List (List ℕ))
    → read_as (part ∷ parts) (field ∷ fields) ≡ joining part (part_of part field) (read_as parts fields)
unfolding read_as
read_as-joining (the_word w) parts field fields =
    by_test (same w field) (λ t. rw t (word_joining w (read_as parts fields))) (λ f. rw f)
read_as-joining a_number parts field fields = number_joining a_number (number_of field) (read_as parts fields) (λ n ns. refl)
read_as-joining (one_of words) parts field fields = number_joining (one_of words) (named words field) (read_as parts fields) (λ n ns. refl)

-- the same at a cursor, whether the line is whole or not
followed-joining : (part : Part) (o : Option ℕ) (rest : Option (List ℕ)) (whole : Bool) (next end : ℕ) (after : ℕ → Found (List ℕ))
    → after next ≡ cond whole (found_at end rest) None → cond whole (found_at end (joining part o rest)) None ≡ followed part (found_at next o) after
followed-joining part none rest true next end after e = refl
followed-joining part none rest false next end after e = refl
followed-joining part (some n) none true next end after e = rw e
followed-joining part (some n) (some ns) true next end after e = rw e
followed-joining part (some n) rest false next end after e = rw e

ended-joining : (part : Part) (o : Option ℕ) (next : ℕ) → found_at next (joining part o (some [])) ≡ ended part (found_at next o)
ended-joining part none next = refl
ended-joining part (some n) next = refl

nothing_after : (part : Part) (o : Option ℕ) (whole : Bool) (end : ℕ) → cond whole (found_at end (joining part o none)) None ≡ None
nothing_after part none true end = refl
nothing_after part (some n) true end = refl
nothing_after part o false end = refl

-- a line whose first field a tab ends: its fields are that field and those of the line after the tab
module _ (read : List (List ℕ) → Option (List ℕ)) (text : List ℕ) (at : ℕ) (field more : List ℕ) where
  line_past_tab : drop at text ≡ field ++ (tab ∷ more) → holds_no tab field ≡ true → holds_no line_feed field ≡ true
      → line_at read text at ≡ cond (is_whole more) (found_at (at + length field + 1 + length (first_line more) + 1) (read (field ∷ fields_of (first_line more)))) None
  unfolding line_at fields_of first_line is_whole
  line_past_tab e w v =
      let long : at + length (field ++ (tab ∷ first_line more)) + 1 ≡ at + length field + 1 + length (first_line more) + 1 = simp length-append (omega arith) in
      rw (e, is_whole_past field (tab ∷ more) v, first_line_past field (tab ∷ more) v, long, pieces_first tab field (first_line more) w)

  -- and one whose first field an LF ends is that field
  line_to_feed : drop at text ≡ field ++ (line_feed ∷ more) → holds_no tab field ≡ true → holds_no line_feed field ≡ true
      → line_at read text at ≡ found_at (at + length field + 1) (read (field ∷ []))
  unfolding line_at fields_of first_line is_whole
  line_to_feed e w v =
      rw (e, is_whole_past field (line_feed ∷ more) v, first_line_past field (line_feed ∷ more) v, append-nil field, pieces_last tab field w)

-- a field that another stop ends, or none, is no part
part_other : (part : Part) (stop other : ℕ) (text : List ℕ) (at : ℕ) (more : List ℕ) → after_field (drop at text) ≡ other ∷ more → eqb other stop ≡ false
    → part_at part stop text at ≡ None
unfolding part_at
part_other part stop other text at more a h = rw (a, h)

part_unended : (part : Part) (stop : ℕ) (text : List ℕ) (at : ℕ) → after_field (drop at text) ≡ [] → part_at part stop text at ≡ None
unfolding part_at
part_unended part stop text at a = rw a

line_unended : (read : List (List ℕ) → Option (List ℕ)) (text : List ℕ) (at : ℕ) → holds_no line_feed (drop at text) ≡ true → line_at read text at ≡ None
unfolding line_at is_whole
line_unended read text at w =
    let unwhole : is_whole (drop at text) ≡ false = rw (append-nil (drop at text)) at (is_whole_past (drop at text) [] w) in
    rw unwhole

last_by_stop : (part : Part) (text : List ℕ) (at : ℕ) → FirstStop (drop at text)
    → line_at (read_as (part ∷ [])) text at ≡ ended part (part_at part line_feed text at)
last_by_stop part text at (no_stop_left w a) = rw (line_unended (read_as (part ∷ [])) text at w, part_unended part line_feed text at a)
last_by_stop part text at (tab_stop field more e w v f a) =
    let (p, ps, q) = first_piece tab (first_line more) in
    let fields : read_as (part ∷ []) (field ∷ fields_of (first_line more)) ≡ joining part (part_of part field) none =
    read_as-joining part [] field (fields_of (first_line more)) ∙ (unfold read_as fields_of in rw q) in
    line_past_tab (read_as (part ∷ [])) text at field more e w v
    ∙ rw (fields, part_other part line_feed tab text at more a refl)
    (nothing_after part (part_of part field) (is_whole more) (at + length field + 1 + length (first_line more) + 1))
last_by_stop part text at (feed_stop field more e w v f a) =
    line_to_feed (read_as (part ∷ [])) text at field more e w v
    ∙ rw (read_as-joining part [] field [], part_here part line_feed text at field more f a)
    (unfold read_as in ended-joining part (part_of part field) (at + length field + 1))

-- the last part of a line
pub line_last : (part : Part) (text : List ℕ) (at : ℕ) → line_at (read_as (part ∷ [])) text at ≡ ended part (part_at part line_feed text at)
line_last part text at = last_by_stop part text at (first_stop (drop at text))

more_by_stop : (part next : Part) (parts : Shape) (text : List ℕ) (at : ℕ) → FirstStop (drop at text)
    → line_at (read_as (part ∷ next ∷ parts)) text at ≡ followed part (part_at part tab text at) (line_at (read_as (next ∷ parts)) text)
more_by_stop part next parts text at (no_stop_left w a) = rw (line_unended (read_as (part ∷ next ∷ parts)) text at w, part_unended part tab text at a)
more_by_stop part next parts text at (tab_stop field more e w v f a) =
    let after : line_at (read_as (next ∷ parts)) text (at + length field + 1)
    ≡ cond (is_whole more) (found_at (at + length field + 1 + length (first_line more) + 1) (read_as (next ∷ parts) (fields_of (first_line more)))) None =
    unfold line_at in rw (drop_past text at tab field more e) in
    line_past_tab (read_as (part ∷ next ∷ parts)) text at field more e w v
    ∙ rw (read_as-joining part (next ∷ parts) field (fields_of (first_line more)), part_here part tab text at field more f a)
    (followed-joining part (part_of part field) (read_as (next ∷ parts) (fields_of (first_line more))) (is_whole more) (at + length field + 1)
    (at + length field + 1 + length (first_line more) + 1) (line_at (read_as (next ∷ parts)) text) after)
more_by_stop part next parts text at (feed_stop field more e w v f a) =
    line_to_feed (read_as (part ∷ next ∷ parts)) text at field more e w v
    ∙ rw (read_as-joining part (next ∷ parts) field [], part_other part tab line_feed text at more a refl)
    (unfold read_as in nothing_after part (part_of part field) true (at + length field + 1))

-- a part before others
pub line_more : (part next : Part) (parts : Shape) (text : List ℕ) (at : ℕ)
    → line_at (read_as (part ∷ next ∷ parts)) text at ≡ followed part (part_at part tab text at) (line_at (read_as (next ∷ parts)) text)
line_more part next parts text at = more_by_stop part next parts text at (first_stop (drop at text))

making_under : {A : Type 0} (f : List ℕ → A) (test : Bool) (k : ℕ) (o : Option (List ℕ))
    → cond test (found_at k (made f o)) None ≡ making f (cond test (found_at k o) None)
making_under f true k none = refl
making_under f true k (some ns) = refl
making_under f false k o = refl

either_under : (test : Bool) (k : ℕ) (o p : Option (List ℕ))
    → cond test (found_at k (either o p)) None ≡ option_or (cond test (found_at k o) None) (cond test (found_at k p) None)
either_under true k none p = refl
either_under true k (some ns) p = refl
either_under false k o p = refl

-- a line of which something is made is the line, with what is made of its numbers
module _ (text : List ℕ) (at : ℕ) where
  pub line_made : {A : Type 0} (f : List ℕ → A) (read : List (List ℕ) → Option (List ℕ))
      → line_at (λ fields. made f (read fields)) text at ≡ making f (line_at read text at)
  unfolding line_at
  line_made f read =
      let bytes = first_line (drop at text) in
      making_under f (is_whole (drop at text)) (at + length bytes + 1) (read (fields_of bytes))

  pub header_made : line_at header_line text at ≡ making header_from (line_at (read_as header_shape) text at)
  unfolding header_line
  header_made = line_made header_from (read_as header_shape)

  pub access_made : line_at access_line text at ≡ making access_from (line_at (read_as access_shape) text at)
  unfolding access_line
  access_made = line_made access_from (read_as access_shape)

  pub calls_read : line_at calls_line text at ≡ line_at (read_as calls_shape) text at
  unfolding calls_line
  calls_read = refl

  -- a line that is read in one of two ways
  pub line_either : (first second : List (List ℕ) → Option (List ℕ))
      → line_at (λ fields. either (first fields) (second fields)) text at ≡ option_or (line_at first text at) (line_at second text at)
  unfolding line_at
  line_either first second =
      let bytes = first_line (drop at text) in
      either_under (is_whole (drop at text)) (at + length bytes + 1) (first (fields_of bytes)) (second (fields_of bytes))

  pub call_made : line_at call_line text at ≡ making call_from (option_or (line_at (read_as plain_shape) text at) (line_at (read_as extra_shape) text at))
  unfolding call_line
  call_made =
      line_made call_from (λ fields. either (read_as plain_shape fields) (read_as extra_shape fields))
      ∙ ap (making call_from) (line_either (read_as plain_shape) (read_as extra_shape))
