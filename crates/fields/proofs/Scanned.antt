-- Laws of the bytes that a cursor has gone over: which part stands at the cursor, or that none does.
-- Assumes nothing.
use Prim.Native.Nat.{ℕ, suc, ◌+◌, ◌-◌, ◌*◌, ◌<◌, ◌≤◌}
use mathlib.Core.Path.{◌≡◌, refl, ap, sym, ◌∙◌}
use mathlib.Core.Bool.{Bool, true, false, not, ◌&&◌, cond, and-eq-true_iff, true≢false, false≢true}
use mathlib.Core.List.{List, [], ◌∷◌, ◌++◌, append_cancel_left}
use mathlib.Core.Option.{Option, some, none}
use native.Mathlib.Omega.{arith}
use native.Mathlib.Numerals.{add-one}
use borrow.Author.Tests.{eqb-true, eqb-false, leb-true, le-leb, not-true}
use denote.Ref.{Bor}
use lib.Dec.{eqb, leb, leb-suc-suc}
use Rattle.std.specs.List as list
use Rattle.std.specs.List.{slice_range}
use Rattle.std.specs.Cmp.Lexicographic.{pointwise}
use Rattle.std.proofs.lemmas.Bool.Decides.{Decides-eqb}
use Rattle.std.proofs.lemmas.Slice.Eq.{strip_prefix_is, starts_is}
use Rattle.std.specs.Bool.{then_some}
use Rattle.std.specs.Char.{is_ascii_digit}
use Rattle.std.proofs.lemmas.Slice.{between_to_end}
use lib.ListN.{length, get_or, take, drop, drop_of_length-le, length-append, length-take, take-append-drop}
use lib.Seq.{take-suc, drop-cons, get_or-append_seam}
use Rattle.std.specs.Option.{option_map, option_or}
use Rattle.std.specs.declared.option.Option.TheVariants.{None, Some}
use Rattle.rules.specs.Sizes.{most_number}
use Rattle.rules.proofs.Lists.{by_test}
use Rattle.lines.specs.Bytes.{line_feed, tab, digit0, same}
use Rattle.lines.specs.Decimals.{ten, is_digit, are_digits, starts_well, value_after, field_value, is_number, number_of}
use Rattle.lines.specs.Shapes.{Named, named, Part, the_word, a_number, one_of}
use Rattle.lines.proofs.Decimals.{value_after_more, are_digits_more}
use Rattle.lines.proofs.Shapes.{none_some, same_iff}
use Rattle.fields.specs.declared.words.Word.{Word}
use Rattle.fields.specs.Stops.{is_stop, stop_byte, no_stop}
use Rattle.fields.specs.Cursor.{found_at, making, names_of, first_field, after_field, starts_with, part_of, part_at}
use Rattle.fields.specs.declared.stop.Stop.{Stop}
use Rattle.fields.specs.declared.stop.Stop.TheVariants.{Tab, LineFeed}
use Rattle.fields.proofs.Firsts.{field_whole, part_here}

-- a stop's byte ends a field
stop_is : (stop : Stop) → is_stop (stop_byte stop) ≡ true
stop_is Tab = refl
stop_is LineFeed = refl

-- a field that holds no stop goes as far as the first stop
first_field_lem : (field ys : List ℕ) (m : ℕ) → no_stop field ≡ true → is_stop m ≡ true → first_field (field ++ (m ∷ ys)) ≡ field
unfolding first_field
first_field_lem [] ys m h k = rw k
first_field_lem (b ∷ field) ys m h k =
    let (n, w) = (and-eq-true_iff (not (is_stop b)) (no_stop field)).0 h in
    rw (not-true (is_stop b) n, first_field_lem field ys m w k)

after_field_lem : (field ys : List ℕ) (m : ℕ) → no_stop field ≡ true → is_stop m ≡ true → after_field (field ++ (m ∷ ys)) ≡ m ∷ ys
unfolding after_field
after_field_lem [] ys m h k = rw k
after_field_lem (b ∷ field) ys m h k =
    let (n, w) = (and-eq-true_iff (not (is_stop b)) (no_stop field)).0 h in
    rw (not-true (is_stop b) n, after_field_lem field ys m w k)

starts_with_lem : (stop : ℕ) (bytes : List ℕ) → starts_with stop bytes ≡ true → (ys : List ℕ) × (bytes ≡ stop ∷ ys)
starts_with_lem stop [] h = absurd (false≢true h)
starts_with_lem stop (b ∷ rest) h = (rest, ap (λ (c : ℕ). c ∷ rest) (eqb-true b stop h))

found_none : (next : ℕ) (o : Option ℕ) → ((n : ℕ) → o ≡ some n → ⊥) → found_at next o ≡ None
found_none next none h = refl
found_none next (some n) h = absurd (h n refl)

module _ (part : Part) (stop : ℕ) (text : List ℕ) (at : ℕ) where
  -- the field before the stop is read as the part
  part_there : (field ys : List ℕ) → is_stop stop ≡ true → no_stop field ≡ true → drop at text ≡ field ++ (stop ∷ ys)
      → part_at part stop text at ≡ found_at (at + length field + 1) (part_of part field)
  part_there field ys m n e = part_here part stop text at field ys (rw e (first_field_lem field ys stop n m)) (rw e (after_field_lem field ys stop n m))

  -- where no field before the stop is such a part there is none
  part_none : ((field ys : List ℕ) (n : ℕ) → drop at text ≡ field ++ (stop ∷ ys) → part_of part field ≡ some n → ⊥) → part_at part stop text at ≡ None
  unfolding part_at
  part_none h =
      by_test (starts_with stop (after_field (drop at text)))
      (λ t.
      let (ys, e) = starts_with_lem stop (after_field (drop at text)) t in
      let whole = field_whole (drop at text) ∙ ap (λ (l : List ℕ). first_field (drop at text) ++ l) e in
      rw t (found_none _ (part_of part (first_field (drop at text))) (λ n q. h (first_field (drop at text)) ys n whole q)))
      (λ f. rw f)

  -- nothing stands past the end
  pub part_past : length text ≤ at → None ≡ part_at part stop text at
  unfolding part_at after_field
  part_past l = rw (drop_of_length-le text l)

-- the bytes from a cursor on, as a slice
pub rest_is : (text : List ℕ) (at : ℕ) {rest : List ℕ} → rest ≡ slice_range text at (length text) → rest ≡ drop at text
rest_is text at e = e ∙ between_to_end text at (length text) (omega arith)

-- a word at the cursor, where it has gone by: what follows it tells whether its stop does
module _ (word : List ℕ) (stop : ℕ) (text : List ℕ) (at : ℕ) where
  word_part : (field : List ℕ) (n : ℕ) → part_of (the_word word) field ≡ some n → word ≡ field
  word_part field n e = by_test (same word field) (λ t. (same_iff word field).0 t) (λ f. absurd (none_some (rw f at e)))

  word_none : ((ys : List ℕ) → drop at text ≡ word ++ (stop ∷ ys) → ⊥) → None ≡ part_at (the_word word) stop text at
  word_none h =
      sym (part_none (the_word word) stop text at (λ field ys n e q. h ys (e ∙ ap (λ (l : List ℕ). l ++ (stop ∷ ys)) (sym (word_part field n q)))))

  -- it stands there, and after it its stop, or not
  word_after : (after : List ℕ) → is_stop stop ≡ true → no_stop word ≡ true → drop at text ≡ word ++ after
      → option_map (λ next. (next, 0)) (then_some (list.starts_with eqb after (stop ∷ [])) (at + length word + 1)) ≡ part_at (the_word word) stop text at
  word_after [] m n e = word_none (λ ys q. omega (arith, simp length-append at (ap length (sym e ∙ q))))
  word_after (b ∷ ys) m n e =
      by_test (eqb stop b)
      (λ t. rw t (sym (part_there (the_word word) stop text at word ys m n (rw (sym (eqb-true stop b t)) at e) ∙ rw ((same_iff word word).1 refl))))
      (λ f.
      rw f
      (word_none (λ zs q. eqb-false stop b f (sym (ap (λ (l : List ℕ). get_or l 0 0) (append_cancel_left word (b ∷ ys) (stop ∷ zs) (sym e ∙ q)))))))

-- the word stripped off what is left from a cursor on: it does not stand there, or what follows it tells of its stop
pub word_differs : (word : List ℕ) (stop : ℕ) (text : List ℕ) (at : ℕ) (rest : List ℕ) → rest ≡ slice_range text at (length text)
    → pointwise eqb (take (length word) rest) word ≡ false → None ≡ part_at (the_word word) stop text at
word_differs word stop text at rest e d =
    word_none word stop text at (λ ys q. strip_prefix_is Decides-eqb rest word None d (stop ∷ ys) (rest_is text at e ∙ q))

pub word_stripped : (word : List ℕ) (stop : Stop) (text : List ℕ) (at : ℕ) (rest : List ℕ) (after : Bor (List ℕ)) → rest ≡ slice_range text at (length text)
    → (pointwise eqb (take (length word) rest) word ≡ true) × (after.now ≡ drop (length word) rest) × (length after.now + length word ≡ length rest)
    → no_stop word ≡ true
    → option_map (λ next. (next, 0)) (then_some (list.starts_with eqb after.now (stop_byte stop ∷ [])) (at + length word + 1))
    ≡ part_at (the_word word) (stop_byte stop) text at
word_stripped word stop text at rest after e h n =
    word_after word (stop_byte stop) text at after.now (stop_is stop) n (sym (rest_is text at e) ∙ strip_prefix_is Decides-eqb rest word (Some after) h)

-- what is left from a cursor on is no longer than the word, or another byte than the stop follows it: then it does not stand there
pub word_short : (word : List ℕ) (stop : ℕ) (text : List ℕ) (at : ℕ) (rest : List ℕ) → rest ≡ slice_range text at (length text)
    → length rest ≤ length word → None ≡ part_at (the_word word) stop text at
word_short word stop text at rest e l =
    word_none word stop text at (λ ys q. omega (arith, l, simp length-append at (ap length (rest_is text at e ∙ q))))

pub word_unstopped : (word : List ℕ) (stop : ℕ) (text : List ℕ) (at : ℕ) (rest : List ℕ) → rest ≡ slice_range text at (length text)
    → (get_or rest (length word) 0 ≡ stop → ⊥) → None ≡ part_at (the_word word) stop text at
word_unstopped word stop text at rest e h =
    word_none word stop text at (λ ys q. h (rw (rest_is text at e ∙ q) (get_or-append_seam word stop ys 0)))

-- where its stop follows, what is left tells whether it stands there
pub word_started : (word : List ℕ) (stop : Stop) (text : List ℕ) (at : ℕ) (rest : List ℕ) (r : Bool) → rest ≡ slice_range text at (length text)
    → length word < length rest → get_or rest (length word) 0 ≡ stop_byte stop → no_stop word ≡ true → r ≡ list.starts_with eqb rest word
    → option_map (λ next. (next, 0)) (then_some r (at + length word + 1)) ≡ part_at (the_word word) (stop_byte stop) text at
word_started word stop text at rest r e l b n s =
    let (front, begun) = starts_is Decides-eqb rest word r s in
    let here = rest_is text at e in
    by_test r
    (λ t.
    let ys = drop (suc (length word)) rest in
    let whole : rest ≡ word ++ (stop_byte stop ∷ ys) = front t ∙ ap (λ (l : List ℕ). word ++ l) (drop-cons rest (length word) 0 l ∙ ap (λ (k : ℕ). k ∷ ys) b) in
    rw t (sym (part_there (the_word word) (stop_byte stop) text at word ys (stop_is stop) n (sym here ∙ whole) ∙ rw ((same_iff word word).1 refl))))
    (λ f. rw f (word_none word (stop_byte stop) text at (λ ys q. false≢true (sym f ∙ begun (stop_byte stop ∷ ys) (here ∙ q)))))

-- one of several words: the first of them, or else one of the others
named-more_under : (a b : Bool) (end n : ℕ) (others : Option ℕ)
    → cond a (found_at end (cond b (some n) others)) None
    ≡ option_or (making (λ (_ : ℕ). n) (cond a (found_at {A = ℕ} end (cond b (some 0) none)) None)) (cond a (found_at end others) None)
named-more_under true true end n others = refl
named-more_under true false end n others = refl
named-more_under false b end n others = refl

module _ (stop : ℕ) (text : List ℕ) (at : ℕ) where
  named-more : (word : List ℕ) (n : ℕ) (more : List Named)
      → part_at (one_of ((word, n) ∷ more)) stop text at
      ≡ option_or (making (λ (_ : ℕ). n) (part_at (the_word word) stop text at)) (part_at (one_of more) stop text at)
  unfolding part_at
  named-more word n more =
      let rest = drop at text in
      named-more_under (starts_with stop (after_field rest)) (same word (first_field rest)) (at + length (first_field rest) + 1) n (named more (first_field rest))

  module _ (words : List (Word × ℕ)) (i : ℕ) where
    -- the words that are left: the next of them stands there, or does not, or there is none
    module _ (other : Word × ℕ) (l : i < length words) where
      abbrev word : Word × ℕ
      word = get_or words i other

      named_next : part_at (one_of (names_of (drop i words))) stop text at
          ≡ option_or (making (λ (_ : ℕ). word.1) (part_at (the_word word.0.bytes.now) stop text at)) (part_at (one_of (names_of (drop (i + 1) words))) stop text at)
      named_next = rw (add-one, drop-cons words i other) (named-more word.0.bytes.now word.1 (names_of (drop (suc i) words)))

      pub named_here : (next : ℕ) → Some (next, 0) ≡ part_at (the_word word.0.bytes.now) stop text at
          → Some (next, word.1) ≡ part_at (one_of (names_of (drop i words))) stop text at
      named_here next e = sym (named_next ∙ rw (← e))

      pub named_later : None ≡ part_at (the_word word.0.bytes.now) stop text at
          → part_at (one_of (names_of (drop (i + 1) words))) stop text at ≡ part_at (one_of (names_of (drop i words))) stop text at
      named_later e = sym (named_next ∙ rw (← e))

    pub named_none : length words ≤ i → None ≡ part_at (one_of (names_of (drop i words))) stop text at
    named_none l = rw (drop_of_length-le words l) (sym (part_none (one_of []) stop text at (λ field ys k e q. none_some q)))

-- a stop is no digit
stop_no_digit : (m : ℕ) → is_stop m ≡ true → is_digit m ≡ false
stop_no_digit m h = by_test (eqb m tab) (λ t. rw (eqb-true m tab t)) (λ f. rw (eqb-true m line_feed (rw f at h)))

digits_no_stop : (xs : List ℕ) → are_digits xs ≡ true → no_stop xs ≡ true
digits_no_stop [] h = refl
digits_no_stop (x ∷ xs) h =
    let (d, ds) = (and-eq-true_iff (is_digit x) (are_digits xs)).0 h in
    by_test (is_stop x) (λ t. absurd (true≢false (sym d ∙ stop_no_digit x t))) (λ f. rw (f, digits_no_stop xs ds))

-- digits before a byte that is none: as many of the same bytes as are digits
same_digits : (xs ys us zs : List ℕ) (a : ℕ) → are_digits xs ≡ true → are_digits ys ≡ true → is_digit a ≡ false → is_digit (get_or zs 0 0) ≡ false
    → xs ++ (a ∷ us) ≡ ys ++ zs → (xs ≡ ys) × (zs ≡ a ∷ us)
same_digits [] [] us zs a d e n m q = (refl, sym q)
same_digits [] (y ∷ ys) us zs a d e n m q =
    let head : a ≡ y = cc in
    absurd (true≢false (sym ((and-eq-true_iff (is_digit y) (are_digits ys)).0 e).0 ∙ ap is_digit (sym head) ∙ n))
same_digits (x ∷ xs) [] us zs a d e n m q =
    let head : x ≡ get_or zs 0 0 = ap (λ (l : List ℕ). get_or l 0 0) q in
    absurd (true≢false (sym ((and-eq-true_iff (is_digit x) (are_digits xs)).0 d).0 ∙ ap is_digit head ∙ m))
same_digits (x ∷ xs) (y ∷ ys) us zs a d e n m q =
    let head : x ≡ y = cc in
    let rest : xs ++ (a ∷ us) ≡ ys ++ zs = cc in
    let (r, t) = same_digits xs ys us zs a ((and-eq-true_iff (is_digit x) (are_digits xs)).0 d).1 ((and-eq-true_iff (is_digit y) (are_digits ys)).0 e).1 n m rest in
    (cc, t)

-- more digits make no smaller number
value_grows : (v : ℕ) (xs : List ℕ) → v ≤ value_after v xs
value_grows v [] = omega arith
value_grows v (x ∷ xs) = omega (arith, value_grows (v * ten + (x - digit0)) xs)

value_front : (v : ℕ) (xs ys us zs : List ℕ) (a : ℕ) → are_digits ys ≡ true → is_digit a ≡ false → xs ++ (a ∷ us) ≡ ys ++ zs → value_after v ys ≤ value_after v xs
value_front v xs [] us zs a e n q = value_grows v xs
value_front v [] (y ∷ ys) us zs a e n q =
    let head : a ≡ y = cc in
    absurd (true≢false (sym ((and-eq-true_iff (is_digit y) (are_digits ys)).0 e).0 ∙ ap is_digit (sym head) ∙ n))
value_front v (x ∷ xs) (y ∷ ys) us zs a e n q =
    let head : x ≡ y = cc in
    let rest : xs ++ (a ∷ us) ≡ ys ++ zs = cc in
    rw head (value_front (v * ten + (y - digit0)) xs ys us zs a ((and-eq-true_iff (is_digit y) (are_digits ys)).0 e).1 n rest)

-- a field that is a number
record IsNumber (field : List ℕ) : Type 0 where
  digits : are_digits field ≡ true
  small : field_value field ≤ most_number

number_sound : (field : List ℕ) (n : ℕ) → number_of field ≡ some n → IsNumber field
unfolding number_of is_number
number_sound field n e =
    by_test (is_number field)
    (λ t.
    let (wd, small) = (and-eq-true_iff (starts_well field && are_digits field) (leb (field_value field) most_number)).0 t in
    let (w, d) = (and-eq-true_iff (starts_well field) (are_digits field)).0 wd in
    record { digits = d; small = leb-true (field_value field) most_number small })
    (λ f. absurd (none_some (rw f at e)))

-- a byte is a digit as the library tests it
is_digit_ascii : (b : ℕ) → is_digit b ≡ is_ascii_digit b
is_digit_ascii b = ap (λ low. leb digit0 b && low) (leb-suc-suc b 57)

-- the digits that have gone by, and their value
pub record Counted (rest : List ℕ) (i value : ℕ) : Type 0 where
  pub digits : are_digits (take i rest) ≡ true
  pub worth : field_value (take i rest) ≡ value

module _ (rest : List ℕ) (i value : ℕ) (c : Counted rest i value) (l : i < length rest) (d : true ≡ is_ascii_digit (get_or rest i 0)) where
  one_more : Counted rest (i + 1) (value * ten + (get_or rest i 0 - digit0))
  one_more =
      let digit : is_digit (get_or rest i 0) ≡ true = is_digit_ascii (get_or rest i 0) ∙ sym d in
      record {
        digits = rw (add-one, take-suc rest i 0) (are_digits_more (take i rest) (get_or rest i 0) c.digits digit);
        worth = rw (add-one, take-suc rest i 0) (value_after_more 0 (take i rest) (get_or rest i 0) ∙ ap (λ v. v * ten + (get_or rest i 0 - digit0)) c.worth);
      }

  pub counted_more : (next : ℕ) → next ≡ value * ten + (get_or rest i 0 - digit0) → Counted rest (i + 1) next
  counted_more next e = rw e one_more

module _ (stop : Stop) (text : List ℕ) (at : ℕ) {rest : List ℕ} (here : rest ≡ drop at text) (i value : ℕ) (c : Counted rest i value) where
  abbrev byte : ℕ
  byte = stop_byte stop

  parted : take i rest ++ drop i rest ≡ drop at text
  parted = take-append-drop i rest ∙ here

  number_none : ((field ys : List ℕ) → field ++ (byte ∷ ys) ≡ take i rest ++ drop i rest → IsNumber field → ⊥) → None ≡ part_at a_number byte text at
  number_none h = sym (part_none a_number byte text at (λ field ys n e q. h field ys (sym e ∙ sym parted) (number_sound field n q)))

  -- a value that is too large stays so
  large : most_number < value → None ≡ part_at a_number byte text at
  large l =
      number_none
      (λ field ys e s. omega (arith, s.small, c.worth, value_front 0 field (take i rest) ys (drop i rest) byte c.digits (stop_no_digit byte (stop_is stop)) e))

  -- no stop after the digits
  pub counted_all : length rest ≤ i → None ≡ part_at a_number byte text at
  counted_all l =
      number_none
      (λ field ys e s.
      let (same, next) = same_digits field (take i rest) ys (drop i rest) byte s.digits c.digits (stop_no_digit byte (stop_is stop)) (rw (drop_of_length-le rest l)) e in
      let z : ◌≡◌ {A = ℕ} 0 1 = cc (drop_of_length-le rest l) in
      omega arith)

  -- a byte after them that is none: they are a number where it is the stop and they start well
  module _ (l : i < length rest) (d : false ≡ is_ascii_digit (get_or rest i 0)) (small : value ≤ most_number) where
    next_byte : drop i rest ≡ get_or rest i 0 ∷ drop (i + 1) rest
    next_byte = rw (add-one, drop-cons rest i 0)

    pub counted_stop : get_or rest i 0 ≡ byte → then_some (starts_well (take i rest)) (at + i + 1, value) ≡ part_at a_number byte text at
    unfolding number_of is_number
    counted_stop e =
        let whole : drop at text ≡ take i rest ++ (byte ∷ drop (i + 1) rest) =
        sym parted ∙ ap (λ l. take i rest ++ l) (next_byte ∙ ap (λ b. b ∷ drop (i + 1) rest) e) in
        let there = part_there a_number byte text at (take i rest) (drop (i + 1) rest) (stop_is stop) (digits_no_stop (take i rest) c.digits) whole in
        let long : length (take i rest) ≡ i = length-take i rest ∙ omega arith in
        sym (there
        ∙ by_test (starts_well (take i rest)) (λ t. rw (t, c.digits, c.worth, le-leb value most_number small, long)) (λ f. rw f))

    pub counted_other : (get_or rest i 0 ≡ byte → ⊥) → None ≡ part_at a_number byte text at
    counted_other h =
        let no_digit : is_digit (get_or rest i 0) ≡ false = is_digit_ascii (get_or rest i 0) ∙ sym d in
        number_none
        (λ field ys e s.
        let (same, next) = same_digits field (take i rest) ys (drop i rest) byte s.digits c.digits (stop_no_digit byte (stop_is stop)) (rw next_byte no_digit) e in
        h (ap (λ (l : List ℕ). get_or l 0 0) (sym next_byte ∙ next)))

-- one digit too many
pub counted_large : (stop : Stop) (text : List ℕ) (at : ℕ) {rest : List ℕ} → rest ≡ slice_range text at (length text) → (i value : ℕ)
    → Counted rest i value → i < length rest → true ≡ is_ascii_digit (get_or rest i 0) → most_number < value * ten + (get_or rest i 0 - digit0)
    → None ≡ part_at a_number (stop_byte stop) text at
counted_large stop text at {rest} e i value c l d k =
    large stop text at (rest_is text at e) (i + 1) (value * ten + (get_or rest i 0 - digit0)) (one_more rest i value c l d) k
