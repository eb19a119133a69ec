-- Laws of the first field and the first line of bytes: where each ends, what stands before its stop, and what follows it.
-- Assumes nothing.
use Prim.Native.Nat.{ℕ, ◌+◌, ◌≤◌, ◌<◌}
use mathlib.Core.Path.{◌≡◌, refl, ap, sym, ◌∙◌}
use mathlib.Core.Bool.{Bool, true, false, not, cond, and-eq-true_iff, false≢true}
use mathlib.Core.Logic.{◌⊎◌, inl, inr}
use mathlib.Core.List.{List, [], ◌∷◌, ◌++◌}
use mathlib.Core.Option.{Option, some, none}
use native.Mathlib.Numerals.{towards_suc}
use native.Mathlib.Nat.{add_assoc}
use native.Mathlib.Omega.{arith}
use borrow.Author.Tests.{eqb-true, eq-eqb, not-true}
use lib.Dec.{eqb}
use Rattle.std.proofs.lemmas.Option.{some_pair_parts}
use lib.ListN.{length, drop, length-append, length-drop}
use lib.Seq.{drop-drop, drop-append-add}
use Rattle.rules.proofs.Lists.{by_test, neither}
use Rattle.lines.specs.Bytes.{line_feed, tab}
use Rattle.lines.specs.Lines.{fields_of}
use Rattle.lines.specs.Shapes.{Part}
use Rattle.lines.proofs.Lines.{holds_no}
use Rattle.std.specs.declared.option.Option.TheVariants.{None, Some}
use Rattle.fields.specs.Stops.{is_stop}
use Rattle.fields.specs.Cursor.{found_at, first_field, after_field, part_of, part_at, first_line, is_whole, line_at}

-- the first stop of bytes: none, a tab, or an LF
pub data FirstStop (rest : List ℕ) : Type 0 where
  no_stop_left : holds_no line_feed rest ≡ true → after_field rest ≡ [] → FirstStop rest
  tab_stop : (field more : List ℕ) → rest ≡ field ++ (tab ∷ more) → holds_no tab field ≡ true → holds_no line_feed field ≡ true
      → first_field rest ≡ field → after_field rest ≡ tab ∷ more → FirstStop rest
  feed_stop : (field more : List ℕ) → rest ≡ field ++ (line_feed ∷ more) → holds_no tab field ≡ true → holds_no line_feed field ≡ true
      → first_field rest ≡ field → after_field rest ≡ line_feed ∷ more → FirstStop rest

later_stop : (b : ℕ) (rest : List ℕ) → eqb b tab ≡ false → eqb b line_feed ≡ false → FirstStop rest → FirstStop (b ∷ rest)
unfolding first_field after_field
later_stop b rest t l (no_stop_left w a) = no_stop_left (rw (l, w)) (rw (t, l) a)
later_stop b rest t l (tab_stop field more e w v f a) = tab_stop (b ∷ field) more (cc) (rw (t, w)) (rw (l, v)) (rw (t, l) (cc)) (rw (t, l) a)
later_stop b rest t l (feed_stop field more e w v f a) = feed_stop (b ∷ field) more (cc) (rw (t, w)) (rw (l, v)) (rw (t, l) (cc)) (rw (t, l) a)

pub first_stop : (rest : List ℕ) → FirstStop rest
unfolding first_field after_field
first_stop [] = no_stop_left refl refl
first_stop (b ∷ rest) =
    by_test (eqb b tab)
    (λ t. let e = eqb-true b tab t in tab_stop [] rest (cc) refl refl (rw t) (rw t (cc)))
    (λ t.
    by_test (eqb b line_feed)
    (λ l. let e = eqb-true b line_feed l in feed_stop [] rest (cc) refl refl (rw (t, l)) (rw (t, l) (cc)))
    (λ l. later_stop b rest t l (first_stop rest)))

-- a field and what follows it are the bytes
pub field_whole : (rest : List ℕ) → rest ≡ first_field rest ++ after_field rest
unfolding first_field after_field
field_whole [] = refl
field_whole (b ∷ rest) = by_test (is_stop b) (λ t. rw t) (λ f. rw f (ap (λ (l : List ℕ). b ∷ l) (field_whole rest)))

-- one that a stop ends is read by its part
pub part_here : (part : Part) (stop : ℕ) (text : List ℕ) (at : ℕ) (field more : List ℕ) → first_field (drop at text) ≡ field
    → after_field (drop at text) ≡ stop ∷ more → part_at part stop text at ≡ found_at (at + length field + 1) (part_of part field)
unfolding part_at
part_here part stop text at field more f a = rw (f, a, eq-eqb stop stop refl)

-- bytes before a stop and the stop, dropped, leave what follows the stop
pub drop_past : (text : List ℕ) (at stop : ℕ) (bytes more : List ℕ) → drop at text ≡ bytes ++ (stop ∷ more)
    → drop (at + length bytes + 1) text ≡ more
drop_past text at stop bytes more e =
    rw (add_assoc at (length bytes) 1, ← drop-drop (length bytes + 1) at text, e) (drop-append-add bytes (stop ∷ more) 1)

-- the first line goes on past bytes that hold no LF, and is whole where what follows them is
pub first_line_past : (bytes more : List ℕ) → holds_no line_feed bytes ≡ true → first_line (bytes ++ more) ≡ bytes ++ first_line more
unfolding first_line
first_line_past [] more h = refl
first_line_past (b ∷ bytes) more h =
    let (n, w) = (and-eq-true_iff (not (eqb b line_feed)) (holds_no line_feed bytes)).0 h in
    rw (not-true (eqb b line_feed) n, first_line_past bytes more w)

pub is_whole_past : (bytes more : List ℕ) → holds_no line_feed bytes ≡ true → is_whole (bytes ++ more) ≡ is_whole more
unfolding is_whole
is_whole_past [] more h = refl
is_whole_past (b ∷ bytes) more h =
    let (n, w) = (and-eq-true_iff (not (eqb b line_feed)) (holds_no line_feed bytes)).0 h in
    rw (not-true (eqb b line_feed) n, is_whole_past bytes more w)

-- the first line holds no LF
pub line-without : (rest : List ℕ) → holds_no line_feed (first_line rest) ≡ true
unfolding first_line
line-without [] = refl
line-without (b ∷ rest) =
    by_test (eqb b line_feed) (λ t. rw t) (λ f. rw (f, f, line-without rest))

-- bytes without a whole line are a line with no LF, and so one piece
pub unwhole_without : (rest : List ℕ) → is_whole rest ≡ false → holds_no line_feed rest ≡ true
unfolding is_whole
unwhole_without [] h = refl
unwhole_without (b ∷ rest) h =
    let (f, g) = (neither (eqb b line_feed) (is_whole rest)).0 h in
    rw (f, unwhole_without rest g)

-- whole bytes are their first line, its LF, and what follows that
pub whole_line : (rest : List ℕ) → is_whole rest ≡ true → rest ≡ first_line rest ++ (line_feed ∷ drop (length (first_line rest) + 1) rest)
unfolding is_whole first_line
whole_line [] h = absurd (false≢true h)
whole_line (b ∷ rest) h =
    by_test (eqb b line_feed) (λ t. rw t (let e = eqb-true b line_feed t in cc))
    (λ f. let e = whole_line rest (rw f at h) in rw f (simp towards_suc (simp towards_suc at (ap (λ (l : List ℕ). b ∷ l) e))))

-- what is found under a test was there, with the cursor and what was read
pub found_under : {A : Type 0} (test : Bool) (k : ℕ) (o : Option A) {next : ℕ} {x : A} → cond test (found_at k o) None ≡ Some (next, x)
    → (test ≡ true) × (next ≡ k) × (o ≡ some x)
found_under false k o e = cc
found_under true k none e = cc
found_under true k (some y) {next} {x} e =
    let (k_is, y_is) = some_pair_parts k next y x e in
    (refl, sym k_is, ap (λ z. some z) y_is)

-- and where nothing is found the test failed, or what was read is nothing
pub none_under : {A : Type 0} (test : Bool) (k : ℕ) (o : Option A) → cond test (found_at k o) None ≡ None
    → ((test ≡ true) × (o ≡ none)) ⊎ (test ≡ false)
none_under false k o e = inr refl
none_under true k none e = inl (refl, refl)
none_under true k (some y) e = cc

-- a line that is found is the bytes from the cursor as far as the next LF, and the cursor after it is past that LF
pub record LineFound {A : Type 0} (read : List (List ℕ) → Option A) (text : List ℕ) (at next : ℕ) (x : A) : Type 0 where
  pub here : drop at text ≡ first_line (drop at text) ++ (line_feed ∷ drop next text)
  pub plain : holds_no line_feed (first_line (drop at text)) ≡ true
  pub past : next ≡ at + length (first_line (drop at text)) + 1
  pub reads : read (fields_of (first_line (drop at text))) ≡ some x

pub line_found : {A : Type 0} (read : List (List ℕ) → Option A) (text : List ℕ) (at : ℕ) {next : ℕ} {x : A}
    → line_at read text at ≡ Some (next, x) → LineFound read text at next x
unfolding line_at
line_found read text at {next} {x} e =
    let rest = drop at text in
    let bytes = first_line rest in
    let (w, k, o) = found_under (is_whole rest) (at + length bytes + 1) (read (fields_of bytes)) e in
    let whole = whole_line rest w in
    let after : drop (length bytes + 1) rest ≡ drop next text = rw k (sym (drop_past text at line_feed bytes (drop (length bytes + 1) rest) whole)) in
    record { here = whole ∙ ap (λ (more : List ℕ). bytes ++ (line_feed ∷ more)) after; plain = line-without rest; past = k; reads = o }

-- where none is found there is a whole line that is not read so, or no whole line
pub line_none : {A : Type 0} (read : List (List ℕ) → Option A) (text : List ℕ) (at : ℕ) → line_at read text at ≡ None
    → ((is_whole (drop at text) ≡ true) × (read (fields_of (first_line (drop at text))) ≡ none)) ⊎ (is_whole (drop at text) ≡ false)
unfolding line_at
line_none read text at e =
    let bytes = first_line (drop at text) in
    none_under (is_whole (drop at text)) (at + length bytes + 1) (read (fields_of bytes)) e

-- a line that is found lies within the text, and so does its LF
pub line-within : {A : Type 0} (read : List (List ℕ) → Option A) (text : List ℕ) (at : ℕ) {next : ℕ} {x : A}
    → line_at read text at ≡ Some (next, x) → (at < next) × (next ≤ length text)
line-within read text at {next} {x} e =
    let found = line_found read text at e in
    let l = simp length-append at (ap length found.here) in
    let m = length-drop at text in
    let p = found.past in
    (omega arith, omega arith)
