-- Laws of a text from a cursor on: what its first line, or its end, comes to.
-- Assumes nothing.
use Prim.Native.Nat.{ℕ, ◌+◌, ◌≤◌, ◌<◌}
use mathlib.Core.Path.{◌≡◌, refl, ap, sym, ◌∙◌}
use mathlib.Core.Bool.{true, false}
use mathlib.Core.List.{List, [], ◌∷◌, ◌++◌}
use mathlib.Core.Logic.{⊎_elim}
use mathlib.Core.Option.{Option, some}
use native.Mathlib.Nat.{eq-or-lt_of_le}
use native.Mathlib.Omega.{arith}
use lib.ListN.{length, drop, length-drop, drop_of_length-le}
use Rattle.rules.specs.Refusals.{Ground, first_of, number_of}
use Rattle.rules.proofs.Lists.{by_test}
use Rattle.rules.specs.declared.refusal.Refusal.{Refusal}
use Rattle.rules.proofs.RefusalNumbers.{unless_number}
use Rattle.rules.proofs.Told.{unless_refused}
use Rattle.text.specs.Stages.{fault, refused_for}
use Rattle.std.specs.declared.option.Option.TheVariants.{None, Some}
use Rattle.lines.specs.Bytes.{line_feed}
use Rattle.lines.specs.Lines.{Line, line, last_line, pieces, lines_from, lines_of, fields_of}
use Rattle.lines.specs.Readings.{SoFar, at_start, Reached, sound, refused, breaks_rules, judged, Text, judge_due, judge, judge_all, complete, at_end, read_text}
use Rattle.lines.proofs.Lines.{holds_no, lines_first, lines_last}
use Rattle.lines.proofs.Faults.{refused_stays}
use Rattle.fields.specs.Cursor.{first_line, is_whole, line_at}
use Rattle.fields.proofs.Firsts.{drop_past, line-without, unwhole_without, whole_line, line_found, line_none, line-within}
use Rattle.text.specs.ReadOn.{read_on}

-- a refusal's number is not that of none
number_given : (r : Refusal) → number_of r ≡ 0 → ⊥
number_given r e = let q : ◌≡◌ {A = ℕ} 0 1 = rw e at (unless_number {A = ℕ} r 0 1) in omega arith

-- before any line the text comes to what it is read as
pub from_start : (t : Text) (text : List ℕ) → read_text t text ≡ read_on t text 0 at_start
unfolding read_text read_on lines_of
from_start t text = refl

module _ (t : Text) (text : List ℕ) (at : ℕ) (s : SoFar) where
  -- a whole first line is judged as the one that is due; then come the lines after it
  line-judged : (bytes rest : List ℕ) → drop at text ≡ bytes ++ (line_feed ∷ rest) → holds_no line_feed bytes ≡ true
      → read_on t text at s ≡ at_end t (length text) (judge_all t (judge_due t s.due s at (fields_of bytes)) (lines_from (at + length bytes + 1) (pieces line_feed rest)))
  unfolding read_on judge_all judge
  line-judged bytes rest e w = rw (e, lines_first at bytes rest w)

  -- a line that is refused decides
  pub line_refused : (bytes rest : List ℕ) (r n : ℕ) → drop at text ≡ bytes ++ (line_feed ∷ rest) → holds_no line_feed bytes ≡ true
      → judge_due t s.due s at (fields_of bytes) ≡ refused r n → read_on t text at s ≡ refused r n
  line_refused bytes rest r n e w j =
      line-judged bytes rest e w ∙ rw (j, refused_stays t r n (lines_from (at + length bytes + 1) (pieces line_feed rest)))

  -- after a sound line the text comes to what its lines after it come to
  pub line_sound : (bytes rest : List ℕ) (m : SoFar) → drop at text ≡ bytes ++ (line_feed ∷ rest) → holds_no line_feed bytes ≡ true
      → judge_due t s.due s at (fields_of bytes) ≡ sound m → read_on t text at s ≡ read_on t text (at + length bytes + 1) m
  unfolding read_on
  line_sound bytes rest m e w j = line-judged bytes rest e w ∙ rw (j, drop_past text at line_feed bytes rest e)

  -- a line without its LF breaks the rules
  part_breaks : is_whole (drop at text) ≡ false → at < length text → read_on t text at s ≡ refused breaks_rules at
  unfolding read_on judge_all judge
  part_breaks w l = rw (lines_last at (drop at text) (unwhole_without (drop at text) w)) (last (drop at text) refl)
    where
      last : (bytes : List ℕ) → drop at text ≡ bytes → at_end t (length text) (judge_all t (sound s) (last_line at bytes)) ≡ refused breaks_rules at
      last [] e = absurd (omega (arith, length-drop at text, ap length e))
      last (b ∷ bytes) e = refl

  at_the_end : length text ≤ at → read_on t text at s ≡ at_end t (length text) (sound s)
  unfolding read_on judge_all
  at_the_end l = rw (drop_of_length-le text l, lines_last at [] refl)

  -- at the end of the text a line may be missing
  line_missing : at ≡ length text → complete t s.due ≡ false → read_on t text at s ≡ refused breaks_rules at
  line_missing e f = at_the_end (omega arith) ∙ rw (f, e)

  pub none_missing : length text ≤ at → complete t s.due ≡ true → read_on t text at s ≡ sound s
  none_missing l c = at_the_end l ∙ rw c

  -- what is no whole line breaks the rules where it starts
  pub no_line : at ≤ length text → is_whole (drop at text) ≡ false → (at ≡ length text → complete t s.due ≡ false) → read_on t text at s ≡ refused breaks_rules at
  no_line l w m = ⊎_elim (λ q. line_missing q (m q)) (λ k. part_breaks w k) (eq-or-lt_of_le l)

-- the fields of the first line from a cursor on
abbrev pub fields_at : List ℕ → ℕ → List (List ℕ)
fields_at text at = fields_of (first_line (drop at text))

module _ (t : Text) (text : List ℕ) (at : ℕ) where
  -- where every line is refused, what is left of the text is
  pub all_refused : (s : SoFar) → ((l : Line) → judge t s l ≡ refused breaks_rules l.at) → at < length text → read_on t text at s ≡ refused breaks_rules at
  unfolding judge
  all_refused s each l =
      let rest = drop at text in
      by_test (is_whole rest)
      (λ w.
      line_refused t text at s (first_line rest) (drop (length (first_line rest) + 1) rest) breaks_rules at (whole_line rest w) (line-without rest)
      (each (line at (first_line rest) true)))
      (λ w. part_breaks t text at s w l)

  -- two states that judge the line alike, and lack a line both, come to the same
  pub judged_alike : (s m : SoFar) → at ≤ length text
      → (is_whole (drop at text) ≡ true → judge_due t s.due s at (fields_at text at) ≡ judge_due t m.due m at (fields_at text at))
      → complete t s.due ≡ false → complete t m.due ≡ false → read_on t text at s ≡ read_on t text at m
  judged_alike s m l h e f =
      let rest = drop at text in
      let bytes = first_line rest in
      let more = drop (length bytes + 1) rest in
      by_test (is_whole rest)
      (λ w.
      line-judged t text at s bytes more (whole_line rest w) (line-without rest)
      ∙ ap (λ (x : Reached). at_end t (length text) (judge_all t x (lines_from (at + length bytes + 1) (pieces line_feed more)))) (h w)
      ∙ sym (line-judged t text at m bytes more (whole_line rest w) (line-without rest)))
      (λ w. no_line t text at s l w (λ q. e) ∙ sym (no_line t text at m l w (λ q. f)))

-- the cursor after a line is past it, and inside the text
module _ {A : Type 0} (read : List (List ℕ) → Option A) (text : List ℕ) (at n : ℕ) (x : A) (e : Some (n, x) ≡ line_at read text at) where
  pub line_past : at < n
  line_past = (line-within read text at (sym e)).0

  pub line_inside : n ≤ length text
  line_inside = (line-within read text at (sym e)).1

-- lines of one kind: what is due is judged by a shape, its refusals in their order, and what is read after it
pub record Judges (t : Text) (s : SoFar) {A : Type 0} (read : List (List ℕ) → Option A) (order : A → List Ground) (next : A → SoFar) : Type 0 where
  pub so : (at : ℕ) (fields : List (List ℕ)) → judge_due t s.due s at fields ≡ judged at (read fields) order next

-- the same of the lines alone that have the shape
pub record Takes (t : Text) (s : SoFar) {A : Type 0} (read : List (List ℕ) → Option A) (order : A → List Ground) (next : A → SoFar) : Type 0 where
  pub so : (at : ℕ) (fields : List (List ℕ)) (x : A) → read fields ≡ some x → judge_due t s.due s at fields ≡ judged at (some x) order next

module _ {A : Type 0} {t : Text} {s : SoFar} {read : List (List ℕ) → Option A} {order : A → List Ground} {next : A → SoFar} where
  pub judges_takes : Judges t s read order next → Takes t s read order next
  judges_takes kind = record { so = λ at fields x e. kind.so at fields ∙ rw e }

  module _ (text : List ℕ) (at : ℕ) where
    -- a line that is not of the shape, that has no LF or that is missing breaks the rules where it starts
    pub shape_broken : Judges t s read order next → at ≤ length text → None ≡ line_at read text at → (at ≡ length text → complete t s.due ≡ false)
        → read_on t text at s ≡ refused breaks_rules at
    shape_broken kind l e m =
        let rest = drop at text in
        ⊎_elim
        (λ h.
        line_refused t text at s (first_line rest) (drop (length (first_line rest) + 1) rest) breaks_rules at (whole_line rest h.0) (line-without rest)
        (kind.so at (fields_at text at) ∙ rw h.1)) (λ w. no_line t text at s l w m) (line_none read text at (sym e))

    module _ (kind : Takes t s read order next) (n : ℕ) (x : A) (e : Some (n, x) ≡ line_at read text at) where
      -- a line of the shape with nothing against it is read
      pub line_read : first_of (order x) ≡ 0 → read_on t text at s ≡ read_on t text n (next x)
      line_read z =
          let f = line_found read text at (sym e) in
          line_sound t text at s (first_line (drop at text)) (drop n text) (next x) f.here f.plain (kind.so at (fields_at text at) x f.reads ∙ rw z)
          ∙ ap (λ (k : ℕ). read_on t text k (next x)) (sym f.past)

      -- one with something against it is refused where it starts
      pub line_held : (r : ℕ) → (r ≡ 0 → ⊥) → first_of (order x) ≡ r → read_on t text at s ≡ refused r at
      line_held r h z =
          let f = line_found read text at (sym e) in
          line_refused t text at s (first_line (drop at text)) (drop n text) r at f.here f.plain
          (kind.so at (fields_at text at) x f.reads ∙ rw z (unless_refused r (sound (next x)) (refused r at) h))

      pub line_faulty : (r : Refusal) → first_of (order x) ≡ number_of r → read_on t text at s ≡ refused_for (fault r at)
      line_faulty r z = line_held (number_of r) (number_given r) z
