-- What a text's first line from a cursor on comes to, where what it is read as is of any level.
-- Assumes nothing.
use Prim.Native.Nat.{ℕ, ◌+◌, ◌≤◌}
use mathlib.Core.Path.{◌≡◌, ap, sym, ◌∙◌}
use mathlib.Core.Bool.{false}
use mathlib.Core.List.{List}
use mathlib.Core.Logic.{⊎_elim}
use mathlib.Core.Option.{Option, some, none}
use lib.ListN.{length, drop}
use Rattle.rules.specs.Refusals.{Ground, first_of}
use Rattle.rules.proofs.Told.{unless_refused}
use Rattle.lines.specs.Readings.{SoFar, sound, refused, breaks_rules, judged, Text, judge_due, complete}
use Rattle.fields.specs.Cursor.{first_line}
use Rattle.fields.proofs.Firsts.{line-without, whole_line}
use Rattle.fields.proofs.Levels.{line_at, line_found, line_none}
use Rattle.text.specs.ReadOn.{read_on}
use Rattle.text.proofs.ReadOn.{line_refused, line_sound, no_line, fields_at}

-- lines of one kind: what is due is judged by a shape, its refusals in their order, and what is read after it
abbrev pub Judges {ℓ} : Text → SoFar → {A : Type ℓ} → (List (List ℕ) → Option A) → (A → List Ground) → (A → SoFar) → Type 0
Judges t s read order next = (at : ℕ) (fields : List (List ℕ)) → judge_due t s.due s at fields ≡ judged at (read fields) order next

-- the same of the lines alone that have the shape
abbrev pub Takes {ℓ} : Text → SoFar → {A : Type ℓ} → (List (List ℕ) → Option A) → (A → List Ground) → (A → SoFar) → Type ℓ
Takes t s {A} read order next =
    (at : ℕ) (fields : List (List ℕ)) (x : A) → read fields ≡ some x → judge_due t s.due s at fields ≡ judged at (some x) order next

module _ {ℓ} {A : Type ℓ} (t : Text) (text : List ℕ) (at : ℕ) (s : SoFar) (read : List (List ℕ) → Option A) (order : A → List Ground)
    (next : A → SoFar) where
  pub judges_takes : Judges t s read order next → Takes t s read order next
  judges_takes kind at fields x e = kind at fields ∙ rw e

  -- a line that is not of the shape, that has no LF or that is missing breaks the rules where it starts
  pub shape_broken : Judges t s read order next → at ≤ length text → line_at read text at ≡ none → (at ≡ length text → complete t s.due ≡ false)
      → read_on t text at s ≡ refused breaks_rules at
  shape_broken kind l e m =
      let rest = drop at text in
      ⊎_elim
      (λ h.
      line_refused t text at s (first_line rest) (drop (length (first_line rest) + 1) rest) breaks_rules at (whole_line rest h.0) (line-without rest)
      (kind at (fields_at text at) ∙ rw h.1)) (λ w. no_line t text at s l w m) (line_none read text at e)

  module _ (kind : Takes t s read order next) (n : ℕ) (x : A) (e : line_at read text at ≡ some (n, x)) where
    -- a line of the shape with nothing against it is read
    pub line_read : first_of (order x) ≡ 0 → read_on t text at s ≡ read_on t text n (next x)
    line_read z =
        let f = line_found read text at e in
        line_sound t text at s (first_line (drop at text)) (drop n text) (next x) f.here f.plain (kind at (fields_at text at) x f.reads ∙ rw z)
        ∙ ap (λ (k : ℕ). read_on t text k (next x)) (sym f.past)

    -- one with something against it is refused where it starts
    pub line_held : (r : ℕ) → (r ≡ 0 → ⊥) → first_of (order x) ≡ r → read_on t text at s ≡ refused r at
    line_held r h z =
        let f = line_found read text at e in
        line_refused t text at s (first_line (drop at text)) (drop n text) r at f.here f.plain
        (kind at (fields_at text at) x f.reads ∙ rw z (unless_refused r (sound (next x)) (refused r at) h))
