-- Laws of lines and fields: what bytes are cut into is the bytes again when joined, and nothing else that holds no stop is.
-- Assumes nothing.
use Prim.Native.Nat.{ℕ, ◌+◌}
use mathlib.Core.Path.{◌≡◌, refl, ap, sym, ◌∙◌, subst}
use mathlib.Core.Bool.{Bool, true, false, not, ◌&&◌, cond, and-eq-true_iff}
use mathlib.Core.List.{List, [], ◌∷◌, ◌++◌, append-nil}
use native.Mathlib.Omega.{arith}
use borrow.Author.Tests.{eqb-true, eq-eqb, not-true}
use lib.Dec.{eqb}
use lib.ListN.{length, length-append}
use Rattle.rules.proofs.Lists.{by_test}
use Rattle.lines.specs.Bytes.{line_feed, tab}
use Rattle.lines.specs.Lines.{onto, pieces, joined, Line, line, last_line, lines_from, lines_of, fields_of}

-- the stop is none of the bytes
abbrev pub holds_no : ℕ → List ℕ → Bool
holds_no stop [] = true
holds_no stop (b ∷ rest) = not (eqb b stop) && holds_no stop rest

-- and in none of the pieces
abbrev pub none_holds : ℕ → List (List ℕ) → Bool
none_holds stop [] = true
none_holds stop (piece ∷ more) = holds_no stop piece && none_holds stop more

-- a byte before the first piece is a byte before what they join to
joined-onto : (stop b : ℕ) (ps : List (List ℕ)) → joined stop (onto b ps) ≡ b ∷ joined stop ps
unfolding joined
joined-onto stop b [] = refl
joined-onto stop b (p ∷ []) = refl
joined-onto stop b (p ∷ (q ∷ more)) = refl

-- bytes have a first piece
pub first_piece : (stop : ℕ) (bytes : List ℕ) → (p : List ℕ) × (more : List (List ℕ)) × (pieces stop bytes ≡ p ∷ more)
unfolding pieces
first_piece stop [] = ([], [], refl)
first_piece stop (b ∷ rest) =
    let (p, more, e) = first_piece stop rest in
    by_test (eqb b stop) (λ t. ([], pieces stop rest, rw t)) (λ f. (b ∷ p, more, rw (f, e)))

-- a first piece that is empty is a stop before what the others join to, where there are others
joined_empty : (stop : ℕ) (ps : List (List ℕ)) (p : List ℕ) (more : List (List ℕ)) → ps ≡ p ∷ more → joined stop ([] ∷ ps) ≡ stop ∷ joined stop ps
unfolding joined
joined_empty stop ps p more e = rw e

-- what bytes are cut into is the bytes again when joined
pub pieces-joined : (stop : ℕ) (bytes : List ℕ) → joined stop (pieces stop bytes) ≡ bytes
unfolding pieces
pieces-joined stop [] = unfold joined in refl
pieces-joined stop (b ∷ rest) =
    let (p, more, e) = first_piece stop rest in
    by_test (eqb b stop)
    (λ t.
    rw t (joined_empty stop (pieces stop rest) p more e ∙ cc (eqb-true b stop t, pieces-joined stop rest)))
    (λ f. rw f (joined-onto stop b (pieces stop rest) ∙ cc (pieces-joined stop rest)))

-- a line's bytes with its LF, if that is there, and those of several lines
abbrev pub ending : Bool → List ℕ
ending whole = cond whole (line_feed ∷ []) []

unfoldable pub text_of : List Line → List ℕ
text_of [] = []
text_of (l ∷ lines) = l.bytes ++ (ending l.whole ++ text_of lines)

-- the lines that pieces are make up what the pieces join to
text_of-lines_from : (at : ℕ) (ps : List (List ℕ)) → text_of (lines_from at ps) ≡ joined line_feed ps
unfolding text_of lines_from joined
text_of-lines_from at [] = refl
text_of-lines_from at ([] ∷ []) = refl
text_of-lines_from at ((b ∷ bytes) ∷ []) = append-nil (b ∷ bytes)
text_of-lines_from at (p ∷ (q ∷ more)) = ap (λ (t : List ℕ). p ++ (line_feed ∷ t)) (text_of-lines_from (at + length p + 1) (q ∷ more))

-- a text is its lines, each with its LF
pub text_is_lines : (text : List ℕ) → text_of (lines_of text) ≡ text
unfolding lines_of
text_is_lines text = text_of-lines_from 0 (pieces line_feed text) ∙ pieces-joined line_feed text

-- a line is its fields joined by tabs
pub line_is_fields : (bytes : List ℕ) → joined tab (fields_of bytes) ≡ bytes
unfolding fields_of
line_is_fields bytes = pieces-joined tab bytes

-- bytes without the stop are one piece, and those before a stop are the first
pub pieces_last : (stop : ℕ) (bytes : List ℕ) → holds_no stop bytes ≡ true → pieces stop bytes ≡ bytes ∷ []
unfolding pieces
pieces_last stop [] h = refl
pieces_last stop (b ∷ rest) h =
    let (n, w) = (and-eq-true_iff (not (eqb b stop)) (holds_no stop rest)).0 h in
    rw (not-true (eqb b stop) n, pieces_last stop rest w)

pub pieces_first : (stop : ℕ) (bytes rest : List ℕ) → holds_no stop bytes ≡ true → pieces stop (bytes ++ (stop ∷ rest)) ≡ bytes ∷ pieces stop rest
unfolding pieces
pieces_first stop [] rest h = rw (eq-eqb stop stop refl)
pieces_first stop (b ∷ bytes) rest h =
    let (n, w) = (and-eq-true_iff (not (eqb b stop)) (holds_no stop bytes)).0 h in
    rw (not-true (eqb b stop) n, pieces_first stop bytes rest w)

-- no piece holds the stop
without_onto : (stop b : ℕ) (ps : List (List ℕ)) → eqb b stop ≡ false → none_holds stop ps ≡ true → none_holds stop (onto b ps) ≡ true
without_onto stop b [] f h = rw f
without_onto stop b (p ∷ more) f h = rw (f, h)

pub pieces_without : (stop : ℕ) (bytes : List ℕ) → none_holds stop (pieces stop bytes) ≡ true
unfolding pieces
pieces_without stop [] = refl
pieces_without stop (b ∷ rest) =
    by_test (eqb b stop) (λ t. rw t (pieces_without stop rest)) (λ f. rw f (without_onto stop b (pieces stop rest) f (pieces_without stop rest)))

-- pieces that hold no stop are what they join to is cut into
pub pieces_of_joined : (stop : ℕ) (p : List ℕ) (more : List (List ℕ)) → none_holds stop (p ∷ more) ≡ true → pieces stop (joined stop (p ∷ more)) ≡ p ∷ more
unfolding joined
pieces_of_joined stop p [] h = pieces_last stop p ((and-eq-true_iff (holds_no stop p) true).0 h).0
pieces_of_joined stop p (q ∷ more) h =
    let (w, v) = (and-eq-true_iff (holds_no stop p) (none_holds stop (q ∷ more))).0 h in
    pieces_first stop p (joined stop (q ∷ more)) w ∙ cc (pieces_of_joined stop q more v)

-- no field holds a tab, and fields that hold none are those of the line that they join to
pub fields_without : (bytes : List ℕ) → none_holds tab (fields_of bytes) ≡ true
unfolding fields_of
fields_without bytes = pieces_without tab bytes

pub fields_of-joined : (field : List ℕ) (more : List (List ℕ)) → none_holds tab (field ∷ more) ≡ true → fields_of (joined tab (field ∷ more)) ≡ field ∷ more
unfolding fields_of
fields_of-joined field more h = pieces_of_joined tab field more h

-- the lines of the bytes from an offset on: the first goes as far as its LF, or to the end
pub lines_first : (at : ℕ) (bytes rest : List ℕ) → holds_no line_feed bytes ≡ true
    → lines_from at (pieces line_feed (bytes ++ (line_feed ∷ rest))) ≡ line at bytes true ∷ lines_from (at + length bytes + 1) (pieces line_feed rest)
unfolding lines_from
lines_first at bytes rest h =
    let (p, more, e) = first_piece line_feed rest in
    rw (pieces_first line_feed bytes rest h, e)

pub lines_last : (at : ℕ) (bytes : List ℕ) → holds_no line_feed bytes ≡ true → lines_from at (pieces line_feed bytes) ≡ last_line at bytes
unfolding lines_from
lines_last at bytes h = rw (pieces_last line_feed bytes h)

-- each line stands where those before it end, the first at an offset
pub data Placed : ℕ → List Line → Type 0 where
  placed_none : {at : ℕ} → Placed at []
  placed_line : {at : ℕ} {l : Line} {lines : List Line} → l.at ≡ at → Placed (at + length (l.bytes ++ ending l.whole)) lines → Placed at (l ∷ lines)

placed_lines_from : (at : ℕ) (ps : List (List ℕ)) → Placed at (lines_from at ps)
unfolding lines_from
placed_lines_from at [] = placed_none
placed_lines_from at ([] ∷ []) = placed_none
placed_lines_from at ((b ∷ bytes) ∷ []) = placed_line refl placed_none
placed_lines_from at (p ∷ (q ∷ more)) =
    let same : at + length p + 1 ≡ at + length (p ++ (line_feed ∷ [])) = simp length-append (omega arith) in
    placed_line refl (subst (λ (n : ℕ). Placed n (lines_from (at + length p + 1) (q ∷ more))) same (placed_lines_from (at + length p + 1) (q ∷ more)))

placed_at : {at : ℕ} (before : List Line) (l : Line) (after : List Line) → Placed at (before ++ (l ∷ after)) → l.at ≡ at + length (text_of before)
unfolding text_of
placed_at [] l after (placed_line e rest) = e ∙ omega arith
placed_at {at = at} (m ∷ before) l after (placed_line e rest) =
    placed_at {at = at + length (m.bytes ++ ending m.whole)} before l after rest ∙ simp length-append (omega arith)

-- the offset of a line is the length of the lines before it, with their LFs
pub line_offset : (text : List ℕ) (before : List Line) (l : Line) (after : List Line) → lines_of text ≡ before ++ (l ∷ after) → l.at ≡ length (text_of before)
unfolding lines_of
line_offset text before l after e =
    placed_at before l after (subst (λ (ls : List Line). Placed 0 ls) e (placed_lines_from 0 (pieces line_feed text))) ∙ omega arith

-- lines as a text is cut into: none holds an LF, each is whole but what may follow the last LF, which is not empty
pub data Cut : List Line → Type 0 where
  cut_none : Cut []
  cut_last : {at b : ℕ} {bytes : List ℕ} → holds_no line_feed (b ∷ bytes) ≡ true → Cut (line at (b ∷ bytes) false ∷ [])
  cut_line : {at : ℕ} {bytes : List ℕ} {lines : List Line} → holds_no line_feed bytes ≡ true → Cut lines → Cut (line at bytes true ∷ lines)

cut_lines_from : (at : ℕ) (ps : List (List ℕ)) → none_holds line_feed ps ≡ true → Cut (lines_from at ps)
unfolding lines_from
cut_lines_from at [] h = cut_none
cut_lines_from at ([] ∷ []) h = cut_none
cut_lines_from at ((b ∷ bytes) ∷ []) h = cut_last ((and-eq-true_iff (holds_no line_feed (b ∷ bytes)) true).0 h).0
cut_lines_from at (p ∷ (q ∷ more)) h =
    let (w, v) = (and-eq-true_iff (holds_no line_feed p) (none_holds line_feed (q ∷ more))).0 h in
    cut_line w (cut_lines_from (at + length p + 1) (q ∷ more) v)

pub lines_cut : (text : List ℕ) → Cut (lines_of text)
unfolding lines_of
lines_cut text = cut_lines_from 0 (pieces line_feed text) (pieces_without line_feed text)

pub lines_placed : (text : List ℕ) → Placed 0 (lines_of text)
unfolding lines_of
lines_placed text = placed_lines_from 0 (pieces line_feed text)

-- and such lines, each in its place, are the lines of the text that they make up
lines_from_of_text : (at : ℕ) (lines : List Line) → Cut lines → Placed at lines → lines_from at (pieces line_feed (text_of lines)) ≡ lines
unfolding text_of
lines_from_of_text at [] cut_none p = lines_last at [] refl
lines_from_of_text at lines (cut_last {at = k} {b = b} {bytes = bytes} w) (placed_line e p) =
    ap (λ (t : List ℕ). lines_from at (pieces line_feed t)) (append-nil (b ∷ bytes)) ∙ lines_last at (b ∷ bytes) w
    ∙ ap (λ (n : ℕ). line n (b ∷ bytes) false ∷ []) (sym e)
lines_from_of_text at lines (cut_line {at = k} {bytes = bytes} {lines = rest} w c) (placed_line e p) =
    let next : at + length (bytes ++ (line_feed ∷ [])) ≡ at + length bytes + 1 = simp length-append (omega arith) in
    lines_first at bytes (text_of rest) w
    ∙ cc (e, lines_from_of_text (at + length bytes + 1) rest c (subst (λ (n : ℕ). Placed n rest) next p))

pub lines_of_text : (lines : List Line) → Cut lines → Placed 0 lines → lines_of (text_of lines) ≡ lines
unfolding lines_of
lines_of_text lines c p = lines_from_of_text 0 lines c p
