-- Laws of the parts that a line is written in, and of the lines of more answers.
-- Assumes nothing.
use Prim.Native.Nat.{ℕ, suc, ◌+◌}
use mathlib.Core.Path.{◌≡◌, ap, sym}
use mathlib.Core.List.{List, [], ◌∷◌, ◌++◌, append-nil, append_assoc}
use native.Mathlib.Nat.{add-zero, add-suc, suc-add}
use lib.ListN.{length}
use Rattle.rules.specs.declared.Answer.{Answer}
use Rattle.rules.specs.declared.Answer.TheVariants.{Nothing, Figure, Yes, No, Refused}
use Rattle.lines.specs.Bytes.{line_feed, tab}
use Rattle.lines.specs.Lines.{joined}
use Rattle.lines.specs.Decimals.{digits_of}
use Rattle.printing.specs.Outputs.{word_nothing, word_yes, word_no, word_figure, word_refused, line_of, answer_line, answer_lines, refusal_line}
use Rattle.printing.specs.Writers.{Fit, Wrote}
use Rattle.printing.specs.declared.writing.Writer.{Writer}
use Rattle.printing.proofs.Written.{first_fits, next_fits, wrote_next}

-- the first field, and the line of the others after a tab
line_parts : (first next : List ℕ) (rest : List (List ℕ)) → line_of (first ∷ next ∷ rest) ≡ first ++ (tab ∷ line_of (next ∷ rest))
unfolding joined
line_parts first next rest = append_assoc first (tab ∷ joined tab (next ∷ rest)) (line_feed ∷ [])

-- a word and a number after it, to the end of the line
abbrev pub last_of : List ℕ → ℕ → List ℕ
last_of word n = word ++ (digits_of n ++ (line_feed ∷ []))

-- what follows the position in an answer's line
abbrev pub answer_end : Answer → List ℕ
answer_end Nothing = tab ∷ (word_nothing ++ (line_feed ∷ []))
answer_end (Figure figure) = last_of (tab ∷ (word_figure ++ (tab ∷ []))) figure
answer_end Yes = tab ∷ (word_yes ++ (line_feed ∷ []))
answer_end No = tab ∷ (word_no ++ (line_feed ∷ []))
answer_end (Refused refusal) = last_of (tab ∷ (word_refused ++ (tab ∷ []))) refusal

pub answer_parts : (i : ℕ) (a : Answer) → answer_line i a ≡ digits_of i ++ answer_end a
unfolding answer_line joined
answer_parts i Nothing = line_parts (digits_of i) word_nothing []
answer_parts i (Figure figure) = line_parts (digits_of i) word_figure (digits_of figure ∷ [])
answer_parts i Yes = line_parts (digits_of i) word_yes []
answer_parts i No = line_parts (digits_of i) word_no []
answer_parts i (Refused refusal) = line_parts (digits_of i) word_refused (digits_of refusal ∷ [])

pub refusal_parts : (refusal at : ℕ) → refusal_line refusal at ≡ (word_refused ++ (tab ∷ [])) ++ (digits_of refusal ++ last_of (tab ∷ []) at)
unfolding refusal_line joined
refusal_parts refusal at = ap (λ (bytes : List ℕ). (word_refused ++ (tab ∷ [])) ++ bytes) (line_parts (digits_of refusal) (digits_of at) [])

-- the lines of one answer more
pub lines_more : (i : ℕ) (xs : List Answer) (a : Answer) → answer_lines i (xs ++ (a ∷ [])) ≡ answer_lines i xs ++ answer_line (i + length xs) a
unfolding answer_lines
lines_more i [] a = rw add-zero (append-nil (answer_line i a))
lines_more i (x ∷ xs) a =
    rw (lines_more (suc i) xs a, suc-add, ← add-suc) (sym (append_assoc (answer_line i x) (answer_lines (suc i) xs) _))

-- an answer's line fits in its parts: its position, and what follows
pub position_fits : {w : Writer} (i : ℕ) (a : Answer) → Fit w (answer_line i a) → Fit w (digits_of i)
position_fits {w} i a h = first_fits (answer_end a) (rw (answer_parts i a) at h)

pub end_fits : {w v : Writer} (i : ℕ) (a b : Answer) → a ≡ b → Fit w (answer_line i a) → Wrote w (digits_of i) v → Fit v (answer_end b)
end_fits i a b e h position = rw e at (next_fits (rw (answer_parts i a) at h) position)

pub answer_wrote : {w v u : Writer} (i : ℕ) (a b : Answer) → a ≡ b → Fit w (answer_line i a) → Wrote w (digits_of i) v → Wrote v (answer_end b) u → Wrote w (answer_line i a) u
answer_wrote {w} {v} {u} i a b e h position end = rw (answer_parts i a) (wrote_next (rw (answer_parts i a) at h) position (rw e end))

-- and a refusal's: the word, the number, and the offset
abbrev refusal_start : List ℕ
refusal_start = word_refused ++ (tab ∷ [])

abbrev refusal_rest : ℕ → ℕ → List ℕ
refusal_rest refusal at = digits_of refusal ++ last_of (tab ∷ []) at

pub rest_fits : {w v : Writer} (refusal at : ℕ) → Fit w (refusal_line refusal at) → Wrote w refusal_start v → Fit v (refusal_rest refusal at)
rest_fits refusal at h start = next_fits {xs = refusal_start} (rw (refusal_parts refusal at) at h) start

pub refusal_wrote : {w v u x : Writer} (refusal at : ℕ) → Fit w (refusal_line refusal at) → Wrote w refusal_start v → Wrote v (digits_of refusal) u
    → Wrote u (last_of (tab ∷ []) at) x → Wrote w (refusal_line refusal at) x
refusal_wrote refusal at h start number last =
    rw (refusal_parts refusal at)
    (wrote_next {xs = refusal_start} {ys = refusal_rest refusal at} (rw (refusal_parts refusal at) at h) start
    (wrote_next (rest_fits refusal at h start) number last))
