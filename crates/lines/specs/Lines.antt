-- 01, "Line rules": the lines of a text and the fields of a line.
use Rattle.std.specs.Prelude.{ℕ, ◌+◌, Bool, true, false, cond, List, [], ◌∷◌, ◌++◌, eqb, length}
use Rattle.lines.specs.Bytes.{line_feed, tab}

-- a byte put before the first of the pieces
abbrev pub onto : ℕ → List (List ℕ) → List (List ℕ)
onto b [] = (b ∷ []) ∷ []
onto b (piece ∷ more) = (b ∷ piece) ∷ more

-- bytes cut at each stop, a byte that is in no piece; there is one piece more than there are stops
unfoldable pub pieces : ℕ → List ℕ → List (List ℕ)
pieces stop [] = [] ∷ []
pieces stop (b ∷ rest) = cond (eqb b stop) ([] ∷ pieces stop rest) (onto b (pieces stop rest))

-- pieces with the stop between each and the next
unfoldable pub joined : ℕ → List (List ℕ) → List ℕ
joined stop [] = []
joined stop (piece ∷ []) = piece
joined stop (piece ∷ (next ∷ more)) = piece ++ (stop ∷ joined stop (next ∷ more))

-- a line: the offset of its first byte, its bytes without the LF, and whether its LF is there
pub record Line : Type 0 where
  pub at : ℕ
  pub bytes : List ℕ
  pub whole : Bool

abbrev pub line : ℕ → List ℕ → Bool → Line
line at bytes whole = record { at = at; bytes = bytes; whole = whole }

-- what follows the last LF: a line that is not whole, or no line where it is empty
abbrev pub last_line : ℕ → List ℕ → List Line
last_line at [] = []
last_line at (b ∷ bytes) = line at (b ∷ bytes) false ∷ []

-- the pieces between LFs as lines, the first of which starts at an offset
unfoldable pub lines_from : ℕ → List (List ℕ) → List Line
lines_from at [] = []
lines_from at (piece ∷ []) = last_line at piece
lines_from at (piece ∷ (next ∷ more)) = line at piece true ∷ lines_from (at + length piece + 1) (next ∷ more)

-- "Lines end with LF"
unfoldable pub lines_of : List ℕ → List Line
lines_of text = lines_from 0 (pieces line_feed text)

-- "fields are parted by one tab"
unfoldable pub fields_of : List ℕ → List (List ℕ)
fields_of bytes = pieces tab bytes
