-- The stops that end a field, and the words that hold none.
use Rattle.std.specs.Prelude.{ℕ, Bool, true, not, ◌&&◌, ◌||◌, List, [], ◌∷◌, eqb}
use Rattle.lines.specs.Bytes.{line_feed, tab}
use Rattle.fields.specs.declared.stop.Stop.{Stop}
use Rattle.fields.specs.declared.stop.Stop.TheVariants.{Tab, LineFeed}

-- a stop ends a field: a tab or an LF
abbrev pub is_stop : ℕ → Bool
is_stop b = eqb b tab || eqb b line_feed

-- the byte of each
abbrev pub stop_byte : Stop → ℕ
stop_byte Tab = tab
stop_byte LineFeed = line_feed

-- so a word that is to be found holds none
abbrev pub no_stop : List ℕ → Bool
no_stop [] = true
no_stop (b ∷ rest) = not (is_stop b) && no_stop rest
