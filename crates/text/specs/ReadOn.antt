-- A text whose lines before a cursor were sound: what it comes to, by what was read so far.
use Rattle.std.specs.Prelude.{ℕ, List, length, drop}
use Rattle.lines.specs.Bytes.{line_feed}
use Rattle.lines.specs.Lines.{pieces, lines_from}
use Rattle.lines.specs.Readings.{SoFar, Reached, sound, Text, judge_all, at_end}

-- what the lines from a cursor on come to
unfoldable pub read_on : Text → List ℕ → ℕ → SoFar → Reached
read_on t text at s = at_end t (length text) (judge_all t (sound s) (lines_from at (pieces line_feed (drop at text))))
