-- The loop of `fields::parts::one_of_at`: none of the words that have gone by stands there.
-- Assumes nothing.
use Rattle.std.proofs.Common.{◌≡◌, drop}
use Rattle.lines.specs.Shapes.{one_of}
use Rattle.fields.specs.Cursor.{names_of, part_at}
use Rattle.fields.specs.Stops.{stop_byte}
use Rattle.fields.proofs.parts.one_of_at.Given as goal

abbrev pub invariant-loop-word : goal.invariant-loop-word
invariant-loop-word l = part_at (one_of (names_of (drop l.word-index l.words))) (stop_byte l.stop) l.text l.at ≡ part_at (one_of (names_of l.words)) (stop_byte l.stop) l.text l.at
