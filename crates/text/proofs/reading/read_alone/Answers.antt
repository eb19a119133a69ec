-- `text::reading::read_alone` meets its contract: a further line is refused, or the setup is read.
use Rattle.std.proofs.Common.{ap}
use Rattle.lines.specs.Entries.{text_numbers_of}
use Rattle.lines.specs.Readings.{alone}
use Rattle.text.proofs.Answered.{alone_further, alone_given}
use Rattle.text.proofs.reading.read_alone.Goals as goal

pub returns-then-end-text-clause-value : goal.returns-then-end-text-clause-value
returns-then-end-text-clause-value c = rw c.fault.ensures (alone_further _ _ _ (c.in_ok-end.ensures alone) c.if-end-text.true)

pub returns-then-end-text-clause-numbers : goal.returns-then-end-text-clause-numbers
returns-then-end-text-clause-numbers c = ap text_numbers_of (returns-then-end-text-clause-value c)

pub returns-clause-value : goal.returns-clause-value
returns-clause-value c = alone_given _ _ _ (c.in_ok-end.ensures alone) c.if-end-text.false

pub returns-clause-numbers : goal.returns-clause-numbers
returns-clause-numbers c = ap text_numbers_of (returns-clause-value c)
