-- `printing::writing::Writer::put_answers` meets its contract. The loop's invariant: the lines of the first i answers are written.
use Rattle.printing.specs.Writers.{Wrote}
use Rattle.printing.proofs.Shown.{lines_to}
use Rattle.printing.proofs.writing.Writer.put_answers.Given as goal

abbrev pub invariant-loop-i : goal.invariant-loop-i
invariant-loop-i l = Wrote l.initial.self (lines_to l.numbers l.i) l.self
