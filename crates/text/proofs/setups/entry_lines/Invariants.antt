-- `text::setups::entry_lines` meets its contract. The loop's invariant: the lines before the cursor are sound, and give the entries before i.
use lib.ListN.{length}
use Rattle.rules.specs.Refusals.{number_of}
use Rattle.text.proofs.Entered.{Entered}
use Rattle.text.proofs.setups.entry_lines.Given as goal

abbrev pub invariant-loop-i : goal.invariant-loop-i
invariant-loop-i l = Entered l.text l.start l.word.bytes.now l.bound (number_of l.refusal) (length l.initial.entries) l.entries l.at l.i
