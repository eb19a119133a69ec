-- `printing::writing::Writer::put_answer` meets its contract.
use Rattle.printing.proofs.Parts.{position_fits, end_fits, answer_wrote}
use Rattle.printing.proofs.writing.Writer.put_answer.Goals as goal

pub returns-in-Nothing : goal.returns-in-Nothing
returns-in-Nothing c = answer_wrote _ _ _ c.in-Nothing.is c.requires c.put_number.ensures c.put_word.ensures

pub returns-in-Figure : goal.returns-in-Figure
returns-in-Figure c = answer_wrote _ _ _ c.in-Figure.is c.requires c.put_number.ensures c.put_last.ensures

pub returns-in-Yes : goal.returns-in-Yes
returns-in-Yes c = answer_wrote _ _ _ c.in-Yes.is c.requires c.put_number.ensures c.put_word-in-Yes.ensures

pub returns-in-No : goal.returns-in-No
returns-in-No c = answer_wrote _ _ _ c.in-No.is c.requires c.put_number.ensures c.put_word-in-No.ensures

pub returns-in-Refused : goal.returns-in-Refused
returns-in-Refused c = answer_wrote _ _ _ c.in-Refused.is c.requires c.put_number.ensures c.put_last-in-Refused.ensures

pub put_number-requires : goal.put_number-requires
put_number-requires c = position_fits _ _ c.requires

pub put_word-requires : goal.put_word-requires
put_word-requires c = end_fits _ _ _ c.in-Nothing.is c.requires c.put_number.ensures

pub put_last-requires : goal.put_last-requires
put_last-requires c = end_fits _ _ _ c.in-Figure.is c.requires c.put_number.ensures

pub put_word-requires-in-Yes : goal.put_word-requires-in-Yes
put_word-requires-in-Yes c = end_fits _ _ _ c.in-Yes.is c.requires c.put_number.ensures

pub put_word-requires-in-No : goal.put_word-requires-in-No
put_word-requires-in-No c = end_fits _ _ _ c.in-No.is c.requires c.put_number.ensures

pub put_last-requires-in-Refused : goal.put_last-requires-in-Refused
put_last-requires-in-Refused c = end_fits _ _ _ c.in-Refused.is c.requires c.put_number.ensures
