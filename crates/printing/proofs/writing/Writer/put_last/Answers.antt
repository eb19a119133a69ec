-- `printing::writing::Writer::put_last` meets its contract.
use Rattle.printing.proofs.Written.{first_fits, next_fits, wrote_next}
use Rattle.printing.proofs.writing.Writer.put_last.Goals as goal

pub returns : goal.returns
returns c =
    wrote_next c.requires c.put_word.ensures (wrote_next (next_fits c.requires c.put_word.ensures) c.put_number.ensures c.put_byte.ensures)

pub put_number-requires : goal.put_number-requires
put_number-requires c = first_fits _ (next_fits c.requires c.put_word.ensures)

pub put_byte-requires : goal.put_byte-requires
put_byte-requires c = next_fits (next_fits c.requires c.put_word.ensures) c.put_number.ensures
