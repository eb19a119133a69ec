-- `printing::writing::Writer::put_refusal` meets its contract.
use mathlib.Core.Path.{◌∙◌}
use native.Mathlib.Omega.{arith}
use Rattle.printing.proofs.Parts.{rest_fits, refusal_wrote}
use Rattle.printing.proofs.Widths.{refusal_fits}
use Rattle.printing.proofs.Written.{first_fits, next_fits}
use Rattle.printing.proofs.writing.Writer.put_refusal.Goals as goal

pub returns : goal.returns
returns c =
    let fits = refusal_fits c.from.result _ c.requires (omega (arith, c.from.ensures, c.number.type_inv)) c.ranges.offset.fits in
    rw (← (c.from.ensures ∙ c.number.ensures)) (refusal_wrote _ _ fits c.put_word.ensures c.put_number.ensures c.put_last.ensures)

pub put_number-requires : goal.put_number-requires
put_number-requires c =
    first_fits _ (rest_fits _ _ (refusal_fits _ _ c.requires (omega (arith, c.from.ensures, c.number.type_inv)) c.ranges.offset.fits) c.put_word.ensures)

pub put_last-requires : goal.put_last-requires
put_last-requires c =
    let fits = refusal_fits _ _ c.requires (omega (arith, c.from.ensures, c.number.type_inv)) c.ranges.offset.fits in
    next_fits (rest_fits _ _ fits c.put_word.ensures) c.put_number.ensures
