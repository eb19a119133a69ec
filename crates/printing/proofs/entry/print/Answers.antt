-- `printing::entry::print` meets its contract.
use Rattle.std.proofs.Common.{refl}
use Rattle.printing.proofs.Texts.{printed_long, printed_text}
use Rattle.printing.proofs.Written.{in_front}
use Rattle.printing.proofs.entry.print.Goals as goal

pub returns-then-input-gt-INPUT : goal.returns-then-input-gt-INPUT
returns-then-input-gt-INPUT c =
    let front = in_front refl c.put_refusal.ensures in
    rw (printed_long c.args.input.now c.if-input-gt-INPUT.true) (record { value = front.0; output = front.1 })

pub returns : goal.returns
returns c =
    let front = in_front refl c.print_text.ensures in
    rw (printed_text c.args.input.now c.if-input-gt-INPUT.false) (record { value = front.0; output = front.1 })
