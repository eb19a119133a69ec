-- `text::setups::entry_tables` meets its contract: process lines, then file lines, and then the setup is whole.
use Rattle.std.proofs.Common.{◌≡◌, Err, arith}
use Rattle.text.proofs.Ended.{processes_refused, files_refused, setup-given}
use Rattle.text.proofs.setups.entry_tables.Goals as goal

pub returns-in_err-at : goal.returns-in_err-at
returns-in_err-at c =
    let refused : c.from_residual.result ≡ Err c.in_err-at.field-0.0 = grind arith in
    λ t access inside are start.
    rw refused (processes_refused _ _ _ _ c.requires.1 _ _ _ t access inside are start _ c.in_err-at.ensures)

pub returns-in_err-at-2 : goal.returns-in_err-at-2
returns-in_err-at-2 c =
    let refused : c.from_residual-in_err-at-2.result ≡ Err c.in_err-at-2.field-0.0 = grind arith in
    λ t access inside are start.
    rw refused (files_refused _ _ _ _ c.requires.1 _ _ _ t access inside are start _ _ c.in_ok-at.ensures _ c.in_err-at-2.ensures)

pub returns : goal.returns
returns c =
    λ t access inside are start.
    setup-given _ _ _ _ c.requires.1 _ _ _ t access inside are start _ _ c.in_ok-at.ensures _ _ c.in_ok-at-2.ensures
