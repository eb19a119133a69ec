-- `text::setups::read_setup` meets its contract: the header decides, or the lines after it.
use Rattle.std.proofs.Common.{◌≡◌, Err, arith}
use Rattle.rules.specs.declared.refusal.Refusal.TheVariants.{BreaksRules}
use Rattle.rules.proofs.Told.{known}
use Rattle.text.specs.Stages.{fault}
use Rattle.text.proofs.Ended.{header_broken, header_outside, header_read}
use Rattle.text.proofs.setups.read_setup.Goals as goal

pub returns-in_err-at : goal.returns-in_err-at
returns-in_err-at c =
    let refused : c.from_residual.result ≡ Err (fault BreaksRules 0) = grind arith in
    λ t. rw refused (header_broken t _ (rw c.in_err-at.ensures.ok_part at c.header_at.ensures))

pub returns-then-not-within_sizes : goal.returns-then-not-within_sizes
returns-then-not-within_sizes c =
    λ t.
    rw c.fault-then-not-within_sizes.ensures
    (header_outside t _ _ _ (rw c.in_ok-at.ensures.ok_part at c.header_at.ensures) (known c.within_sizes.ensures c.if-not-within_sizes.true))

pub returns : goal.returns
returns c =
    λ t.
    c.table_lines.ensures t
    (header_read t _ _ _ (rw c.in_ok-at.ensures.ok_part at c.header_at.ensures) (known c.within_sizes.ensures c.if-not-within_sizes.false))
