-- `text::setups::entry_lines` meets its contract, line by line.
use Rattle.std.proofs.Common.{◌≡◌, Err, refl, arith}
use Rattle.rules.specs.declared.refusal.Refusal.TheVariants.{BreaksRules}
use Rattle.text.specs.Stages.{fault}
use Rattle.text.proofs.Entered.{entered_broken, entered_bound, entered_order, entered_more}
use Rattle.text.proofs.setups.entry_lines.Goals as goal

pub returns-in_err-next : goal.returns-in_err-next
returns-in_err-next c =
    let refused : c.from_residual.result ≡ Err (fault BreaksRules c.loop-i.at) = grind arith in
    rw refused (entered_broken _ _ _ _ _ _ _ _ _ c.loop-i.invariant c.loop-i-test.true (rw c.in_err-next.ensures.ok_part at c.entry_line_at-line.ensures))

pub returns-then-bound-line : goal.returns-then-bound-line
returns-then-bound-line c =
    rw c.fault-then-bound-line.ensures
    (entered_bound _ _ _ _ _ _ _ _ _ c.loop-i.invariant c.loop-i-test.true _ _ _ (rw c.in_ok-next.ensures.ok_part at c.entry_line_at-line.ensures)
    _ refl c.if-bound-line.true)

pub returns-then-line-i : goal.returns-then-line-i
returns-then-line-i c =
    rw c.fault-then-line-i.ensures
    (entered_order _ _ _ _ _ _ _ _ _ c.loop-i.invariant c.loop-i-test.true _ _ _ (rw c.in_ok-next.ensures.ok_part at c.entry_line_at-line.ensures)
    c.if-bound-line.false c.if-line-i.true)

pub loop-i-preserved : goal.loop-i-preserved
loop-i-preserved c =
    entered_more _ _ _ _ _ _ _ _ _ c.loop-i.invariant c.loop-i-test.true _ _ _ (rw c.in_ok-next.ensures.ok_part at c.entry_line_at-line.ensures)
    c.if-bound-line.false c.if-line-i.false
