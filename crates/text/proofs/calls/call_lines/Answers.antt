-- `text::calls::call_lines` meets its contract: a line past the most or a broken one is refused, or all are read.
use Rattle.std.proofs.Common.{◌≡◌, Err, arith}
use Rattle.rules.specs.declared.refusal.Refusal.TheVariants.{BreaksRules}
use Rattle.text.specs.Stages.{fault}
use Rattle.text.proofs.Gathered.{gathered_all, gathered_past_most, gathered_broken}
use Rattle.text.proofs.calls.call_lines.Goals as goal

pub returns-then-count-ge-CALLS : goal.returns-then-count-ge-CALLS
returns-then-count-ge-CALLS c =
    rw c.fault.ensures (gathered_past_most _ _ _ _ _ _ c.loop-at.invariant c.loop-at-test.true c.if-count-ge-CALLS.true)

pub returns-in_err-next : goal.returns-in_err-next
returns-in_err-next c =
    let refused : c.from_residual.result ≡ Err (fault BreaksRules c.loop-at.at) = grind arith in
    rw refused (gathered_broken _ _ _ _ _ _ c.loop-at.invariant c.loop-at-test.true (rw c.in_err-next.ensures.ok_part at c.call_at.ensures))

pub returns : goal.returns
returns c = gathered_all _ _ _ _ _ _ c.loop-at.invariant c.loop-at-test.false
