-- `text::setups::access_lines` meets its contract: a line is refused, or read, or it is no access line and they are all read.
use Rattle.text.proofs.Accessed.{accessed_all, accessed_desk, accessed_class, accessed_order, accessed_more}
use Rattle.text.proofs.setups.access_lines.Goals as goal

pub returns-then-desks-line : goal.returns-then-desks-line
returns-then-desks-line c =
    rw c.fault.ensures (accessed_desk _ _ _ _ _ _ _ c.loop-next.invariant _ _ c.in-Some.ensures c.if-desks-line.true)

pub returns-then-classes-line : goal.returns-then-classes-line
returns-then-classes-line c =
    rw c.fault-then-classes-line.ensures
    (accessed_class _ _ _ _ _ _ _ c.loop-next.invariant _ _ c.in-Some.ensures c.if-desks-line.false c.if-classes-line.true)

pub returns-then-place-least : goal.returns-then-place-least
returns-then-place-least c =
    rw c.fault-then-place-least.ensures
    (accessed_order _ _ _ _ _ _ _ c.loop-next.invariant _ _ c.in-Some.ensures c.if-desks-line.false c.if-classes-line.false c.requires.2
    c.if-place-least.true)

pub loop-next-preserved : goal.loop-next-preserved
loop-next-preserved c =
    accessed_more _ _ _ _ _ _ _ c.loop-next.invariant _ _ c.in-Some.ensures c.if-desks-line.false c.if-classes-line.false c.requires.2 c.requires.1
    c.if-place-least.false

pub returns : goal.returns
returns c = accessed_all _ _ _ _ _ _ _ c.loop-next.invariant c.in_default.ensures
