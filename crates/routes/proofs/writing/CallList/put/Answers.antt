-- `routes::writing::CallList::put` meets its contract: the calls put one by one are put together.
use Rattle.std.proofs.Common.{refl}
use Rattle.routes.proofs.Puts.{put_none, put_more}
use Rattle.routes.proofs.writing.CallList.put.Goals as goal

pub loop-call-init : goal.loop-call-init
loop-call-init c = put_none _

pub loop-call-preserved : goal.loop-call-preserved
loop-call-preserved c =
    put_more _ _ _ c.loop-call.invariant (record { same = refl; many = refl; put = c.put_call.ensures }) c.into.ensures c.requires c.loop-call-test.true
