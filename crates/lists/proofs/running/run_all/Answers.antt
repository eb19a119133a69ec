-- `lists::running::run_all` meets its contract.
use Rattle.std.proofs.Common.{arith, ◌<◌, ◌≤◌}
use Rattle.rules.specs.Calls.{calls_in}
use Rattle.lists.proofs.Chunks.{quad_call}
use Rattle.lists.proofs.Runs.{running_none, running_more, running_all}
use Rattle.lists.proofs.running.run_all.Goals as goal

pub loop-i-init : goal.loop-i-init
loop-i-init c = running_none _ _ _ _ c.requires.1

pub loop-i-preserved : goal.loop-i-preserved
loop-i-preserved c =
    let list = c.args.calls.now in
    let l : c.loop-i.i < calls_in list = omega (arith, c.as_chunks.ensures.front_len) in
    running_more _ _ _ _ _ _ _ c.loop-i.invariant l (quad_call list _ c.as_chunks.ensures.front l) c.run_one-answer.ensures.answer c.run_one-answer.ensures.next c.put.ensures

pub returns : goal.returns
returns c =
    let all : calls_in c.args.calls.now ≤ c.loop-i.i = omega (arith, c.as_chunks.ensures.front_len) in
    let r = running_all _ _ _ _ _ _ _ c.loop-i.invariant all in
    record { ends = r.0; answered = r.1 }
