-- `routes::writing::CallList::put` meets its contract. The loop's invariant: the calls passed are put.
use Rattle.std.proofs.Common.{map, take}
use Rattle.rules.specs.Calls.{numbers_for}
use Rattle.routes.specs.Writers.{Put}
use Rattle.routes.proofs.writing.CallList.put.Given as goal

abbrev pub invariant-loop-call : goal.invariant-loop-call
invariant-loop-call l = Put l.initial.self (map numbers_for (take l.call-index l.calls)) l.self
