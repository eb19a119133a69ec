-- `lists::running::run_all` meets its contract. The loop's invariant: the run has come as far as call i.
use Rattle.lists.proofs.Runs.{Running}
use Rattle.lists.proofs.running.run_all.Given as goal

abbrev pub invariant-loop-i : goal.invariant-loop-i
invariant-loop-i l = Running l.setup l.initial.store l.calls l.initial.answers l.i l.store l.answers
