-- `calling::entry::make` meets its contract: what a turn on what the call looks at leaves is put back.
use mathlib.Core.Path.{ap}
use Rattle.rules.specs.declared.Called.{Called}
use Rattle.calling.proofs.Turns.{turned}
use Rattle.calling.proofs.entry.make.Goals as goal

pub returns-clause-next : goal.returns-clause-next
returns-clause-next c =
    rw c.put.ensures
    (ap (λ (z : Called). z.store) (turned _ _ _ c.process_of.ensures c.changeable.ensures c.look_at-look.ensures c.step-turn.ensures))
