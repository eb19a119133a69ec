-- `printing::entry::print_calls` meets its contract.
use Prim.Native.Nat.{◌*◌}
use mathlib.Core.Path.{◌≡◌}
use native.Mathlib.Omega.{arith}
use lib.ListN.{take}
use Rattle.rules.specs.Stores.{fresh_store}
use Rattle.rules.specs.Calls.{calls_in, calls_of}
use Rattle.lists.specs.Lists.{answer_width, answers_over, in_numbers}
use Rattle.printing.proofs.Ran.{answers_of-numbers, answers_front}
use Rattle.printing.proofs.entry.print_calls.Goals as goal

pub returns : goal.returns
returns c =
    let at = c.args in
    let front : take (calls_in at.calls.now * answer_width) c.run.new.answers ≡ in_numbers (answers_over at.setup fresh_store (calls_of at.calls.now)) =
    rw (c.run.ensures.room, c.fresh.ensures) (answers_front at.setup at.calls.now _ c.requires.runs (omega (arith, c.requires.runs.few))) in
    rw (front, answers_of-numbers) at c.put_answers.ensures
