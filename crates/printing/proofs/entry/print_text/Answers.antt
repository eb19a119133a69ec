-- `printing::entry::print_text` meets its contract.
use Prim.Native.Nat.{ℕ, ◌*◌, ◌≤◌}
use mathlib.Core.Path.{sym}
use mathlib.Core.List.{List}
use native.Mathlib.Omega.{arith}
use lib.ListN.{length, replicate, length-take}
use Rattle.rules.specs.Sizes.{most_calls}
use Rattle.rules.specs.Calls.{call_width}
use Rattle.printing.proofs.Texts.{refused_printed, read_few, read_runs, read_printed}
use Rattle.printing.proofs.entry.print_text.Goals as goal

-- the room for calls, as it is before they are read
room : List ℕ
room = replicate (most_calls * call_width) 0

spacious : most_calls * call_width ≤ length room
unfolding room
spacious = omega arith

pub slice_bounds-calls-end : goal.slice_bounds-calls-end
unfolding room
slice_bounds-calls-end c = omega (arith, read_few c.args.text.now room spacious _ (sym c.in-Ok.ensures.value), c.read_with_calls.auto.room)

pub slice_bounds-print_calls-end : goal.slice_bounds-print_calls-end
unfolding room
slice_bounds-print_calls-end c =
    simp length-take (omega (arith, read_few c.args.text.now room spacious _ (sym c.in-Ok.ensures.value), c.read_with_calls.auto.room))

pub print_calls-requires-clause-runs : goal.print_calls-requires-clause-runs
unfolding room
print_calls-requires-clause-runs c = rw c.in-Ok.ensures.room (read_runs c.args.text.now room spacious _ (sym c.in-Ok.ensures.value))

pub returns-in-Err : goal.returns-in-Err
unfolding room
returns-in-Err c = rw (refused_printed c.args.text.now room spacious _ _ (sym c.in-Err.ensures.value)) c.put_refusal.ensures

pub returns-in-Ok : goal.returns-in-Ok
unfolding room
returns-in-Ok c =
    rw (← read_printed c.args.text.now room spacious _ (sym c.in-Ok.ensures.value)) (rw c.in-Ok.ensures.room at c.print_calls.ensures)
