-- `routes::writing::write_route` meets its contract. The loop's invariant: the calls as far as desk d are written.
use native.Mathlib.Omega.{arith}
use borrow.Author.Rules.{rules}
use mathlib.Core.Path.{refl}
use Prim.Native.Nat.{◌<◌}
use Rattle.rules.specs.Sizes.{most_files}
use Rattle.routes.proofs.Written.{written_none, written_more, written_all, desk_next, file_next, desk_second, file_first, start_left, route_written}
use Rattle.routes.proofs.writing.write_route.Goals as goal

pub file_for-f-requires : goal.file_for-f-requires
file_for-f-requires c = (c.requires.from, rw c.next_desk-d.ensures (desk_second c.requires))

pub overflow_cast-f : goal.overflow_cast-f
overflow_cast-f c =
    let small : c.file_for-f.result < most_files = rw (c.file_for-f.ensures, c.next_desk-d.ensures) (file_first c.requires) in
    omega arith

pub loop-left-init : goal.loop-left-init
loop-left-init c =
    rw (c.file_for-f.ensures, c.next_desk-d.ensures)
    (written_none (start_left c.requires refl refl (rw (c.lowest_process-p.ensures, c.file_for-f.ensures, c.next_desk-d.ensures) at c.put.ensures)))

pub file_for-g-requires : goal.file_for-g-requires
file_for-g-requires c =
    let pre = c.requires in
    (c.loop-left.invariant.left.is_desk, rw c.next_desk-e.ensures (desk_next c.loop-left.invariant pre.setup pre.own _ (omega arith)))

pub overflow_cast-g : goal.overflow_cast-g
overflow_cast-g c =
    let pre = c.requires in
    let small : c.file_for-g.result < most_files = rw (c.file_for-g.ensures, c.next_desk-e.ensures) (file_next c.loop-left.invariant pre.setup pre.own _ (omega arith)) in
    omega arith

pub loop-left-preserved : goal.loop-left-preserved
loop-left-preserved c =
    let pre = c.requires in
    rw (c.file_for-g.ensures, c.next_desk-e.ensures)
    (written_more c.loop-left.invariant pre.setup pre.own _ (omega arith)
    (rw (c.file_for-g.ensures, c.next_desk-e.ensures, c.lowest_process-p-in-loop-left.ensures) at c.put-in-loop-left.ensures))

pub returns : goal.returns
returns c =
    let w = c.loop-left.invariant in
    let rest = written_all w (omega (arith, c.loop-left-test.false)) (rw c.lowest_process-p-2.ensures at c.put-2.ensures) in
    let start = rw (c.lowest_process-p.ensures, c.file_for-f.ensures, c.next_desk-d.ensures) at c.put.ensures in
    let all = route_written c.requires refl refl start (rw (c.file_for-f.ensures, c.next_desk-d.ensures) at rest) in
    record { value = all.0; room = search (rules, all.1, w.put.same) }
