-- `text::reading::read_with_calls` meets its contract: the `calls` line or a call line is refused, or setup and calls are read.
use Rattle.std.proofs.Common.{◌≡◌, Err, ap, arith}
use Rattle.rules.specs.declared.refusal.Refusal.TheVariants.{BreaksRules}
use Rattle.lines.specs.Entries.{text_numbers_of}
use Rattle.lines.specs.Readings.{calls_follow}
use Rattle.text.specs.Stages.{fault}
use Rattle.text.proofs.Answered.{calls_broken, call_refused, with_given}
use Rattle.text.proofs.reading.read_with_calls.Goals as goal

pub returns-in_err-first : goal.returns-in_err-first
returns-in_err-first c =
    let refused : c.from_residual-in_err-first.result ≡ Err (fault BreaksRules c.in_ok-end.end) = grind arith in
    let read = calls_broken _ _ c.if-room.false _ _ (c.in_ok-end.ensures calls_follow) (rw c.in_err-first.ensures.ok_part at c.calls_at.ensures) in
    record { value = rw refused read.value; room = read.left_is; numbers = rw refused (ap text_numbers_of read.value) }

pub returns-in_err-count : goal.returns-in_err-count
returns-in_err-count c =
    let refused : c.from_residual-in_err-count.result ≡ Err c.in_err-count.field-0.0 = grind arith in
    let read = call_refused _ _ c.if-room.false _ _ (c.in_ok-end.ensures calls_follow) _ (rw c.in_ok-first.ensures.ok_part at c.calls_at.ensures) _ c.in_err-count.ensures in
    record { value = rw refused read.value; room = read.left_is; numbers = rw refused (ap text_numbers_of read.value) }

pub returns : goal.returns
returns c =
    let read = with_given _ _ c.if-room.false _ _ (c.in_ok-end.ensures calls_follow) _ (rw c.in_ok-first.ensures.ok_part at c.calls_at.ensures) _ _ _ c.in_ok-count.ensures in
    record { value = read.value; room = rw c.copy_from_slice.ensures.after read.left_is; numbers = ap text_numbers_of read.value }
