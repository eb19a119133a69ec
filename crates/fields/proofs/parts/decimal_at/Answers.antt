-- `fields::parts::decimal_at` meets its contract. The loop's invariant: the bytes that have gone by are digits, and `value` is theirs.
use Rattle.std.proofs.Common.{arith, sym, ◌∙◌}
use borrow.Author.Tests.{ne_eqb}
use Rattle.fields.proofs.Scanned.{rest_is, counted_more, counted_large, counted_stop, counted_other}
use Rattle.fields.proofs.parts.decimal_at.Goals as goal
use Rattle.fields.proofs.parts.decimal_at.Goals.{then-byte, else-byte}

pub returns-then-not-is_ascii_digit : goal.returns-then-not-is_ascii_digit
returns-then-not-is_ascii_digit c =
    let rest = rest_is c.args.text.now c.args.at c.in_ok-rest.ensures.lookup.0.2 in
    let so_far = c.loop-i.invariant in
    let no_digit = c.if-not-is_ascii_digit.ensures.value in
    elim c.if-byte.branch [
      | then-byte w ↦
          rw (c.then_some.ensures, w.taken-is, w.starts_well-taken.ensures)
          (counted_stop _ _ _ rest _ _ so_far.counted c.loop-i-test.true no_digit so_far.small (w.if-byte.true ∙ c.byte.ensures))
      | else-byte w ↦
          rw (c.then_some.ensures, w.taken-is, ne_eqb _ _ w.if-byte.false)
          (counted_other _ _ _ rest _ _ so_far.counted c.loop-i-test.true no_digit so_far.small (λ e. w.if-byte.false (e ∙ sym c.byte.ensures)))
    ]

pub returns-in_err-checked_mul : goal.returns-in_err-checked_mul
returns-in_err-checked_mul c =
    let over = c.in_err-checked_mul.ensures in
    let digit = c.if-not-is_ascii_digit.ensures.value in
    rw c.from_residual-in_err-checked_mul.ensures
    (counted_large _ _ _ c.in_ok-rest.ensures.lookup.0.2 _ _ c.loop-i.invariant.counted c.loop-i-test.true digit (omega arith))

pub loop-i-preserved : goal.loop-i-preserved
loop-i-preserved c =
    let more = counted_more _ _ _ c.loop-i.invariant.counted c.loop-i-test.true c.if-not-is_ascii_digit.ensures.value in
    record { counted = more _ (omega arith); small = omega arith }
