-- The loop of `fields::parts::decimal_at`: the bytes that have gone by are digits, and `value` is theirs.
-- Assumes nothing.
use Prim.Native.Nat.{◌≤◌}
use Rattle.rules.specs.Sizes.{most_number}
use Rattle.fields.proofs.Scanned.{Counted}
use Rattle.fields.proofs.parts.decimal_at.Given as goal

abbrev pub invariant-loop-i : goal.invariant-loop-i
invariant-loop-i l = record { counted : Counted l.rest l.i l.value; small : l.value ≤ most_number }
