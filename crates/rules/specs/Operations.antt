-- 01, "The eight calls": the operation of each code. These stand apart from Calls, whose calls have the same names.
use Rattle.std.specs.Prelude.{◌≡◌, ℕ, ◌<◌, ◌⊎◌, Result, MatchResult}
use Rattle.rules.specs.Calls.{code_of_read, code_of_write, code_of_lock, code_of_unlock, code_of_open, code_of_close, code_of_testlock, code_of_copy, first_code, last_code}
use Rattle.rules.specs.declared.operation.Operation.{Operation}
use Rattle.rules.specs.declared.operation.Operation.TheVariants.{Read, Write, Lock, Unlock, Open, Close, Testlock, Copy}
use Rattle.rules.specs.declared.refusal.Refusal.{Refusal}
use Rattle.rules.specs.declared.refusal.Refusal.TheVariants.{NoSuchOperation}

-- the column "Code"
abbrev pub code_of : Operation → ℕ
code_of Read = code_of_read
code_of Write = code_of_write
code_of Lock = code_of_lock
code_of Unlock = code_of_unlock
code_of Open = code_of_open
code_of Close = code_of_close
code_of Testlock = code_of_testlock
code_of Copy = code_of_copy

-- the result is the operation with this code, or 01's refusal of a code outside the first and the last
abbrev pub IsOperationOf : ℕ → Result Operation Refusal → Type 0
IsOperationOf code r =
    MatchResult r
    (λ operation. code_of operation ≡ code)
    (λ refusal. (refusal ≡ NoSuchOperation) × ((code < first_code) ⊎ (last_code < code)))
