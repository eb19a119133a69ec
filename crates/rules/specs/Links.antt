-- 01, "The route report": the desk that a call belongs to, and the link between two desks.
use Rattle.std.specs.Prelude.{ℕ, Bool, ◌&&◌, cond, ltb, eqb}
use Rattle.std.proofs.Math.Option.{Option, some, none}
use Rattle.rules.specs.Sizes.{some_below}
use Rattle.rules.specs.Setups.{has_r, has_w, desk_of, class_of, right_of}
use Rattle.rules.specs.declared.Numbers.{Numbers}
use Rattle.rules.specs.declared.Setup.{Setup}

-- "A call belongs to the desk of its process. A call whose process does not exist belongs to none"
unfoldable pub desk_of_call : Setup → Numbers → Option ℕ
desk_of_call s n = cond (ltb n.process s.processes) (some (desk_of s n.process)) none

unfoldable pub has_process : Setup → ℕ → Bool
has_process s d = some_below s.processes (λ p. eqb (desk_of s p) d)

-- "d has W and e has R on the class of some file"
abbrev pub serves : Setup → ℕ → ℕ → ℕ → Bool
serves s d e f = has_w (right_of s d (class_of s f)) && has_r (right_of s e (class_of s f))

-- "A link runs from desk d to desk e when .. and each of the two has a process"
unfoldable pub linked : Setup → ℕ → ℕ → Bool
linked s d e = has_process s d && has_process s e && some_below s.files (serves s d e)
