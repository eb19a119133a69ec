-- 01, "The route report": the list of calls that shows a route.
use Rattle.std.specs.Prelude.{ℕ, ◌+◌, ◌*◌, List, [], ◌∷◌, ◌++◌}
use Rattle.rules.specs.Calls.{numbers, code_of_read, code_of_write, code_of_lock, code_of_unlock, code_of_open, code_of_copy}
use Rattle.rules.specs.declared.Numbers.{Numbers}
use Rattle.rules.specs.declared.Setup.{Setup}
use Rattle.chains.specs.Chains.{process_at, file_for}

-- the calls of the list as four numbers
abbrev pub read_call : ℕ → ℕ → Numbers
read_call p f = numbers code_of_read p f 0

abbrev pub write_call : ℕ → ℕ → ℕ → Numbers
write_call p f x = numbers code_of_write p f x

abbrev pub lock_call : ℕ → ℕ → Numbers
lock_call p f = numbers code_of_lock p f 0

abbrev pub unlock_call : ℕ → ℕ → Numbers
unlock_call p f = numbers code_of_unlock p f 0

abbrev pub open_call : ℕ → ℕ → Numbers
open_call p f = numbers code_of_open p f 0

abbrev pub copy_call : ℕ → ℕ → ℕ → Numbers
copy_call p f x = numbers code_of_copy p f x

-- "A's LOCK, WRITE of 1, UNLOCK"
abbrev pub start_calls : ℕ → ℕ → List Numbers
start_calls p g = lock_call p g ∷ write_call p g 1 ∷ unlock_call p g ∷ []

-- "each middle desk's OPEN of the file before it, LOCK of the next, COPY, UNLOCK"
abbrev pub middle_calls : ℕ → ℕ → ℕ → List Numbers
middle_calls p f g = open_call p f ∷ lock_call p g ∷ copy_call p f g ∷ unlock_call p g ∷ []

-- "B's OPEN and READ"
abbrev pub end_calls : ℕ → ℕ → List Numbers
end_calls p f = open_call p f ∷ read_call p f ∷ []

-- the calls from desk d on; f is "the file before it"
unfoldable pub onward : Setup → ℕ → ℕ → List ℕ → List Numbers
onward s d f [] = end_calls (process_at s d) f
onward s d f (e ∷ rest) = let g = file_for s d e in middle_calls (process_at s d) f g ++ onward s e g rest

-- the list along a chain from desk a; a chain with no link has no calls
unfoldable pub route_calls : Setup → ℕ → List ℕ → List Numbers
route_calls s a [] = []
route_calls s a (d ∷ rest) = let g = file_for s a d in start_calls (process_at s a) g ++ onward s d g rest

-- a link's LOCK, WRITE or COPY, UNLOCK, and the OPEN at its end
abbrev pub calls_of_link : ℕ
calls_of_link = 4

-- B's READ
abbrev pub calls_at_end : ℕ
calls_at_end = 1

-- "The list written has 4k+1 calls"
abbrev pub calls_for : ℕ → ℕ
calls_for k = calls_of_link * k + calls_at_end
