-- For what writes calls, which is no entry: calls put into a lent room.
use Rattle.std.specs.Prelude.{ℕ, ◌+◌, ◌*◌, List, ◌++◌, length, take, drop}
use Rattle.rules.specs.Calls.{call_width, in_quads}
use Rattle.rules.specs.declared.Numbers.{Numbers}

-- the room with calls from place i on, and all else as it was
unfoldable pub with_calls : List ℕ → ℕ → List Numbers → List ℕ
with_calls room i calls = take (i * call_width) room ++ (in_quads calls ++ drop ((i + length calls) * call_width) room)
