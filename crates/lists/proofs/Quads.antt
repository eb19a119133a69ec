-- Laws of calls put into a room as numbers.
-- Assumes nothing.
use Prim.Native.Nat.{ℕ, ◌+◌, ◌*◌, ◌≤◌}
use mathlib.Core.Path.{◌≡◌}
use mathlib.Core.List.{List, [], ◌++◌, append_assoc}
use native.Mathlib.Nat.{add-zero, zero-add}
use native.Mathlib.Omega.{arith}
use lib.ListN.{length, take, drop, length-append, length-take, length-drop, take-append-drop}
use lib.Seq.{take_at, drop-append-add, drop-drop}
use Rattle.rules.specs.Calls.{call_width, in_quads}
use Rattle.rules.specs.declared.Numbers.{Numbers}
use Rattle.rules.proofs.Quads.{in_quads_append, in_quads-length}
use Rattle.lists.specs.Writers.{with_calls}

-- calls from the first place on lie in front of what the room had past them
pub calls_in_front : (room : List ℕ) (xs : List Numbers) → with_calls room 0 xs ≡ in_quads xs ++ drop (length xs * call_width) room
unfolding with_calls
calls_in_front room xs = rw zero-add

-- no calls leave it as it was
pub no_calls : (room : List ℕ) (i : ℕ) → with_calls room i [] ≡ room
unfolding with_calls in_quads
no_calls room i = rw add-zero (take-append-drop (i * call_width) room)

module _ (room : List ℕ) (i : ℕ) (xs : List Numbers) (h : (i + length xs) * call_width ≤ length room) where
  front_length : length (take (i * call_width) room ++ in_quads xs) ≡ (i + length xs) * call_width
  front_length = simp (length-append, length-take, in_quads-length) (omega arith)

  pub with_calls-length : length (with_calls room i xs) ≡ length room
  unfolding with_calls
  with_calls-length = simp (length-append, length-take, length-drop, in_quads-length) (omega arith)

  -- calls put right after others are put with them
  pub calls_more : (ys : List Numbers) → with_calls (with_calls room i xs) (i + length xs) ys ≡ with_calls room i (xs ++ ys)
  unfolding with_calls
  calls_more ys =
      let front = take (i * call_width) room ++ in_quads xs in
      let rest = drop ((i + length xs) * call_width) room in
      let past : (i + length xs + length ys) * call_width ≡ length front + length ys * call_width = omega (arith, front_length) in
      let all : (i + length (xs ++ ys)) * call_width ≡ (i + length xs) * call_width + length ys * call_width = omega (arith, length-append xs ys) in
      rw (
        ← append_assoc (take (i * call_width) room) (in_quads xs) rest,
        take_at front rest ((i + length xs) * call_width) front_length,
        past,
        drop-append-add front rest (length ys * call_width),
        drop-drop (length ys * call_width) ((i + length xs) * call_width) room,
        all,
        in_quads_append,
      )
      (simp append_assoc)
