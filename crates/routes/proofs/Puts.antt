-- Laws of calls put into a list's room one after the other.
-- Assumes nothing.
use Prim.Native.Nat.{ℕ, ◌+◌, ◌*◌, ◌<◌, ◌≤◌}
use mathlib.Core.Path.{◌≡◌, refl, ◌∙◌}
use mathlib.Core.List.{List, [], ◌∷◌, ◌++◌}
use native.Mathlib.Omega.{arith}
use Rattle.std.proofs.Common.{map}
use lib.ListN.{length, get_or, take, length-append}
use Rattle.std.proofs.lemmas.List.{map_more, length-map, length-take-le}
use Rattle.rules.specs.Calls.{call_width, numbers_for}
use Rattle.rules.specs.declared.Numbers.{Numbers}
use Rattle.rules.specs.declared.Call.{Call}
use Rattle.lists.proofs.Quads.{no_calls, with_calls-length, calls_more}
use Rattle.routes.specs.Writers.{Put}
use Rattle.routes.specs.declared.writing.CallList.{CallList}

-- a list into which no calls are put yet
pub put_none : (l : CallList) → Put l [] l
put_none l = record { same = refl; many = omega arith; put = rw no_calls }

module _ {l m : CallList} {xs : List Numbers} (before : Put l xs m) (h : (l.calls + length xs) * call_width ≤ length l.room.now) where
  -- its room keeps its length
  pub put_length : length m.room.now ≡ length l.room.now
  put_length = rw before.put (with_calls-length l.room.now l.calls xs h)

  -- calls put after others are put with them
  pub put_next : {n : CallList} {ys : List Numbers} → Put m ys n → Put l (xs ++ ys) n
  put_next {n} {ys} next =
      record {
        same = next.same ∙ before.same;
        many = omega (arith, before.many, next.many, length-append xs ys);
        put = next.put ∙ rw (before.put, before.many) (calls_more l.room.now l.calls xs h ys);
      }

-- one call more of some
pub put_more : {l m n : CallList} (calls : List Call) (k : ℕ) (d : Call) {x : Numbers} → Put l (map numbers_for (take k calls)) m
    → Put m (x ∷ []) n → x ≡ numbers_for (get_or calls k d) → (l.calls + length calls) * call_width ≤ length l.room.now → k < length calls
    → Put l (map numbers_for (take (k + 1) calls)) n
put_more {l} {m} {n} calls k d before next e h i =
    let xs = map numbers_for (take k calls) in
    let many : length xs ≡ k = length-map (take k calls) numbers_for ∙ length-take-le k calls (omega arith) in
    rw (map_more numbers_for calls k d i, ← e) (put_next before (omega (arith, many)) next)
