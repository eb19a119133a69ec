-- Laws of a run of numbers read some at a time: each number stands at its place, and four of them are a call.
-- Assumes nothing.
use Prim.Native.Nat.{ℕ, zero, suc, ◌+◌, ◌*◌, ◌<◌}
use mathlib.Core.Path.{◌≡◌, ◌∙◌}
use mathlib.Core.List.{List, []}
use native.Mathlib.Nat.{zero-add, add-zero, zero-mul, suc-mul}
use native.Mathlib.Omega.{arith}
use lib.ListN.{get_or, drop}
use lib.Seq.{get_or-take, get_or-drop}
use Rattle.std.specs.Simd.{first_chunks}
use Rattle.rules.specs.Calls.{numbers, call_width, calls_in, numbers_at}

-- each number of a chunk stands at its place in the run
pub chunk_entry : (w n k : ℕ) (xs d : List ℕ) (j : ℕ) → k < n → j < w → get_or (get_or (first_chunks w n xs) k d) j 0 ≡ get_or xs (k * w + j) 0
chunk_entry w zero k xs d j h l = absurd (omega arith)
chunk_entry w (suc n) zero xs d j h l = get_or-take w xs j 0 l ∙ rw (zero-mul, zero-add)
chunk_entry w (suc n) (suc k) xs d j h l =
    let further : w + (k * w + j) ≡ suc k * w + j = rw (suc-mul k w) (omega arith) in
    chunk_entry w n k (drop w xs) d j (omega arith) l ∙ get_or-drop w xs (k * w + j) 0 ∙ rw further

-- so chunk i of four is call i of the list
pub quad_call : (list : List ℕ) (i : ℕ) {quads : List (List ℕ)} → quads ≡ first_chunks call_width (calls_in list) list → i < calls_in list
    → numbers (get_or (get_or quads i []) 0 0) (get_or (get_or quads i []) 1 0) (get_or (get_or quads i []) 2 0) (get_or (get_or quads i []) 3 0) ≡ numbers_at list i
quad_call list i front h =
    let n = calls_in list in
    rw (front, chunk_entry call_width n i list [] 0 h (omega arith), chunk_entry call_width n i list [] 1 h (omega arith), chunk_entry call_width n i list [] 2 h (omega arith), chunk_entry call_width n i list [] 3 h (omega arith), add-zero)
