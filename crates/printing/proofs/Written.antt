-- Laws of bytes put into a lent run: none, one, more of them, and what a writer has written in parts.
-- Assumes nothing.
use Prim.Native.Nat.{ℕ, ◌+◌, ◌<◌, ◌≤◌}
use mathlib.Core.Path.{◌≡◌, refl, ap, ◌∙◌}
use mathlib.Core.List.{List, [], ◌∷◌, ◌++◌, append_assoc}
use native.Mathlib.Nat.{le_antisymm, add-zero, zero-add}
use native.Mathlib.Numerals.{add-one}
use native.Mathlib.Omega.{arith}
use lib.ListN.{length, get_or, set, take, drop, length-append, length-take, length-drop, length-set, take-append-drop}
use lib.Seq.{take_at, take-length, drop-append-add, drop-drop, set_split, paste, paste-zero, paste-suc}
use Rattle.printing.specs.Writers.{with_bytes, Fit, Wrote}
use Rattle.printing.specs.declared.writing.Writer.{Writer}

-- none leave it as it was
pub bytes_none : (run : List ℕ) (at : ℕ) → with_bytes run at [] ≡ run
unfolding with_bytes
bytes_none run at = rw add-zero (take-append-drop at run)

-- a byte stored is put there
pub byte_put : (run : List ℕ) (at byte : ℕ) → at < length run → set run at byte ≡ with_bytes run at (byte ∷ [])
unfolding with_bytes
byte_put run at byte h = set_split run at byte h ∙ rw add-one

module _ (run : List ℕ) (at : ℕ) (xs : List ℕ) (h : at + length xs ≤ length run) where
  front_length : length (take at run ++ xs) ≡ at + length xs
  front_length = simp (length-append, length-take) (omega arith)

  pub with_bytes-length : length (with_bytes run at xs) ≡ length run
  unfolding with_bytes
  with_bytes-length = simp (length-append, length-take, length-drop) (omega arith)

  -- bytes put right after others are put with them
  pub bytes_more : (ys : List ℕ) → with_bytes (with_bytes run at xs) (at + length xs) ys ≡ with_bytes run at (xs ++ ys)
  unfolding with_bytes
  bytes_more ys =
      let front = take at run ++ xs in
      let rest = drop (at + length xs) run in
      let past : at + length xs + length ys ≡ length front + length ys = omega (arith, front_length) in
      let all : at + length (xs ++ ys) ≡ at + length xs + length ys = omega (arith, length-append xs ys) in
      rw (
        ← append_assoc (take at run) xs rest,
        take_at front rest (at + length xs) front_length,
        past,
        drop-append-add front rest (length ys),
        drop-drop (length ys) (at + length xs) run,
        all,
      )
      (simp append_assoc)

-- the first i bytes of a word put there, and all else as it was; with none of them put, the run is as it was
pub record Copied (run : List ℕ) (at : ℕ) (word : List ℕ) (i : ℕ) (now : List ℕ) : Type 0 where
  pub within : i ≤ length word
  pub kept : length now ≡ length run
  pub put : now ≡ paste run at word i

pub copied_none : (run : List ℕ) (at : ℕ) (word : List ℕ) → Copied run at word 0 run
copied_none run at word = record { within = omega arith; kept = refl; put = paste-zero run at word }

-- one byte more, and all of them
module _ (run : List ℕ) (at : ℕ) (word : List ℕ) (h : at + length word ≤ length run) where
  pub copied_more : (i : ℕ) (now : List ℕ) → Copied run at word i now → i < length word → Copied run at word (i + 1) (set now (at + i) (get_or word i 0))
  copied_more i now c l =
      record {
        within = omega arith;
        kept = simp length-set c.kept;
        put = rw (c.put, add-one i) (paste-suc run at word i 0 (omega arith) l);
      }

  pub copied_all : (i : ℕ) (now : List ℕ) → Copied run at word i now → length word ≤ i → (at + i ≡ at + length word) × (now ≡ with_bytes run at word)
  unfolding with_bytes
  copied_all i now c l =
      let all : i ≡ length word = le_antisymm c.within l in
      (rw all, c.put ∙ rw (all, take-length) (append_assoc (take at run) word (drop (at + length word) run)))

-- a writer that has written nothing yet
pub wrote_none : (w : Writer) → Wrote w [] w
wrote_none w = record { same = refl; past = omega arith; put = rw bytes_none }

-- a run keeps its length
pub wrote_length : {w v : Writer} {xs : List ℕ} → Fit w xs → Wrote w xs v → length v.out.now ≡ length w.out.now
wrote_length {w} {v} {xs} h wrote = ap length wrote.put ∙ with_bytes-length w.out.now w.at xs h.fits

-- what is written in parts: the first of them fits, the next fits after it, and both are then written
pub first_fits : {w : Writer} {xs : List ℕ} (ys : List ℕ) → Fit w (xs ++ ys) → Fit w xs
first_fits {w} {xs} ys h = record { fits = omega (arith, h.fits, length-append xs ys) }

pub next_fits : {w v : Writer} {xs ys : List ℕ} → Fit w (xs ++ ys) → Wrote w xs v → Fit v ys
next_fits {w} {v} {xs} {ys} h first =
    record { fits = omega (arith, h.fits, first.past, wrote_length (first_fits ys h) first, length-append xs ys) }

pub wrote_next : {w v u : Writer} {xs ys : List ℕ} → Fit w (xs ++ ys) → Wrote w xs v → Wrote v ys u → Wrote w (xs ++ ys) u
wrote_next {w} {v} {u} {xs} {ys} h first next =
    record {
      same = next.same ∙ first.same;
      past = omega (arith, first.past, next.past, length-append xs ys);
      put = next.put ∙ rw (first.put, first.past) (bytes_more w.out.now w.at xs (first_fits ys h).fits ys);
    }

-- bytes from the first place on lie in front of what the run had past them
pub in_front : {w v : Writer} {bytes : List ℕ} → w.at ≡ 0 → Wrote w bytes v → (v.at ≡ length bytes) × (v.out.now ≡ bytes ++ drop (length bytes) w.out.now)
unfolding with_bytes
in_front e wrote = (rw (e, zero-add) at wrote.past, rw (e, zero-add) at wrote.put)
