-- What the loop over answers keeps: the lines of the first i of them are written.
-- Assumes nothing.
use Prim.Native.Nat.{ℕ, zero, suc, ◌+◌, ◌*◌, ◌<◌, ◌≤◌}
use mathlib.Core.Path.{◌≡◌, refl, ◌∙◌}
use mathlib.Core.List.{List, [], ◌++◌}
use native.Mathlib.Nat.{le_antisymm, zero-add, add-zero}
use native.Mathlib.Numerals.{add-one}
use native.Mathlib.Omega.{arith}
use lib.ListN.{length, length-append, get_or, drop}
use lib.Seq.{get_or-take, get_or-drop}
use Rattle.std.proofs.Common.{Fits, w32}
use Rattle.std.specs.Simd.{first_chunks}
use Rattle.rules.specs.Sizes.{table, most_number, most_calls}
use Rattle.rules.specs.Answers.{value_of, answer_of}
use Rattle.rules.specs.declared.Answer.{Answer}
use Rattle.rules.proofs.Sizes.{length-table}
use Rattle.lists.specs.Lists.{answer_width}
use Rattle.lists.proofs.Numbers.{table_more}
use Rattle.printing.specs.Outputs.{answer_line, answer_lines}
use Rattle.printing.specs.Writers.{Fit, Wrote, longest_line, answers_in, answer_at, answers_of}
use Rattle.printing.specs.declared.writing.Writer.{Writer}
use Rattle.printing.proofs.Parts.{lines_more}
use Rattle.printing.proofs.Widths.{line_short, answer_value}
use Rattle.printing.proofs.Written.{next_fits, wrote_none, wrote_length, wrote_next}

-- the lines of the first i answers
abbrev pub lines_to : List ℕ → ℕ → List ℕ
lines_to numbers i = answer_lines 0 (table i (answer_at numbers))

lines_short : (i n : ℕ) (f : ℕ → Answer) → ((k : ℕ) → k < n → value_of (f k) ≤ most_number) → i + n ≤ most_calls → length (answer_lines i (table n f)) ≤ n * longest_line
unfolding answer_lines table
lines_short i zero f v h = omega arith
lines_short i (suc n) f v h =
    let first = line_short i (f 0) (omega arith) (v 0 (omega arith)) in
    let rest = lines_short (suc i) n (λ k. f (suc k)) (λ k l. v (suc k) (omega arith)) (omega arith) in
    simp length-append (omega arith)

-- each number of a pair stands at its place in the run
entry_at : (n k : ℕ) (xs d : List ℕ) (j : ℕ) → k < n → j < answer_width → get_or (get_or (first_chunks answer_width n xs) k d) j 0 ≡ get_or xs (k * answer_width + j) 0
entry_at zero k xs d j h l = absurd (omega arith)
entry_at (suc n) zero xs d j h l = get_or-take answer_width xs j 0 l ∙ rw zero-add
entry_at (suc n) (suc k) xs d j h l =
    let further : answer_width + (k * answer_width + j) ≡ suc k * answer_width + j = omega arith in
    entry_at n k (drop answer_width xs) d j (omega arith) l ∙ get_or-drop answer_width xs (k * answer_width + j) 0 ∙ rw further

-- so the answer that a pair stands for is the one at its place
pub pair_answer : (numbers : List ℕ) (i : ℕ) {a : Answer} {pairs : List (List ℕ)} → pairs ≡ first_chunks answer_width (answers_in numbers) numbers → i < answers_in numbers
    → a ≡ answer_of (get_or (get_or pairs i []) 0 0, get_or (get_or pairs i []) 1 0) → a ≡ answer_at numbers i
pair_answer numbers i front h told =
    let n = answers_in numbers in
    told ∙ rw (front, entry_at n i numbers [] 0 h (omega arith), entry_at n i numbers [] 1 h (omega arith), add-zero)

-- one line more
more : (numbers : List ℕ) (i : ℕ) → lines_to numbers (i + 1) ≡ lines_to numbers i ++ answer_line i (answer_at numbers i)
more numbers i =
    rw (add-one i, table_more i (answer_at numbers), lines_more 0 (table i (answer_at numbers)) (answer_at numbers i), length-table i (answer_at numbers), zero-add i)

module _ (numbers : List ℕ) (few : answers_in numbers ≤ most_calls) (fit : (k : ℕ) → Fits w32 (get_or numbers k 0)) where
  value_short : (k : ℕ) → value_of (answer_at numbers k) ≤ most_number
  value_short k =
      let at = k * answer_width in
      omega (arith, answer_value (get_or numbers at 0) (get_or numbers (at + 1) 0), (fit (at + 1)).fits)

  module _ (i : ℕ) (h : i < answers_in numbers) where
    module _ {w : Writer} (room : w.at + answers_in numbers * longest_line ≤ length w.out.now) where
      more_fit : Fit w (lines_to numbers i ++ answer_line i (answer_at numbers i))
      more_fit =
          let short = lines_short 0 (i + 1) (answer_at numbers) (λ k l. value_short k) (omega arith) in
          rw (← more numbers i) (record { fits = omega arith })

      module _ {v : Writer} (shown : Wrote w (lines_to numbers i) v) (a : Answer) (e : a ≡ answer_at numbers i) where
        -- the next answer's line fits after those before it, and is then written with them
        pub line_fits : Fit v (answer_line i a)
        line_fits = rw e (next_fits more_fit shown)

        pub line_shown : {u : Writer} → Wrote v (answer_line i a) u → Wrote w (lines_to numbers (i + 1)) u
        line_shown next = rw (more numbers i) (wrote_next more_fit shown (rw e at next))

-- the same of the writer at any answer, with the bounds of its place: what is left of the run has room for the answers to come
pub record Shown (numbers : List ℕ) (w : Writer) (i : ℕ) (v : Writer) : Type 0 where
  pub within : i ≤ answers_in numbers
  pub few : answers_in numbers ≤ most_calls
  pub spacious : w.at + answers_in numbers * longest_line ≤ length w.out.now
  pub short : v.at ≤ w.at + i * longest_line
  pub kept : length v.out.now ≡ length w.out.now
  pub wrote : Wrote w (answer_lines 0 (table i (answer_at numbers))) v

module _ (numbers : List ℕ) (w : Writer) where
  pub shown_none : answers_in numbers ≤ most_calls → w.at + answers_in numbers * longest_line ≤ length w.out.now → Shown numbers w 0 w
  unfolding table answer_lines
  shown_none f h = record { within = omega arith; few = f; spacious = h; short = omega arith; kept = refl; wrote = wrote_none w }

  module _ (i : ℕ) (v : Writer) (s : Shown numbers w i v) where
    module _ (l : i < answers_in numbers) (a : Answer) (e : a ≡ answer_at numbers i) (b : value_of a ≤ most_number) where
      pub shown_fits : Fit v (answer_line i a)
      shown_fits = record { fits = omega (arith, s.few, s.spacious, s.short, s.kept, line_short i a (omega (arith, s.few)) b) }

      pub shown_more : (u : Writer) → Wrote v (answer_line i a) u → Shown numbers w (i + 1) u
      shown_more u next =
          let xs = table i (answer_at numbers) in
          let one = line_short i a (omega (arith, s.few)) b in
          let all : Fit w (answer_lines 0 xs ++ answer_line i a) =
          record { fits = omega (arith, s.wrote.past, shown_fits.fits, s.kept, length-append (answer_lines 0 xs) (answer_line i a)) } in
          let longer : answer_lines 0 (table (i + 1) (answer_at numbers)) ≡ answer_lines 0 xs ++ answer_line i a = rw e (more numbers i) in
          record {
            within = omega arith;
            few = s.few;
            spacious = s.spacious;
            short = omega (arith, next.past, s.short);
            kept = wrote_length shown_fits next ∙ s.kept;
            wrote = rw longer (wrote_next all s.wrote next);
          }

    pub shown_all : answers_in numbers ≤ i → Wrote w (answer_lines 0 (answers_of numbers)) v
    unfolding answers_of
    shown_all l = let all : i ≡ answers_in numbers = le_antisymm s.within l in rw (← all) s.wrote
