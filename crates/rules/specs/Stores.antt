-- 01, "What the store is" and "Sizes", with 02, Req 02: what a file holds, a store, the fresh store, and when a store fits its setup.
use Rattle.std.specs.Prelude.{ℕ, ◌+◌, ◌-◌, ◌*◌, Bool, ◌&&◌, ◌||◌, cond, ltb, eqb, get_or, set, replicate}
use Rattle.rules.specs.Sizes.{most_processes, most_files, most_marks, every}
use Rattle.rules.specs.Setups.{may_read, may_write}
use Rattle.rules.specs.declared.Setup.{Setup}
use Rattle.rules.specs.declared.Cell.{Cell}
use Rattle.rules.specs.declared.Store.{Store}

-- what a file holds: one cell, a figure and a written mark
abbrev pub Content : Type 0
Content = Cell

-- "A file now also knows whether it was ever written": its written mark is 1. Any other reads as unwritten, and of those 0 alone fits
abbrev pub is_written : Content → Bool
is_written content = eqb content.written 1

-- unwritten, with the figure 0
abbrev pub blank_content : Content
blank_content = record { figure = 0; written = 0 }

abbrev pub is_blank : Content → Bool
is_blank content = eqb content.figure 0 && eqb content.written 0

-- what stands past an array's end, for the logic; no file holds it
abbrev pub past_contents : Content
past_contents = record { figure = 0; written = 0 }

-- a file's holder is 0 where it is unlocked, else the process plus one; an open mark is 1
abbrev pub unlocked : ℕ → Bool
unlocked holder = eqb holder 0

abbrev pub locked_by : ℕ → ℕ → Bool
locked_by holder p = eqb holder (p + 1)

abbrev pub is_open : ℕ → Bool
is_open mark = eqb mark 1

-- "A store holds, for each file, who has it locked, who has it open, and one figure"; with Req 02 its written mark too
abbrev pub holder_of : Store → ℕ → ℕ
holder_of m f = get_or m.holders f 0

abbrev pub content_of : Store → ℕ → Content
content_of m f = get_or m.cells f past_contents

-- the open marks lie file by file, one for each process
abbrev pub mark_at : ℕ → ℕ → ℕ
mark_at f p = f * most_processes + p

abbrev pub mark_of : Store → ℕ → ℕ → ℕ
mark_of m f p = get_or m.marks (mark_at f p) 0

-- "p has f open"
abbrev pub has_open : Store → ℕ → ℕ → Bool
has_open m p f = is_open (mark_of m f p)

-- the store with another holder of file f, with another content of it, and with another open mark of process p on it
abbrev pub put_holder : Store → ℕ → ℕ → Store
put_holder m f holder = record { holders = set m.holders f holder; cells = m.cells; marks = m.marks }

abbrev pub put_content : Store → ℕ → Content → Store
put_content m f content = record { holders = m.holders; cells = set m.cells f content; marks = m.marks }

abbrev pub put_mark : Store → ℕ → ℕ → ℕ → Store
put_mark m f p mark = record { holders = m.holders; cells = m.cells; marks = set m.marks (mark_at f p) mark }

-- nothing locked, nothing written, and one open mark throughout
abbrev pub store_of : ℕ → Store
store_of mark =
    record { holders = replicate most_files 0; cells = replicate most_files blank_content; marks = replicate most_marks mark }

-- "A fresh store has nothing locked, nothing open, all figures 0", and all files are unwritten
unfoldable pub fresh_store : Store
fresh_store = store_of 0

-- "each locked file is held by an existing process whose desk has W on the file's class"
unfoldable pub holder_fits : Setup → ℕ → ℕ → Bool
holder_fits s f holder = unlocked holder || ltb (holder - 1) s.processes && may_write s (holder - 1) f

-- "each process that has a file open exists and its desk has R on that class"; an open mark is 0 or 1
unfoldable pub mark_fits : Setup → ℕ → ℕ → ℕ → Bool
mark_fits s f p mark = eqb mark 0 || eqb mark 1 && ltb p s.processes && may_read s p f

-- each open mark of a file fits; the marks are given by process
unfoldable pub marks_fit : Setup → ℕ → (ℕ → ℕ) → Bool
marks_fit s f marks = every most_processes (λ p. mark_fits s f p (marks p))

-- as decided for all requests, a mark "that is neither 0 nor 1 in a store does not fit"; and "an unwritten file's figure is 0"
abbrev pub content_fits : Content → Bool
content_fits content = is_written content || is_blank content

-- "entries past F are unlocked, unopened and 0", and "Entries past F are unwritten"
unfoldable pub file_is_blank : ℕ → Content → (ℕ → ℕ) → Bool
file_is_blank holder content marks = unlocked holder && every most_processes (λ p. eqb (marks p) 0) && is_blank content

-- a file before F fits by its holder, its open marks and its content
unfoldable pub file_fits : Setup → ℕ → ℕ → Content → (ℕ → ℕ) → Bool
file_fits s f holder content marks =
    cond (ltb f s.files) (holder_fits s f holder && marks_fit s f marks && content_fits content) (file_is_blank holder content marks)

unfoldable pub fits : Setup → Store → Bool
fits s m = every most_files (λ f. file_fits s f (holder_of m f) (content_of m f) (mark_of m f))

-- the stand-in that a refused fresh store hands back: its open marks are neither 0 nor 1, so it fits no setup
unfoldable pub misfit : Store
misfit = store_of 2
