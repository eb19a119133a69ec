-- 01, "Sizes": the least and the most of each thing, and how a table and a condition over numbers are said.
use Rattle.std.specs.Prelude.{ℕ, zero, suc, ◌*◌, Bool, true, not, ◌&&◌, List, [], ◌∷◌, leb}

abbrev pub least : ℕ
least = 1

abbrev pub most_desks : ℕ
most_desks = 16

abbrev pub most_classes : ℕ
most_classes = 16

abbrev pub most_processes : ℕ
most_processes = 64

abbrev pub most_files : ℕ
most_files = 32

-- calls in a list, of which there may be none
abbrev pub most_calls : ℕ
most_calls = 1024

abbrev pub most_rights : ℕ
most_rights = most_desks * most_classes

abbrev pub most_marks : ℕ
most_marks = most_files * most_processes

-- "A figure is 0 to 4,294,967,295": the largest of the 32-bit numbers
abbrev pub most_number : ℕ
most_number = 4_294_967_295

-- a count lies inside its sizes
abbrev pub within : ℕ → ℕ → Bool
within count most = leb least count && leb count most

-- the condition holds of each number below n
unfoldable pub every : ℕ → (ℕ → Bool) → Bool
every zero p = true
every (suc n) p = every n p && p n

-- the condition holds of some number below n
unfoldable pub some_below : ℕ → (ℕ → Bool) → Bool
some_below n p = not (every n (λ k. not (p k)))

-- the list of f at 0, 1, .. below n
unfoldable pub table {ℓ} : {A : Type ℓ} → ℕ → (ℕ → A) → List A
table zero f = []
table (suc n) f = f zero ∷ table n (λ k. f (suc k))
