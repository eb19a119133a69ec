-- 01, "Sizes": a setup, when it is accepted, and the setup that bytes give.
use Rattle.std.specs.Prelude.{ℕ, ◌+◌, ◌*◌, ◌/◌, ◌%◌, Bool, true, ◌&&◌, ◌||◌, cond, ltb, eqb, get_or, replicate}
use mathlib.Core.List.{List, [], ◌∷◌, foldl}
use Rattle.rules.specs.Sizes.{most_desks, most_classes, most_processes, most_files, most_rights, within, every, table}
use Rattle.rules.specs.declared.Setup.{Setup}

-- a right is 0 (none), 1 (R), 2 (W) or 3 (both)
abbrev pub right_r : ℕ
right_r = 1

abbrev pub right_w : ℕ
right_w = 2

abbrev pub right_both : ℕ
right_both = 3

abbrev pub has_r : ℕ → Bool
has_r right = eqb right right_r || eqb right right_both

abbrev pub has_w : ℕ → Bool
has_w right = eqb right right_w || eqb right right_both

-- the desk that a process sits at, the class of a file, and the right of a desk on a class
abbrev pub desk_of : Setup → ℕ → ℕ
desk_of s p = get_or s.desk p 0

abbrev pub class_of : Setup → ℕ → ℕ
class_of s f = get_or s.class f 0

abbrev pub right_of : Setup → ℕ → ℕ → ℕ
right_of s d t = get_or s.rights (d * most_classes + t) 0

-- "R and W refer to p's desk and the file's class"
unfoldable pub may_read : Setup → ℕ → ℕ → Bool
may_read s p f = has_r (right_of s (desk_of s p) (class_of s f))

unfoldable pub may_write : Setup → ℕ → ℕ → Bool
may_write s p f = has_w (right_of s (desk_of s p) (class_of s f))

-- all of the conditions hold; they are joined from the left, as `&&` joins
abbrev pub all_of : List Bool → Bool
all_of conditions = foldl ◌&&◌ true conditions

-- each count lies inside its sizes
abbrev pub sizes_asked : ℕ → ℕ → ℕ → ℕ → List Bool
sizes_asked desks classes processes files =
    within desks most_desks
    ∷ within classes most_classes
    ∷ within processes most_processes
    ∷ within files most_files
    ∷ []

unfoldable pub within_sizes : ℕ → ℕ → ℕ → ℕ → Bool
within_sizes desks classes processes files = all_of (sizes_asked desks classes processes files)

-- an entry before the count is below its bound; an entry past it is 0
unfoldable pub entry_fits : ℕ → ℕ → ℕ → ℕ → Bool
entry_fits count bound at entry = cond (ltb at count) (ltb entry bound) (eqb entry 0)

-- a row of rights counts its classes where its desk is, and none past the desks
abbrev pub classes_at : Setup → ℕ → ℕ
classes_at s d = cond (ltb d s.desks) s.classes 0

unfoldable pub row_fits : Setup → ℕ → Bool
row_fits s d = every most_classes (λ t. entry_fits (classes_at s d) (right_both + 1) t (right_of s d t))

unfoldable pub rights_fit : Setup → Bool
rights_fit s = every most_desks (row_fits s)

unfoldable pub desks_fit : Setup → Bool
desks_fit s = every most_processes (λ p. entry_fits s.processes s.desks p (desk_of s p))

unfoldable pub classes_fit : Setup → Bool
classes_fit s = every most_files (λ f. entry_fits s.files s.classes f (class_of s f))

-- what is asked of a setup value: its counts lie inside their sizes, its entries before the counts below their bounds, and "every entry past
-- the counts is 0"
abbrev pub setup_asked : Setup → List Bool
setup_asked s =
    within_sizes s.desks s.classes s.processes s.files
    ∷ rights_fit s
    ∷ desks_fit s
    ∷ classes_fit s
    ∷ []

-- a setup value that could have been accepted
unfoldable pub accepted : Setup → Bool
accepted s = all_of (setup_asked s)

-- "A setup handed in as bytes is the four counts, as numbers, and three slices"
pub record SetupBytes : Type 0 where
  pub desks : ℕ
  pub classes : ℕ
  pub processes : ℕ
  pub files : ℕ
  -- D x T rights row by desk
  pub rights : List ℕ
  -- P desk numbers
  pub desk : List ℕ
  -- F class numbers
  pub class : List ℕ

abbrev pub setup_bytes : ℕ → ℕ → ℕ → ℕ → List ℕ → List ℕ → List ℕ → SetupBytes
setup_bytes desks classes processes files rights desk class =
    record {
      desks = desks;
      classes = classes;
      processes = processes;
      files = files;
      rights = rights;
      desk = desk;
      class = class;
    }

-- the right at desk d and class t of rights given row by desk; 0 past the classes, and past the slice's end
unfoldable pub given_right : List ℕ → ℕ → ℕ → ℕ → ℕ
given_right rights classes d t = cond (ltb t classes) (get_or rights (d * classes + t) 0) 0

abbrev pub given_rights : List ℕ → ℕ → List ℕ
given_rights rights classes = table most_rights (λ i. given_right rights classes (i / most_classes) (i % most_classes))

unfoldable pub setup_from : SetupBytes → Setup
setup_from b =
    record {
      desks = b.desks;
      classes = b.classes;
      processes = b.processes;
      files = b.files;
      rights = given_rights b.rights b.classes;
      desk = table most_processes (λ p. get_or b.desk p 0);
      class = table most_files (λ f. get_or b.class f 0);
    }

-- the stand-in that a refused setup hands back: no count lies inside its sizes
unfoldable pub blank_setup : Setup
blank_setup =
    record {
      desks = 0;
      classes = 0;
      processes = 0;
      files = 0;
      rights = replicate most_rights 0;
      desk = replicate most_processes 0;
      class = replicate most_files 0;
    }
