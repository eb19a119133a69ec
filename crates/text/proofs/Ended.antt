-- Laws of how a setup's lines end: one kind of line after the other, and the setup that they give.
-- Assumes nothing.
use Prim.Native.Nat.{ℕ, ◌≤◌}
use mathlib.Core.Path.{◌≡◌, refl, ◌∙◌}
use mathlib.Core.Bool.{true, false}
use mathlib.Core.List.{List, [], ◌++◌}
use Rattle.std.specs.Prelude.{None, Some, Ok, Err}
use native.Mathlib.Omega.{arith}
use borrow.Author.Tests.{lt-ltb, le-ltb}
use lib.ListN.{length, take, drop, replicate, length-replicate}
use lib.Seq.{length-take-le}
use Rattle.rules.specs.Sizes.{most_processes, most_files}
use Rattle.rules.specs.Setups.{within_sizes, setup_from}
use Rattle.rules.specs.declared.refusal.Refusal.TheVariants.{CountOutside, BreaksRules}
use Rattle.rules.proofs.Setups.{WithinSizes, within_sizes_iff}
use Rattle.lines.specs.Bytes.{word_process, word_file}
use Rattle.lines.specs.Shapes.{Header, header, Access, header_line}
use Rattle.lines.specs.Readings.{process_due, calls_due, after_header, set_due, Text, read_text, bytes_read}
use Rattle.lines.specs.declared.Fault.{Fault}
use Rattle.fields.specs.Cursor.{line_at}
use Rattle.text.specs.ReadOn.{read_on}
use Rattle.text.specs.Stages.{fault, access_stage, process_stage, file_stage, AllInside, rights_of, EntriesDue, EntriesRead, EntriesEnd, SetupEnd}
use Rattle.text.proofs.ReadOn.{from_start, judges_takes, shape_broken, line_read, line_faulty}
use Rattle.text.proofs.Stages.{start_lacks, header-judged, processes_due, files_due}
use Rattle.text.proofs.Tables.{rights_given, entries_table}

module _ (t : Text) (text : List ℕ) where
  pub header_broken : None ≡ line_at header_line text 0 → SetupEnd t text (Err (fault BreaksRules 0))
  header_broken e = from_start t text ∙ shape_broken text 0 (header-judged t) (omega arith) e (λ q. start_lacks t)

  module _ (next : ℕ) (h : Header) (e : Some (next, h) ≡ line_at header_line text 0) where
    pub header_outside : within_sizes h.desks h.classes h.processes h.files ≡ false → SetupEnd t text (Err (fault CountOutside 0))
    header_outside f = from_start t text ∙ line_faulty text 0 (judges_takes (header-judged t)) next h e CountOutside (rw f)

    pub header_read : within_sizes h.desks h.classes h.processes h.files ≡ true → read_text t text ≡ read_on t text next (after_header h)
    header_read s = from_start t text ∙ line_read text 0 (judges_takes (header-judged t)) next h e (rw s)

-- as many zeros as are counted, where entries are to be read
abbrev pub blanks : ℕ → ℕ → List ℕ
blanks most n = take n (replicate most 0)

pub blanks-length : (most n : ℕ) → n ≤ most → length (blanks most n) ≡ n
blanks-length most n l = length-take-le n (replicate most 0) (rw length-replicate l)

module _ (desks classes processes files : ℕ) (within : within_sizes desks classes processes files ≡ true) where
  -- each count lies inside its sizes
  pub sizes : WithinSizes desks classes processes files
  sizes = (within_sizes_iff desks classes processes files).0 within

  pub every_process : length (blanks most_processes processes) ≡ processes
  every_process = blanks-length most_processes processes sizes.of_processes.high

  pub every_file : length (blanks most_files files) ≡ files
  every_file = blanks-length most_files files sizes.of_files.high

  module _ (text : List ℕ) (at : ℕ) (rights : List ℕ) (t : Text) (access : List Access) (inside : AllInside desks classes access)
      (are : rights ≡ rights_of access)
      (start : read_text t text ≡ read_on t text at (set_due (access_stage (header desks classes processes files) access) process_due)) where
    -- after the access lines the first process line is due, and where process lines are refused the text is
    to_processes : read_text t text ≡ read_on t text at (process_stage (header desks classes processes files) access [])
    to_processes = start ∙ rw (lt-ltb 0 processes (omega (arith, sizes.of_processes.low)))

    all_processes : EntriesDue t word_process desks 3 (length (blanks most_processes processes)) (process_stage (header desks classes processes files) access)
    all_processes = processes_due t (header desks classes processes files) access (length (blanks most_processes processes)) every_process

    pub processes_refused : (f : Fault) → EntriesEnd text at word_process desks 3 (length (blanks most_processes processes)) (Err f) [] → SetupEnd t text (Err f)
    processes_refused f e = to_processes ∙ e t (process_stage (header desks classes processes files) access) all_processes

    module _ (at-files : ℕ) (desk : List ℕ) (p : EntriesRead text at word_process desks 3 (length (blanks most_processes processes)) at-files desk) where
      -- after the process lines the first file line is due, and where file lines are refused the text is
      to_files : read_text t text ≡ read_on t text at-files (file_stage (header desks classes processes files) access desk [])
      to_files =
          to_processes ∙ p.leads t (process_stage (header desks classes processes files) access) all_processes
          ∙ rw (le-ltb (length desk) processes (omega (arith, p.long, every_process)), lt-ltb 0 files (omega (arith, sizes.of_files.low)))

      all_files : EntriesDue t word_file classes 4 (length (blanks most_files files)) (file_stage (header desks classes processes files) access desk)
      all_files = files_due t (header desks classes processes files) access desk (length (blanks most_files files)) every_file

      pub files_refused : (f : Fault) → EntriesEnd text at-files word_file classes 4 (length (blanks most_files files)) (Err f) [] → SetupEnd t text (Err f)
      files_refused f e = to_files ∙ e t (file_stage (header desks classes processes files) access desk) all_files

      module _ (end : ℕ) (class : List ℕ) (f : EntriesRead text at-files word_file classes 4 (length (blanks most_files files)) end class) where
        to_end : read_text t text ≡ read_on t text end (set_due (file_stage (header desks classes processes files) access desk class) calls_due)
        to_end =
            to_files ∙ f.leads t (file_stage (header desks classes processes files) access desk) all_files
            ∙ rw (le-ltb (length class) files (omega (arith, f.long, every_file)))

        -- after the file lines the setup is read
        pub setup-given
            : SetupEnd t text
            (Ok (
              end,
              record {
                desks = desks;
                classes = classes;
                processes = processes;
                files = files;
                rights = rights;
                desk = desk ++ drop processes (replicate most_processes 0);
                class = class ++ drop files (replicate most_files 0);
              },
            ))
        unfolding setup_from bytes_read
        setup-given =
            let desk-long : length desk ≡ processes = p.long ∙ every_process in
            let class-long : length class ≡ files = f.long ∙ every_file in
            let desk-is = entries_table most_processes desk (omega (arith, sizes.of_processes.high)) in
            let class-is = entries_table most_files class (omega (arith, sizes.of_files.high)) in
            let rights-are = are ∙ rights_given desks classes access sizes.of_classes.high inside in
            record {
              so_far = set_due (file_stage (header desks classes processes files) access desk class) calls_due;
              leads = to_end;
              ended = refl;
              no_calls = refl;
              is = rw (← desk-is, ← class-is, ← rights-are, desk-long, class-long);
              within = f.within;
            }
