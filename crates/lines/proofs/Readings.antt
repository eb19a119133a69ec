-- Laws of the setup that is read: it lies inside its counts line by line, and that of a text that is read is accepted.
-- Assumes nothing.
use Prim.Native.Nat.{ℕ, zero, suc, ◌+◌, ◌*◌, ◌/◌, ◌%◌, ◌<◌}
use mathlib.Core.Path.{◌≡◌, refl}
use mathlib.Core.Bool.{true, ◌&&◌, false≢true}
use mathlib.Core.List.{List, [], ◌∷◌, ◌++◌}
use native.Mathlib.Omega.{arith}
use borrow.Author.Tests.{ltb-true, ltb-false, leb-false, not-false}
use lib.Dec.{ltb, eqb}
use lib.ListN.{length, get_or, length-append}
use Rattle.rules.specs.Setups.{right_both, accepted, setup_from}
use Rattle.rules.specs.Refusals.{first_of}
use Rattle.rules.proofs.Lists.{cond_holds}
use Rattle.rules.proofs.Sizes.{length-table, get_or-table}
use Rattle.rules.proofs.Setups.{WithinSizes, within_sizes_iff}
use Rattle.rules.proofs.Refusals.{unmet_iff, SoundBytes, setup_refusal_iff}
use Rattle.rules.proofs.Entries.{given_accepted}
use Rattle.lines.specs.Shapes.{Header, Access, Process, File}
use Rattle.lines.specs.Readings.{Due, header_due, access_due, process_due, file_due, calls_due, call_due, SoFar, after_header, sound, header_order, after_access, process_order, after_process, file_order, after_file, Text, complete, read_text, right_read, bytes_read}
use Rattle.lines.proofs.Shapes.{access_line_right}
use Rattle.lines.proofs.Kept.{Keeps, read_all, read_keeps}

-- the entries are below a bound
abbrev pub Below : ℕ → List ℕ → Type 0
Below bound xs = (i : ℕ) → i < length xs → get_or xs i 0 < bound

below_more : (bound : ℕ) (xs : List ℕ) (x : ℕ) → Below bound xs → x < bound → Below bound (xs ++ (x ∷ []))
below_more bound [] x h l zero k = l
below_more bound [] x h l (suc i) k = absurd (omega arith)
below_more bound (y ∷ xs) x h l zero k = h zero (omega arith)
below_more bound (y ∷ xs) x h l (suc i) k = below_more bound xs x (λ j m. h (suc j) (omega arith)) l i (omega arith)

length_more : (xs : List ℕ) (x : ℕ) → length (xs ++ (x ∷ [])) ≡ length xs + 1
length_more xs x = length-append xs (x ∷ [])

-- what was read lies inside the counts
pub record Inside (counts : Header) (access : List Access) (desk class : List ℕ) : Type 0 where
  pub sizes : WithinSizes counts.desks counts.classes counts.processes counts.files
  pub right_lt : (d t : ℕ) → right_read access d t < right_both + 1
  pub desk_lt : Below counts.desks desk
  pub class_lt : Below counts.classes class

abbrev pub Lies : SoFar → Type 0
Lies s = Inside s.counts s.access s.desk s.class

-- all of it is read
abbrev pub AllRead : SoFar → Type 0
AllRead s = Lies s × (length s.desk ≡ s.counts.processes) × (length s.class ≡ s.counts.files)

-- or as much as is known by what is due
abbrev pub HeldAt : Due → SoFar → Type 0
HeldAt header_due s = Unit {0}
HeldAt access_due s = Lies s × (length s.desk ≡ 0) × (length s.class ≡ 0)
HeldAt process_due s = Lies s × (length s.desk < s.counts.processes) × (length s.class ≡ 0)
HeldAt file_due s = Lies s × (length s.desk ≡ s.counts.processes) × (length s.class < s.counts.files)
HeldAt calls_due s = AllRead s
HeldAt call_due s = AllRead s

held_process : (s : SoFar) (p : Process) → first_of (process_order s p) ≡ 0 → HeldAt process_due s → HeldAt (after_process s p).due (after_process s p)
held_process s p z (h, fewer, no-file) =
    let u = (unmet_iff (process_order s p) (omega arith)).0 z in
    let more = length_more s.desk p.desk in
    let inside : Lies (after_process s p) = record {
      sizes = h.sizes;
      right_lt = h.right_lt;
      desk_lt = below_more s.counts.desks s.desk p.desk h.desk_lt (leb-false s.counts.desks p.desk u.0);
      class_lt = h.class_lt;
    } in
    cond_holds (λ (d : Due). HeldAt d (after_process s p)) (ltb (length (s.desk ++ (p.desk ∷ []))) s.counts.processes)
    (λ t. (inside, ltb-true _ _ t, no-file))
    (λ f. (inside, omega (arith, ltb-false _ s.counts.processes f), omega (arith, h.sizes.of_files.low)))

held_file : (s : SoFar) (f : File) → first_of (file_order s f) ≡ 0 → HeldAt file_due s → HeldAt (after_file s f).due (after_file s f)
held_file s f z (h, all, fewer) =
    let u = (unmet_iff (file_order s f) (omega arith)).0 z in
    let more = length_more s.class f.class in
    let inside : Lies (after_file s f) = record {
      sizes = h.sizes;
      right_lt = h.right_lt;
      desk_lt = h.desk_lt;
      class_lt = below_more s.counts.classes s.class f.class h.class_lt (leb-false s.counts.classes f.class u.0);
    } in
    cond_holds (λ (d : Due). HeldAt d (after_file s f)) (ltb (length (s.class ++ (f.class ∷ []))) s.counts.files)
    (λ t. (inside, all, ltb-true _ _ t))
    (λ g. (inside, all, omega (arith, ltb-false _ s.counts.files g)))

held : Keeps HeldAt
unfolding right_read
held =
    record {
      start = tt;
      header =
          λ h z.
          let u = (unmet_iff (header_order h) (omega arith)).0 z in
          let inside : Lies (after_header h) = record {
            sizes = (within_sizes_iff h.desks h.classes h.processes h.files).0 (not-false _ u.0);
            right_lt = λ d t. omega arith;
            desk_lt = λ i l. absurd (omega arith);
            class_lt = λ i l. absurd (omega arith);
          } in
          (inside, refl, refl);
      access =
          λ s fields a e z (h, no-process, no-file).
          let inside : Lies (after_access s a) = record {
            sizes = h.sizes;
            right_lt =
                λ d t.
                cond_holds (λ (r : ℕ). r < right_both + 1) (eqb a.desk d && eqb a.class t) (λ y. omega (arith, access_line_right fields a e))
                (λ n. h.right_lt d t);
            desk_lt = h.desk_lt;
            class_lt = h.class_lt;
          } in
          (inside, no-process, no-file);
      no_access = λ s (h, no-process, no-file). (h, omega (arith, h.sizes.of_processes.low), no-file);
      process = held_process;
      file = held_file;
      calls = λ s h. h;
      call = λ s fields n e z h. h;
    }

complete_read : (t : Text) (d : Due) (s : SoFar) → complete t d ≡ true → HeldAt d s → AllRead s
complete_read t header_due s c h = absurd (false≢true c)
complete_read t access_due s c h = absurd (false≢true c)
complete_read t process_due s c h = absurd (false≢true c)
complete_read t file_due s c h = absurd (false≢true c)
complete_read t calls_due s c h = h
complete_read t call_due s c h = h

-- what was read of a whole setup text are sound bytes
pub read_sound : (s : SoFar) → AllRead s → SoundBytes (bytes_read s)
unfolding bytes_read
read_sound s (h, processes, files) =
    let rights : ℕ → ℕ = λ i. right_read s.access (i / s.counts.classes) (i % s.counts.classes) in
    let n = s.counts.desks * s.counts.classes in
    record {
      sizes = h.sizes;
      rights_length = length-table n rights;
      desk_length = processes;
      class_length = files;
      right_lt =
          λ i l.
          let k : i < n = rw length-table at l in
          rw (get_or-table n rights i 0 k) (h.right_lt (i / s.counts.classes) (i % s.counts.classes));
      desk_lt = h.desk_lt;
      class_lt = h.class_lt;
    }

-- the setup of a text that is read is accepted
pub read_accepted : (t : Text) (text : List ℕ) (s : SoFar) → read_text t text ≡ sound s → accepted (setup_from (bytes_read s)) ≡ true
read_accepted t text s e =
    let whole = complete_read t s.due s (read_all t text s e).1 (read_keeps held t text s e) in
    given_accepted (bytes_read s) ((setup_refusal_iff (bytes_read s)).1 (read_sound s whole))
