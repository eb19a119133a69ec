-- Laws of the stages of a route's list: between two desks every file is unlocked, and each desk hands the content of the file before it on.
-- Assumes nothing.
use Prim.Native.Nat.{ℕ, ◌+◌, ◌<◌}
use mathlib.Core.Path.{◌≡◌, ap, sym, ◌∙◌}
use mathlib.Core.Bool.{true, and-eq-true_iff}
use mathlib.Core.Logic.{◌≢◌}
use native.Mathlib.Omega.{arith}
use lib.ListN.{length, set, length-set, length-replicate}
use lib.Seq.{set-get_or, set-set, get_or-set_same, get_or-set_other}
use Rattle.rules.specs.Sizes.{most_files, most_marks}
use Rattle.rules.specs.Setups.{has_r, has_w, class_of, right_of, may_read, may_write, accepted}
use Rattle.rules.specs.Stores.{Content, holder_of, content_of, mark_at, mark_of, put_holder, put_content, put_mark, fresh_store}
use Rattle.rules.specs.Calls.{read_of, written_to, copied_to}
use Rattle.rules.specs.Entries.{ran}
use Rattle.rules.specs.declared.Setup.{Setup}
use Rattle.rules.specs.declared.Store.{Store}
use Rattle.rules.proofs.Lists.{get_or-alike}
use Rattle.rules.proofs.Setups.{accepted_sizes}
use Rattle.rules.proofs.Stores.{put_content-length, put_content_found, fresh_length}
use Rattle.chains.specs.Chains.{process_at, file_for}
use Rattle.chains.proofs.Acts.{LinkActs}
use Rattle.demand.specs.Routes.{read_call, write_call, lock_call, unlock_call, open_call, copy_call}
use Rattle.demand.proofs.Goes.{lock_goes, write_goes, unlock_goes, open_goes, read_answers, copy_goes}

-- a store between two desks: every file is unlocked, and the lists are as long as the arrays that they stand for
pub record Stage (m : Store) : Type 0 where
  pub free : (f : ℕ) → holder_of m f ≡ 0
  pub holders : length m.holders ≡ most_files
  pub cells : length m.cells ≡ most_files
  pub marks : length m.marks ≡ most_marks

pub fresh_stage : Stage fresh_store
unfolding fresh_store
fresh_stage =
    record {
      free = λ f. get_or-alike most_files f 0;
      holders = length-replicate {A = ℕ} most_files 0;
      cells = fresh_length;
      marks = length-replicate {A = ℕ} most_marks 0;
    }

module _ {m : Store} (at : Stage m) where
  -- another content and one more open mark leave every file unlocked
  pub content_stage : (f : ℕ) (content : Content) → Stage (put_content m f content)
  content_stage f content =
      record { free = at.free; holders = at.holders; cells = put_content-length m f content ∙ at.cells; marks = at.marks }

  pub open_stage : (f p : ℕ) → Stage (put_mark m f p 1)
  open_stage f p =
      record { free = at.free; holders = at.holders; cells = at.cells; marks = length-set m.marks (mark_at f p) 1 ∙ at.marks }

  -- a file that was locked and unlocked again leaves the holders as they were
  lock_over : (f holder : ℕ) → set (set m.holders f holder) f 0 ≡ m.holders
  lock_over f holder = set-set m.holders f holder 0 ∙ ap (set m.holders f) (sym (at.free f)) ∙ set-get_or m.holders f 0

module _ (s : Setup) (d u : ℕ) (k : LinkActs s d u) where
  -- a link's first desk may write its file, and its second may read it
  link_writes : may_write s (process_at s d) (file_for s d u) ≡ true
  unfolding may_write
  link_writes =
      let t = class_of s (file_for s d u) in rw k.from.sits ((and-eq-true_iff (has_w (right_of s d t)) (has_r (right_of s u t))).0 k.by.served).0

  link_reads : may_read s (process_at s u) (file_for s d u) ≡ true
  unfolding may_read
  link_reads =
      let t = class_of s (file_for s d u) in rw k.to.sits ((and-eq-true_iff (has_w (right_of s d t)) (has_r (right_of s u t))).0 k.by.served).1

module _ (s : Setup) (e : accepted s ≡ true) {m : Store} (at : Stage m) where
  -- what is put in place of a file that exists stands there
  put_holder_lem : (f holder : ℕ) → f < s.files → holder_of (put_holder m f holder) f ≡ holder
  put_holder_lem f holder h = get_or-set_same m.holders f holder 0 (omega (arith, (accepted_sizes s e).of_files.high, at.holders))

  pub put_content_lem : (f : ℕ) (content : Content) → f < s.files → content_of (put_content m f content) f ≡ content
  put_content_lem f content h = put_content_found m f content at.cells (omega (arith, (accepted_sizes s e).of_files.high))

  put_open : (f p : ℕ) → f < s.files → p < s.processes → mark_of (put_mark m f p 1) f p ≡ 1
  put_open f p h k =
      let sizes = accepted_sizes s e in
      get_or-set_same m.marks (mark_at f p) 1 0 (omega (arith, sizes.of_files.high, sizes.of_processes.high, at.marks))

  -- the first desk's LOCK, WRITE and UNLOCK leave its figure written in the file
  pub wrote : (d u x : ℕ) → LinkActs s d u
      → let p = process_at s d in let f = file_for s d u in
      (ran s (ran s (ran s m (lock_call p f)).store (write_call p f x)).store (unlock_call p f)).store ≡ put_content m f (written_to (content_of m f) x)
  wrote d u x k =
      let p = process_at s d in
      let f = file_for s d u in
      let locked = put_holder m f (p + 1) in
      let held = put_holder_lem f (p + 1) k.by.exists in
      let w = link_writes s d u k in
      rw (
        lock_goes s m p f k.from.exists k.by.exists w (at.free f),
        write_goes s locked p f k.from.exists k.by.exists x w held,
        unlock_goes s (put_content locked f (written_to (content_of m f) x)) p f k.from.exists k.by.exists w held,
        lock_over at f (p + 1),
      )

  -- a middle desk's OPEN, LOCK, COPY and UNLOCK leave the content of the file before it in the next
  pub handed : (c d u : ℕ) → LinkActs s c d → LinkActs s d u → file_for s d u ≢ file_for s c d
      → let p = process_at s d in let f = file_for s c d in let g = file_for s d u in
      (ran s (ran s (ran s (ran s m (open_call p f)).store (lock_call p g)).store (copy_call p f g)).store (unlock_call p g)).store
      ≡ put_content (put_mark m f p 1) g (copied_to (content_of m g) (content_of m f))
  handed c d u j k apart =
      let p = process_at s d in
      let f = file_for s c d in
      let g = file_for s d u in
      let opened = put_mark m f p 1 in
      let locked = put_holder opened g (p + 1) in
      let free : holder_of locked f ≡ 0 = get_or-set_other m.holders g f (p + 1) 0 (λ q. apart (sym q)) ∙ at.free f in
      let held = put_holder_lem g (p + 1) k.by.exists in
      let w = link_writes s d u k in
      let r = link_reads s c d j in
      rw (
        open_goes s m p f k.from.exists j.by.exists r (at.free f),
        lock_goes s opened p g k.from.exists k.by.exists w (at.free g),
        copy_goes s locked p f k.from.exists j.by.exists g k.by.exists apart r w (put_open f p j.by.exists k.from.exists) free held,
        unlock_goes s (put_content locked g (copied_to (content_of m g) (content_of m f))) p g k.from.exists k.by.exists w held,
        lock_over at g (p + 1),
      )

  -- the last desk's READ after its OPEN answers what the file before it holds
  pub read_out : (c d : ℕ) → LinkActs s c d
      → let p = process_at s d in let f = file_for s c d in
      (ran s (ran s m (open_call p f)).store (read_call p f)).answer ≡ read_of (content_of m f)
  read_out c d k =
      let p = process_at s d in
      let f = file_for s c d in
      let r = link_reads s c d k in
      rw (
        open_goes s m p f k.to.exists k.by.exists r (at.free f),
        read_answers s (put_mark m f p 1) p f k.to.exists k.by.exists r (put_open f p k.by.exists k.to.exists) (at.free f),
      )
