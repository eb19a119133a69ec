-- Laws of stores: where a mark lies, which stores fit, what a holder, a content or a mark put in place leaves, and that a store
-- with one that fits still fits.
-- Assumes nothing.
use Prim.Native.Nat.{ℕ, ◌<◌, ◌≤◌}
use mathlib.Core.Path.{◌≡◌, refl}
use mathlib.Core.Bool.{Bool, true, false, ◌&&◌, and-eq-true_iff}
use mathlib.Core.Logic.{◌≢◌}
use native.Mathlib.Omega.{arith}
use borrow.Author.Tests.{ltb-true, ltb-false, lt-ltb, le-ltb}
use lib.Dec.{ltb, eqb}
use lib.ListN.{length, length-set, length-replicate, get_or-replicate}
use lib.Seq.{set-get_or, get_or-set_same, get_or-set_other}
use Rattle.rules.specs.Sizes.{most_processes, most_files, most_marks, every}
use Rattle.rules.specs.Stores.{Content, unlocked, is_blank, blank_content, past_contents, holder_of, content_of, mark_at, mark_of, put_holder, put_content, put_mark}
use Rattle.rules.specs.Stores.{fresh_store, holder_fits, mark_fits, marks_fit, content_fits, file_is_blank, file_fits, fits, misfit}
use Rattle.rules.specs.declared.Setup.{Setup}
use Rattle.rules.specs.declared.Store.{Store}
use Rattle.rules.proofs.Lists.{cond_holds, set_holds, both_set, get_or-alike}
use Rattle.rules.proofs.Sizes.{every-at, every_true, every-false}

-- a mark has a place of its own
pub mark_at_apart : (f g p q : ℕ) → p < most_processes → q < most_processes → mark_at f p ≡ mark_at g q → (f ≡ g) × (p ≡ q)
mark_at_apart f g p q k l e = (omega arith, omega arith)

-- what a file's fitting asks: of one before F its holder, its marks and its content, of one past F that all is blank
pub record FileFits (s : Setup) (f holder : ℕ) (content : Content) (marks : ℕ → ℕ) : Type 0 where
  pub holder_fits_lem : f < s.files → holder_fits s f holder ≡ true
  pub mark-fits : f < s.files → (p : ℕ) → p < most_processes → mark_fits s f p (marks p) ≡ true
  pub content_fits_lem : f < s.files → content_fits content ≡ true
  pub holder_blank : s.files ≤ f → unlocked holder ≡ true
  pub mark_blank : s.files ≤ f → (p : ℕ) → p < most_processes → eqb (marks p) 0 ≡ true
  pub content_blank : s.files ≤ f → is_blank content ≡ true

-- and this is what is tested of it
module _ (s : Setup) (f holder : ℕ) (content : Content) (marks : ℕ → ℕ) where
  all_fit : holder_fits s f holder && marks_fit s f marks && content_fits content ≡ true
      → (holder_fits s f holder ≡ true) × (marks_fit s f marks ≡ true) × (content_fits content ≡ true)
  all_fit e =
      let (two, c) = (and-eq-true_iff (holder_fits s f holder && marks_fit s f marks) (content_fits content)).0 e in
      let (h, k) = (and-eq-true_iff (holder_fits s f holder) (marks_fit s f marks)).0 two in
      (h, k, c)

  file_fits-before : f < s.files → file_fits s f holder content marks ≡ holder_fits s f holder && marks_fit s f marks && content_fits content
  unfolding file_fits
  file_fits-before l = rw (lt-ltb f s.files l)

  file_fits_past : s.files ≤ f → file_fits s f holder content marks ≡ file_is_blank holder content marks
  unfolding file_fits
  file_fits_past l = rw (le-ltb f s.files l)

  all_blank : file_is_blank holder content marks ≡ true → (unlocked holder ≡ true) × (every most_processes (λ p. eqb (marks p) 0) ≡ true) × (is_blank content ≡ true)
  unfolding file_is_blank
  all_blank e =
      let none = every most_processes (λ p. eqb (marks p) 0) in
      let (two, c) = (and-eq-true_iff (unlocked holder && none) (is_blank content)).0 e in
      let (h, k) = (and-eq-true_iff (unlocked holder) none).0 two in
      (h, k, c)

  pub file_fits-tells : file_fits s f holder content marks ≡ true → FileFits s f holder content marks
  unfolding marks_fit
  file_fits-tells e =
      record {
        holder_fits_lem = λ l. (all_fit (rw (file_fits-before l) at e)).0;
        mark-fits = λ l. every-at most_processes _ (all_fit (rw (file_fits-before l) at e)).1;
        content_fits_lem = λ l. (all_fit (rw (file_fits-before l) at e)).2;
        holder_blank = λ l. (all_blank (rw (file_fits_past l) at e)).0;
        mark_blank = λ l. every-at most_processes _ (all_blank (rw (file_fits_past l) at e)).1;
        content_blank = λ l. (all_blank (rw (file_fits_past l) at e)).2;
      }

  pub file_fits_told : FileFits s f holder content marks → file_fits s f holder content marks ≡ true
  unfolding file_fits marks_fit file_is_blank
  file_fits_told h =
      cond_holds (λ (b : Bool). b ≡ true) (ltb f s.files)
      (λ t. let l = ltb-true f s.files t in rw (h.holder_fits_lem l, every_true most_processes _ (h.mark-fits l)) (h.content_fits_lem l))
      (λ t. let l = ltb-false f s.files t in rw (h.holder_blank l, every_true most_processes _ (h.mark_blank l)) (h.content_blank l))

-- each file of a store that fits does
pub fits-at : (s : Setup) (m : Store) → fits s m ≡ true → (f : ℕ) → f < most_files → FileFits s f (holder_of m f) (content_of m f) (mark_of m f)
unfolding fits
fits-at s m e f l = file_fits-tells s f _ _ _ (every-at most_files _ e f l)

-- and a store fits whose files all do
fits_by : (s : Setup) (m : Store) → ((f : ℕ) → f < most_files → FileFits s f (holder_of m f) (content_of m f) (mark_of m f)) → fits s m ≡ true
unfolding fits
fits_by s m h = every_true most_files _ (λ f l. file_fits_told s f _ _ _ (h f l))

-- a holder, a content and a mark that fit, put in the place of a file before F, keep a store fitting
module _ (s : Setup) (m : Store) (f : ℕ) (x : f < s.files) (e : fits s m ≡ true) where
  pub fits-put_holder : (holder : ℕ) → holder_fits s f holder ≡ true → fits s (put_holder m f holder) ≡ true
  fits-put_holder holder h =
      fits_by s _
      (λ g l.
      let old = fits-at s m e g l in
      record {
        holder_fits_lem = λ c. set_holds (λ (n : ℕ). holder_fits s g n ≡ true) m.holders f g holder 0 (old.holder_fits_lem c) (λ q. rw q h);
        mark-fits = old.mark-fits;
        content_fits_lem = old.content_fits_lem;
        holder_blank = λ c. set_holds (λ (n : ℕ). unlocked n ≡ true) m.holders f g holder 0 (old.holder_blank c) (λ q. absurd (omega arith));
        mark_blank = old.mark_blank;
        content_blank = old.content_blank;
      })

  pub fits-put_content : (content : Content) → content_fits content ≡ true → fits s (put_content m f content) ≡ true
  fits-put_content content h =
      fits_by s _
      (λ g l.
      let old = fits-at s m e g l in
      record {
        holder_fits_lem = old.holder_fits_lem;
        mark-fits = old.mark-fits;
        content_fits_lem = λ c. set_holds (λ (n : Content). content_fits n ≡ true) m.cells f g content past_contents (old.content_fits_lem c) (λ q. h);
        holder_blank = old.holder_blank;
        mark_blank = old.mark_blank;
        content_blank =
            λ c. set_holds (λ (n : Content). is_blank n ≡ true) m.cells f g content past_contents (old.content_blank c) (λ q. absurd (omega arith));
      })

  pub fits-put_mark : (p mark : ℕ) → p < most_processes → mark_fits s f p mark ≡ true → fits s (put_mark m f p mark) ≡ true
  fits-put_mark p mark b h =
      fits_by s _
      (λ g l.
      let old = fits-at s m e g l in
      record {
        holder_fits_lem = old.holder_fits_lem;
        mark-fits =
            λ c q d.
            set_holds (λ (n : ℕ). mark_fits s g q n ≡ true) m.marks (mark_at f p) (mark_at g q) mark 0 (old.mark-fits c q d)
            (λ i. let (same, own) = mark_at_apart g f q p d b i in rw (same, own) h);
        content_fits_lem = old.content_fits_lem;
        holder_blank = old.holder_blank;
        mark_blank =
            λ c q d.
            set_holds (λ (n : ℕ). eqb n 0 ≡ true) m.marks (mark_at f p) (mark_at g q) mark 0 (old.mark_blank c q d)
            (λ i. absurd (omega (arith, (mark_at_apart g f q p d b i).0)));
        content_blank = old.content_blank;
      })

-- every setup has a fresh store that fits
pub fresh_store-fits : (s : Setup) → fits s fresh_store ≡ true
unfolding fresh_store holder_fits mark_fits
fresh_store-fits s =
    fits_by s _
    (λ f l.
    record {
      holder_fits_lem = λ c. rw (get_or-alike {A = ℕ} most_files f 0);
      mark-fits = λ c p d. rw (get_or-alike {A = ℕ} most_marks (mark_at f p) 0);
      content_fits_lem = λ c. rw (get_or-replicate most_files f blank_content past_contents l);
      holder_blank = λ c. rw (get_or-alike {A = ℕ} most_files f 0);
      mark_blank = λ c p d. rw (get_or-alike {A = ℕ} most_marks (mark_at f p) 0);
      content_blank = λ c. rw (get_or-replicate most_files f blank_content past_contents l);
    })

-- the stand-in for a refused fresh store fits no setup
pub misfit_fits_none : (s : Setup) → fits s misfit ≡ false
unfolding fits misfit file_fits holder_fits marks_fit mark_fits file_is_blank
misfit_fits_none s =
    every-false most_files _ 0 (omega arith)
    (cond_holds (λ (b : Bool). b ≡ false) (ltb 0 s.files)
    (λ t. rw (every-false most_processes (λ p. mark_fits s 0 p (mark_of misfit 0 p)) 0 (omega arith) refl))
    (λ t. rw (every-false most_processes (λ p. eqb (mark_of misfit 0 p) 0) 0 (omega arith) refl)))

-- what stands at a file's place, put there again, changes nothing
module _ (m : Store) (f : ℕ) where
  pub put_holder_own : put_holder m f (holder_of m f) ≡ m
  put_holder_own = rw set-get_or

  pub put_content_own : put_content m f (content_of m f) ≡ m
  put_content_own = rw set-get_or

  pub put_mark_own : (p : ℕ) → put_mark m f p (mark_of m f p) ≡ m
  put_mark_own p = rw set-get_or

-- contents as they are put and found: laws above cite these, and do not look how contents lie in a store
module _ (m : Store) (g : ℕ) where
  pub put_content-length : (content : Content) → length (put_content m g content).cells ≡ length m.cells
  put_content-length content = length-set m.cells g content

  pub put_content_found : (content : Content) → length m.cells ≡ most_files → g < most_files → content_of (put_content m g content) g ≡ content
  put_content_found content long h = get_or-set_same m.cells g content past_contents (omega arith)

-- two stores that hold the same in file f still do with contents put in file g, if those are the same where f is g
pub put_content_both : (m k : Store) (g f : ℕ) {a b : Content} → length m.cells ≡ length k.cells → content_of m f ≡ content_of k f
    → (f ≡ g → a ≡ b) → content_of (put_content m g a) f ≡ content_of (put_content k g b) f
put_content_both m k g f = both_set m.cells k.cells g f past_contents

-- every file of a fresh store is blank
pub fresh_length : length fresh_store.cells ≡ most_files
unfolding fresh_store
fresh_length = length-replicate most_files blank_content

pub fresh_content : (f : ℕ) → f < most_files → content_of fresh_store f ≡ blank_content
unfolding fresh_store
fresh_content f l = get_or-replicate most_files f blank_content past_contents l

-- file g stands as it stood, whoever looks
pub record Kept (g : ℕ) (m k : Store) : Type 0 where
  pub holder : holder_of k g ≡ holder_of m g
  pub content : content_of k g ≡ content_of m g
  pub mark : (q : ℕ) → q < most_processes → mark_of k g q ≡ mark_of m g q

pub kept : {g : ℕ} {m : Store} → Kept g m m
kept = record { holder = refl; content = refl; mark = λ q l. refl }

-- what is put in the place of one file leaves every other
module _ (m : Store) (f g : ℕ) (h : g ≢ f) where
  pub put_holder_other : (holder : ℕ) → Kept g m (put_holder m f holder)
  put_holder_other holder = record { holder = get_or-set_other m.holders f g holder 0 h; content = refl; mark = λ q l. refl }

  pub put_content_other : (content : Content) → Kept g m (put_content m f content)
  put_content_other content = record { holder = refl; content = get_or-set_other m.cells f g content past_contents h; mark = λ q l. refl }

  pub put_mark_other : (p mark : ℕ) → p < most_processes → Kept g m (put_mark m f p mark)
  put_mark_other p mark k =
      record {
        holder = refl;
        content = refl;
        mark = λ q l. get_or-set_other m.marks (mark_at f p) (mark_at g q) mark 0 (λ e. h (mark_at_apart g f q p l k e).0);
      }
