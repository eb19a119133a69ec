-- Laws of what a file holds: which contents are blank and which fit, that READ of an unwritten file answers nothing, how what WRITE and COPY
-- put there is read.
-- Assumes nothing.
use Prim.Native.Nat.{ℕ, ◌≤◌}
use mathlib.Core.Path.{◌≡◌, refl}
use mathlib.Core.Bool.{true, false, and-eq-true_iff}
use mathlib.Core.Logic.{◌↔◌}
use native.Mathlib.Omega.{arith}
use borrow.Author.Tests.{eqb-true, eqb-false, eq-eqb}
use lib.Dec.{eqb}
use Rattle.rules.specs.Stores.{Content, is_written, blank_content, is_blank, content_of, content_fits}
use Rattle.rules.specs.Calls.{read_of, written_to, copied_to, goes_through, says, answer_to}
use Rattle.rules.specs.declared.Setup.{Setup}
use Rattle.rules.specs.declared.Store.{Store}
use Rattle.rules.specs.declared.Call.TheVariants.{Read}
use Rattle.rules.specs.declared.Answer.{Answer}
use Rattle.rules.specs.declared.Answer.TheVariants.{Nothing, Figure}
use Rattle.rules.proofs.Lists.{cond_holds, by_test}

-- blank is unwritten, with the figure 0: so "Entries past F are unwritten", and 0
pub is_blank_iff : (content : Content) → (is_blank content ≡ true) ↔ (content ≡ blank_content)
is_blank_iff content = (
  λ e.
      let (f, w) = (and-eq-true_iff (eqb content.figure 0) (eqb content.written 0)).0 e in
      let none = eqb-true content.figure 0 f in
      let unwritten = eqb-true content.written 0 w in
      λ i. record { figure = none i; written = unwritten i },
  λ e. rw e,
)

-- as decided for all requests, a mark "that is neither 0 nor 1 in a store does not fit"; and "an unwritten file's figure is 0"
pub content_fits_iff : (content : Content) → (content_fits content ≡ true) ↔ ((content.written ≤ 1) × (content.written ≡ 0 → content.figure ≡ 0))
content_fits_iff content = (
  λ e.
      by_test (eqb content.written 1)
      (λ t. let one = eqb-true content.written 1 t in (omega arith, λ none. omega arith))
      (λ t.
      let (f, w) = (and-eq-true_iff (eqb content.figure 0) (eqb content.written 0)).0 (rw t at e) in
      let none = eqb-true content.written 0 w in
      (omega arith, λ h. eqb-true content.figure 0 f)),
  λ (low, zero).
      by_test (eqb content.written 1) (λ t. rw t)
      (λ t.
      let other = eqb-false content.written 1 t in
      let none : content.written ≡ 0 = omega arith in
      rw (eq-eqb content.figure 0 (zero none), eq-eqb content.written 0 none, t)),
)

-- "READ of an unwritten file answers "nothing"", whether or not it goes through
pub read_unwritten : (s : Setup) (m : Store) (p f : ℕ) → is_written (content_of m f) ≡ false → answer_to s m (Read p f) ≡ Nothing
unfolding says answer_to
read_unwritten s m p f e = cond_holds (λ (a : Answer). a ≡ Nothing) (goes_through s m (Read p f)) (λ g. rw e) (λ g. refl)

-- what was written is read, 0 too
pub write_reads : (content : Content) (x : ℕ) → read_of (written_to content x) ≡ Figure x
write_reads content x = refl

-- what was copied is read as its source is: a figure, or nothing
pub copy_reads : (content source : Content) → read_of (copied_to content source) ≡ read_of source
copy_reads content source = refl
