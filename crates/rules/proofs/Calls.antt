-- Laws of the eight calls: what each leaves alone, what READ, OPEN and TESTLOCK need, and that a call on what exists keeps a store fitting.
-- Assumes nothing.
use Prim.Native.Nat.{ℕ, ◌+◌, ◌-◌, ◌<◌}
use mathlib.Core.Path.{◌≡◌, refl}
use mathlib.Core.Bool.{Bool, true, false, ◌&&◌, and-eq-true_iff, and-false, or-true, false≢true}
use mathlib.Core.Logic.{◌≢◌}
use native.Mathlib.Omega.{arith}
use borrow.Author.Tests.{eqb-true, lt-ltb, ne_eqb}
use lib.Seq.{set-set}
use Rattle.rules.specs.Sizes.{most_processes, most_files}
use Rattle.rules.specs.Setups.{may_read, may_write, accepted}
use Rattle.rules.specs.Stores.{unlocked, locked_by, holder_of, has_open, put_mark, holder_fits, mark_fits, fits}
use Rattle.rules.specs.Calls.{goes_through, effect, says, answer_to, next_store}
use Rattle.rules.specs.Parts.{process_of, file_of, changeable}
use Rattle.rules.specs.declared.Setup.{Setup}
use Rattle.rules.specs.declared.Store.{Store}
use Rattle.rules.specs.declared.Call.{Call}
use Rattle.rules.specs.declared.Call.TheVariants.{Read, Write, Lock, Unlock, Open, Close, Testlock, Copy}
use Rattle.rules.specs.declared.Answer.{Answer}
use Rattle.rules.specs.declared.Answer.TheVariants.{Nothing}
use Rattle.rules.proofs.Codes.{Exists}
use Rattle.rules.proofs.Lists.{cond_holds}
use Rattle.rules.proofs.Setups.{accepted_sizes}
use Rattle.rules.proofs.Stores.{fits-at, fits-put_holder, fits-put_content, fits-put_mark, Kept, kept, put_holder_other, put_content_other, put_mark_other}

-- what holds of the store as it is where the call does not go through, and of it with the effect where it does, holds of the next store
pub next_store_holds {ℓ} : (P : Store → Type ℓ) (s : Setup) (m : Store) (c : Call) → (goes_through s m c ≡ false → P m)
    → (goes_through s m c ≡ true → P (effect m c)) → P (next_store s m c)
unfolding next_store
next_store_holds P s m c f t = cond_holds P (goes_through s m c) t f

-- "READ and TESTLOCK change nothing"
pub read_changes_nothing : (s : Setup) (m : Store) (p f : ℕ) → next_store s m (Read p f) ≡ m
unfolding effect
read_changes_nothing s m p f = next_store_holds (λ (n : Store). n ≡ m) s m (Read p f) (λ g. refl) (λ g. refl)

pub testlock_changes_nothing : (s : Setup) (m : Store) (p f : ℕ) → next_store s m (Testlock p f) ≡ m
unfolding effect
testlock_changes_nothing s m p f = next_store_holds (λ (n : Store). n ≡ m) s m (Testlock p f) (λ g. refl) (λ g. refl)

-- a process that exists and may write fits as a holder, and one that may read fits with its mark
holder_fits_by : (s : Setup) (f p : ℕ) → p < s.processes → may_write s p f ≡ true → holder_fits s f (p + 1) ≡ true
unfolding holder_fits
holder_fits_by s f p l w =
    let q : p + 1 - 1 ≡ p = omega arith in
    rw (q, lt-ltb p s.processes l, w) (or-true (unlocked (p + 1)))

mark_fits_by : (s : Setup) (f p : ℕ) → p < s.processes → may_read s p f ≡ true → mark_fits s f p 1 ≡ true
unfolding mark_fits
mark_fits_by s f p l r = rw (lt-ltb p s.processes l, r)

-- a call that goes through leaves a store that fits, if it found one
effect-fits : (s : Setup) (m : Store) (c : Call) → Exists s c → process_of c < most_processes → file_of c < most_files → fits s m ≡ true
    → goes_through s m c ≡ true → fits s (effect m c) ≡ true
unfolding effect goes_through holder_fits mark_fits
effect-fits s m (Read p f) x k l e g = e
effect-fits s m (Write p f n) x k l e g = fits-put_content s m f x.file e _ refl
effect-fits s m (Lock p f) x k l e g = fits-put_holder s m f x.file e (p + 1) (holder_fits_by s f p x.process ((and-eq-true_iff (may_write s p f) _).0 g).0)
effect-fits s m (Unlock p f) x k l e g = fits-put_holder s m f x.file e 0 refl
effect-fits s m (Open p f) x k l e g = fits-put_mark s m f x.file e p 1 k (mark_fits_by s f p x.process ((and-eq-true_iff (may_read s p f) _).0 g).0)
effect-fits s m (Close p f) x k l e g = fits-put_mark s m f x.file e p 0 k refl
effect-fits s m (Testlock p f) x k l e g = e
effect-fits s m (Copy p f n) x k l e g = fits-put_content s m n x.changed e _ ((fits-at s m e f l).content_fits_lem x.file)

-- "Every accepted call keeps a store fitting"
pub next_store-fits : (s : Setup) (m : Store) (c : Call) → accepted s ≡ true → Exists s c → fits s m ≡ true → fits s (next_store s m c) ≡ true
next_store-fits s m c a x e =
    let sizes = accepted_sizes s a in
    next_store_holds (λ (n : Store). fits s n ≡ true) s m c (λ g. e)
    (effect-fits s m c x (omega (arith, x.process, sizes.of_processes.high)) (omega (arith, x.file, sizes.of_files.high)) e)

module _ (s : Setup) (m : Store) (c : Call) (e : goes_through s m c ≡ false) where
  -- a call that does not go through leaves the store as it is, and answers "nothing"
  pub next_store_stays : next_store s m c ≡ m
  unfolding next_store
  next_store_stays = rw e

  pub answer_to_stays : answer_to s m c ≡ Nothing
  unfolding answer_to
  answer_to_stays = rw e

-- a call that goes through changes at most one file
effect_other : (m : Store) (c : Call) (g : ℕ) → process_of c < most_processes → g ≢ changeable c → Kept g m (effect m c)
unfolding effect
effect_other m (Read p f) g k h = kept
effect_other m (Write p f x) g k h = put_content_other m f g h _
effect_other m (Lock p f) g k h = put_holder_other m f g h _
effect_other m (Unlock p f) g k h = put_holder_other m f g h _
effect_other m (Open p f) g k h = put_mark_other m f g h p 1 k
effect_other m (Close p f) g k h = put_mark_other m f g h p 0 k
effect_other m (Testlock p f) g k h = kept
effect_other m (Copy p f x) g k h = put_content_other m x g h _

-- and so does every call
pub next_store_other : (s : Setup) (m : Store) (c : Call) (g : ℕ) → process_of c < most_processes → g ≢ changeable c → Kept g m (next_store s m c)
next_store_other s m c g k h = next_store_holds (λ (n : Store). Kept g m n) s m c (λ e. kept) (λ e. effect_other m c g k h)

-- the calls other than READ and TESTLOCK
abbrev pub silent : Call → Bool
silent (Read p f) = false
silent (Write p f x) = true
silent (Lock p f) = true
silent (Unlock p f) = true
silent (Open p f) = true
silent (Close p f) = true
silent (Testlock p f) = false
silent (Copy p f x) = true

-- none of these says anything
silent-says : (m : Store) (c : Call) → silent c ≡ true → says m c ≡ Nothing
unfolding says
silent-says m (Read p f) e = absurd (false≢true e)
silent-says m (Write p f x) e = refl
silent-says m (Lock p f) e = refl
silent-says m (Unlock p f) e = refl
silent-says m (Open p f) e = refl
silent-says m (Close p f) e = refl
silent-says m (Testlock p f) e = absurd (false≢true e)
silent-says m (Copy p f x) e = refl

-- the other six always answer "nothing", whether or not they went through
pub silent_answers_nothing : (s : Setup) (m : Store) (c : Call) → silent c ≡ true → answer_to s m c ≡ Nothing
unfolding answer_to
silent_answers_nothing s m c e =
    cond_holds (λ (a : Answer). a ≡ Nothing) (goes_through s m c) (λ g. silent-says m c e) (λ g. refl)

-- "OPEN twice is the same as once"
pub open_twice : (s : Setup) (m : Store) (p f : ℕ) → next_store s (next_store s m (Open p f)) (Open p f) ≡ next_store s m (Open p f)
unfolding effect
open_twice s m p f =
    next_store_holds (λ (n : Store). next_store s n (Open p f) ≡ n) s m (Open p f) (next_store_stays s m (Open p f))
    (λ g. next_store_holds (λ (n : Store). n ≡ opened) s opened (Open p f) (λ h. refl) (λ h. rw set-set))
  where
    opened : Store
    opened = put_mark m f p 1

-- READ does not go through where p has the file not open
pub read_unopened : (s : Setup) (m : Store) (p f : ℕ) → has_open m p f ≡ false → goes_through s m (Read p f) ≡ false
unfolding goes_through
read_unopened s m p f e = rw (e, and-false (may_read s p f))

-- nor while another process has it locked: "READ waits for the lock instead"
pub read_waits : (s : Setup) (m : Store) (p f : ℕ) → unlocked (holder_of m f) ≡ false → locked_by (holder_of m f) p ≡ false → goes_through s m (Read p f) ≡ false
unfolding goes_through
read_waits s m p f held others = rw (held, others) (and-false (may_read s p f && has_open m p f))

-- "OPEN of a file that p itself has locked does not go through"
pub open_own_locked : (s : Setup) (m : Store) (p f : ℕ) → locked_by (holder_of m f) p ≡ true → goes_through s m (Open p f) ≡ false
unfolding goes_through
open_own_locked s m p f e =
    let held = eqb-true (holder_of m f) (p + 1) e in
    rw (ne_eqb (holder_of m f) 0 (omega arith)) (and-false (may_read s p f))

-- TESTLOCK goes through only for a process whose desk has R and W
pub testlock_rights : (s : Setup) (m : Store) (p f : ℕ) → goes_through s m (Testlock p f) ≡ true → (may_read s p f ≡ true) × (may_write s p f ≡ true)
unfolding goes_through
testlock_rights s m p f g = (and-eq-true_iff (may_read s p f) (may_write s p f)).0 g
