-- Laws of the calls of a route's list that go through: which part of the store each changes, and what READ answers.
-- Assumes nothing.
use Prim.Native.Nat.{ℕ, ◌+◌, ◌<◌}
use mathlib.Core.Path.{◌≡◌, refl}
use mathlib.Core.Bool.{true}
use mathlib.Core.Logic.{◌≢◌}
use native.Mathlib.Omega.{arith}
use borrow.Author.Tests.{eq-eqb}
use Rattle.rules.specs.Setups.{may_read, may_write}
use Rattle.rules.specs.Stores.{holder_of, content_of, mark_of, put_holder, put_content, put_mark}
use Rattle.rules.specs.Calls.{read_of, written_to, copied_to, call_of, goes_through, effect, says, answer_to, next_store}
use Rattle.rules.specs.Entries.{ran}
use Rattle.rules.specs.declared.Numbers.{Numbers}
use Rattle.rules.specs.declared.Setup.{Setup}
use Rattle.rules.specs.declared.Store.{Store}
use Rattle.rules.specs.declared.Call.TheVariants.{Open}
use Rattle.rules.specs.declared.Answer.TheVariants.{Nothing}
use Rattle.rules.proofs.Calls.{silent_answers_nothing}
use Rattle.rules.proofs.Refusals.{Sound, numbers_refusal_iff}
use Rattle.demand.specs.Routes.{read_call, write_call, lock_call, unlock_call, open_call, copy_call}

module _ (s : Setup) (m : Store) where
  -- sound numbers are run
  ran_sound : (n : Numbers) → Sound s n → ran s m n ≡ record { answer = answer_to s m (call_of n); store = next_store s m (call_of n) }
  unfolding ran
  ran_sound n h = rw ((numbers_refusal_iff s n).1 h)

  module _ (p f : ℕ) (at : p < s.processes) (on : f < s.files) where
    pub lock_goes : may_write s p f ≡ true → holder_of m f ≡ 0 → (ran s m (lock_call p f)).store ≡ put_holder m f (p + 1)
    unfolding call_of next_store goes_through effect
    lock_goes w h = simp (ran_sound (lock_call p f) (omega arith), w, h)

    pub write_goes : (x : ℕ) → may_write s p f ≡ true → holder_of m f ≡ p + 1
        → (ran s m (write_call p f x)).store ≡ put_content m f (written_to (content_of m f) x)
    unfolding call_of next_store goes_through effect
    write_goes x w h = simp (ran_sound (write_call p f x) (omega arith), w, eq-eqb (holder_of m f) (p + 1) h)

    pub unlock_goes : may_write s p f ≡ true → holder_of m f ≡ p + 1 → (ran s m (unlock_call p f)).store ≡ put_holder m f 0
    unfolding call_of next_store goes_through effect
    unlock_goes w h = simp (ran_sound (unlock_call p f) (omega arith), w, eq-eqb (holder_of m f) (p + 1) h)

    pub open_goes : may_read s p f ≡ true → holder_of m f ≡ 0 → (ran s m (open_call p f)).store ≡ put_mark m f p 1
    unfolding call_of next_store goes_through effect
    open_goes r h = simp (ran_sound (open_call p f) (omega arith), r, eq-eqb (holder_of m f) 0 h)

    pub open_answers : (ran s m (open_call p f)).answer ≡ Nothing
    unfolding call_of
    open_answers = rw (ran_sound (open_call p f) (omega arith)) (silent_answers_nothing s m (Open p f) refl)

    pub read_answers : may_read s p f ≡ true → mark_of m f p ≡ 1 → holder_of m f ≡ 0 → (ran s m (read_call p f)).answer ≡ read_of (content_of m f)
    unfolding call_of answer_to goes_through says
    read_answers r k h = simp (ran_sound (read_call p f) (omega arith), r, k, h)

    pub copy_goes : (g : ℕ) → g < s.files → g ≢ f → may_read s p f ≡ true → may_write s p g ≡ true → mark_of m f p ≡ 1 → holder_of m f ≡ 0 → holder_of m g ≡ p + 1
        → (ran s m (copy_call p f g)).store ≡ put_content m g (copied_to (content_of m g) (content_of m f))
    unfolding call_of next_store goes_through effect
    copy_goes g to apart r w k h held = simp (ran_sound (copy_call p f g) (omega arith), r, w, k, h, eq-eqb (holder_of m g) (p + 1) held)
