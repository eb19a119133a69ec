-- Laws of a call's turn: on what the call looks at in a store it answers as the call does, and what it leaves, put in its place,
-- is the next store.
-- Assumes nothing.
use Prim.Native.Nat.{ℕ}
use mathlib.Core.Path.{◌≡◌, refl}
use mathlib.Core.Bool.{true, false}
use lib.Seq.{set-get_or}
use Rattle.rules.specs.Setups.{may_read, may_write}
use Rattle.rules.specs.Stores.{Content, put_holder, put_content, put_mark}
use Rattle.rules.specs.Calls.{goes_through, effect, says, answer_to, next_store}
use Rattle.rules.specs.Parts.{process_of, changeable}
use Rattle.rules.specs.declared.Setup.{Setup}
use Rattle.rules.specs.declared.Store.{Store}
use Rattle.rules.specs.declared.Call.{Call}
use Rattle.rules.specs.declared.Call.TheVariants.{Read, Write, Lock, Unlock, Open, Close, Testlock, Copy}
use Rattle.rules.specs.declared.Called.{Called}
use Rattle.rules.proofs.Lists.{by_test}
use Rattle.calling.specs.Looking.{meeting_of, with_meeting, looks_at}
use Rattle.calling.specs.Turns.{with_holder, with_content, with_mark, goes, changes, tells, turn_of, quiet}
use Rattle.calling.specs.declared.Looks.{Looks}
use Rattle.calling.specs.declared.Turn.{Turn}

-- a turn is what the call tells and changes where it goes through, and the target as it is where it does not
pub turn_goes : (c : Call) (k : Looks) → goes c k ≡ true → turn_of c k ≡ record { answer = tells c k; meeting = changes c k }
unfolding turn_of
turn_goes c k e = simp e

pub turn_stays : (c : Call) (k : Looks) → goes c k ≡ false → turn_of c k ≡ quiet k.target
unfolding turn_of
turn_stays c k e = simp e

-- where one thing of what a process meets is another, that one is put
module _ (m : Store) (p f : ℕ) where
  own_put : with_meeting m p f (meeting_of m p f) ≡ m
  own_put = simp set-get_or

  holder_put : (holder : ℕ) → with_meeting m p f (with_holder (meeting_of m p f) holder) ≡ put_holder m f holder
  holder_put holder = simp set-get_or

  content_put : (content : Content) → with_meeting m p f (with_content (meeting_of m p f) content) ≡ put_content m f content
  content_put content = simp set-get_or

  mark_put : (mark : ℕ) → with_meeting m p f (with_mark (meeting_of m p f) mark) ≡ put_mark m f p mark
  mark_put mark = simp set-get_or

module _ (s : Setup) (m : Store) where
  -- the step's three columns on what a call looks at are the table's on the store
  columns : (c : Call) → let k = looks_at s m c in
      (goes c k ≡ goes_through s m c) × (tells c k ≡ says m c) × (with_meeting m (process_of c) (changeable c) (changes c k) ≡ effect m c)
  unfolding may_read may_write goes_through effect says
  columns (Read p f) = (refl, refl, own_put m p f)
  columns (Write p f x) = (refl, refl, content_put m p f _)
  columns (Lock p f) = (refl, refl, holder_put m p f _)
  columns (Unlock p f) = (refl, refl, holder_put m p f _)
  columns (Open p f) = (refl, refl, mark_put m p f _)
  columns (Close p f) = (refl, refl, mark_put m p f _)
  columns (Testlock p f) = (refl, refl, own_put m p f)
  columns (Copy p f x) = (refl, refl, content_put m p x _)

  -- so a turn answers as the call does, and what it leaves, put in its place, is the next store
  turn_is : (c : Call) → let t = turn_of c (looks_at s m c) in
      ◌≡◌ {A = Called} (record { answer = t.answer; store = with_meeting m (process_of c) (changeable c) t.meeting })
      (record { answer = answer_to s m c; store = next_store s m c })
  unfolding turn_of answer_to next_store
  turn_is c =
      let (asked, told, put) = columns c in
      by_test (goes_through s m c) (λ goes. rw (asked, goes, told, put)) (λ stays. rw (asked, stays) (simp set-get_or))

  -- and so does a turn on what was looked up, put back by the numbers that the call names
  pub turned : (c : Call) {p x : ℕ} {k : Looks} {t : Turn} → p ≡ process_of c → x ≡ changeable c → k ≡ looks_at s m c → t ≡ turn_of c k →
      ◌≡◌ {A = Called} (record { answer = t.answer; store = with_meeting m p x t.meeting }) (record { answer = answer_to s m c; store = next_store s m c })
  turned c by at looked stepped = rw (stepped, looked, by, at) (turn_is c)
