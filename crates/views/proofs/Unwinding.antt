-- The store unwinds: the conditions of secrecy hold of its machine, its links and its views.
-- Assumes nothing.
use Prim.Native.Nat.{ℕ, ◌<◌}
use mathlib.Core.Path.{◌≡◌, refl, sym, ◌∙◌}
use mathlib.Core.Bool.{true}
use mathlib.Core.Logic.{inl, inr}
use mathlib.Mathlib.Data.Bool.Basic.{eq-false_of_not-eq-true}
use borrow.Author.Tests.{eq-eqb}
use Rattle.secrecy.specs.Views.{Unwinding}
use Rattle.rules.specs.Setups.{may_read, may_write, accepted}
use Rattle.rules.specs.Calls.{call_of, answer_to}
use Rattle.rules.specs.Refusals.{numbers_refusal}
use Rattle.rules.specs.Entries.{outcome, ran}
use Rattle.rules.specs.Links.{has_process, serves, linked}
use Rattle.rules.specs.declared.Numbers.{Numbers}
use Rattle.rules.specs.declared.Setup.{Setup}
use Rattle.rules.specs.declared.Store.{Store}
use Rattle.rules.proofs.Lists.{by_test}
use Rattle.rules.proofs.Sizes.{some_below-true}
use Rattle.rules.proofs.Setups.{accepted_sizes}
use Rattle.rules.proofs.Refusals.{numbers_exist}
use Rattle.views.specs.Machine.{machine, linked_to}
use Rattle.views.specs.Views.{OfDesk, Sees, Alike}
use Rattle.views.proofs.Tests.{by_refusal}
use Rattle.views.proofs.Alike.{equivalence}
use Rattle.views.proofs.Numbers.{of_desk, nobody_refused}
use Rattle.views.proofs.Calls.{SameIfRead, answers_alike}
use Rattle.views.proofs.Steps.{stays, alone}

module _ (s : Setup) where
  has_process_lem : {d p : ℕ} → OfDesk s d p → has_process s d ≡ true
  unfolding has_process
  has_process_lem {d} {p} o = some_below-true _ _ p o.exists (eq-eqb _ _ o.sits)

  -- a link runs where a process of one desk may write what another desk, with a process, may read
  link : {d u p q g : ℕ} → OfDesk s d p → Sees s u q g → may_write s p g ≡ true → linked_to s d u
  unfolding linked may_write
  link {d} {u} {g = g} writer reader writes =
      rw (has_process_lem writer, has_process_lem reader.process)
      (some_below-true s.files (serves s d u) g reader.file.exists (rw (← writer.sits, writes) reader.file.right))

  -- a process sees the same of stores alike to its desk, where it may read
  own : {d p f : ℕ} {m k : Store} → OfDesk s d p → f < s.files → Alike s d m k → SameIfRead s p f m k
  unfolding may_read
  own {d} {p} {f} {m} {k} o exists alike =
      by_test (may_read s p f)
      (λ reads. inr (alike.meets p f (record { process = o; file = record { exists = exists; right = rw o.sits at reads } }))) inl

  -- a refusal looks at no store
  answered : (n : Numbers) (m k : Store) → (numbers_refusal s n ≡ 0 → answer_to s m (call_of n) ≡ answer_to s k (call_of n)) →
      (ran s m n).answer ≡ (ran s k n).answer
  unfolding ran
  answered n m k agree = by_refusal (λ r. (outcome s m n r).answer ≡ (outcome s k n r).answer) (numbers_refusal s n) agree (λ r. refl)

  -- accepted, since of more processes than the most two would share an open mark
  pub unwound : accepted s ≡ true → Unwinding (machine s) (linked_to s) (Alike s)
  unfolding ran
  unwound a =
      let few = (accepted_sizes s a).of_processes.high in
      record {
        views = equivalence s;
        answers_agree =
            λ n d e m k alike.
            answered n m k (λ ok. answers_alike s m k (call_of n) (own (of_desk s n e) (numbers_exist s n ok).file alike));
        leaves_alone =
            λ n d e u may_not m.
            let o = of_desk s n e in
            by_refusal (λ r. Alike s u m (outcome s m n r).store) (numbers_refusal s n)
            (λ ok.
            alone s few (call_of n) o.exists
            (λ q reader.
            record {
              desk = λ same. may_not (inl (sym o.sits ∙ same));
              no_W = eq-false_of_not-eq-true (λ writes. may_not (inr (link o reader writes)));
            })
            m)
            (λ r. (equivalence s u).reflexive m);
        stays_alike =
            λ n d e u m k alike to-own.
            let o = of_desk s n e in
            by_refusal (λ r. Alike s u (outcome s m n r).store (outcome s k n r).store) (numbers_refusal s n)
            (λ ok. stays s few (call_of n) o.exists (own o (numbers_exist s n ok).file to-own) alike) (λ r. alike);
        nobody_changes =
            λ n e m.
            by_refusal (λ r. (outcome s m n r).store ≡ m) (numbers_refusal s n) (λ ok. absurd (nobody_refused s n e ok)) (λ r. refl);
        nobody_answers = λ n e m k. answered n m k (λ ok. absurd (nobody_refused s n e ok));
      }
