-- Closed sets: where no link runs from a desk of H to a desk of L, striking out acts of H changes no answer to L.
-- Assumes nothing.
use Prim.Native.Nat.{ℕ}
use mathlib.Core.Path.{◌≡◌, refl, sym, ◌∙◌, subst}
use mathlib.Core.Logic.{inl, inr}
use mathlib.Core.Bool.{Bool}
use mathlib.Core.List.{List}
use mathlib.Core.Option.{some-injective}
use lib.Dec.{T}
use Rattle.secrecy.specs.Machine.{Machine, is_of, answers_where, answers_to}
use Rattle.secrecy.specs.Strike.{strike, strike_desk, Struck, no_acts, struck, kept}
use Rattle.secrecy.specs.Views.{Policy, Views, MayChange, Unwinding}
use Rattle.secrecy.specs.Sets.{Desks, OfSet, OfEither, of_H, of_L, of_nobody, Every, Closed, AlikeTo}
use Rattle.secrecy.proofs.Front.{front_if_fails, front_if_agree}
use Rattle.secrecy.proofs.StruckOut.{strike_sorts, is_desk_some}

module _ {M : Machine} {linked : Policy} {Alike : Views M} (unwound : Unwinding M linked Alike) {H L : Desks} (closed : Closed linked H L) where
  -- an act of H leaves every view of L alone
  unseen : {a : M.Act} → OfSet M H a → (s : M.State) → AlikeTo M Alike L s (M.step s a)
  unseen {a} h s u l = unwound.leaves_alone a h.who h.belongs u may_not s
    where
      may_not : ¬ MayChange linked h.who u
      may_not (inl e) = closed.apart u (subst H e h.inside) l
      may_not (inr k) = closed.no_link h.who u h.inside l k

  -- states alike to L stay so when an act of H is done in the first alone
  in_first : {a : M.Act} → OfSet M H a → (s t : M.State) → AlikeTo M Alike L s t → AlikeTo M Alike L (M.step s a) t
  in_first {a} h s t alike u l = (unwound.views u).transitive (M.step s a) s t ((unwound.views u).symmetric s (M.step s a) (unseen h s u l)) (alike u l)

  -- states alike to L stay so when one act is done in both
  in_both : (a : M.Act) → OfEither M H L a → (s t : M.State) → AlikeTo M Alike L s t → AlikeTo M Alike L (M.step s a) (M.step t a)
  in_both a (of_H h) s t alike u l = (unwound.views u).transitive (M.step s a) t (M.step t a) (in_first h s t alike u l) (unseen h t u l)
  in_both a (of_L k) s t alike u l = unwound.stays_alike a k.who k.belongs u s t (alike u l) (alike k.who k.inside)
  in_both a (of_nobody e) s t alike u l = rw (unwound.nobody_changes a e s, unwound.nobody_changes a e t) (alike u l)

  -- and the act is answered the same in both, unless it is of H
  same_answer : (a : M.Act) → OfEither M H L a → ¬ OfSet M H a → (s t : M.State) → AlikeTo M Alike L s t → M.answer s a ≡ M.answer t a
  same_answer a (of_H h) n s t alike = absurd (n h)
  same_answer a (of_L k) n s t alike = unwound.answers_agree a k.who k.belongs s t (alike k.who k.inside)
  same_answer a (of_nobody e) n s t alike = unwound.nobody_answers a e s t

  -- from states alike to L, with any acts of H struck out, the answers to all acts but those of H are the same
  pub struck_unheard : (asks : M.Act → Bool) → ((a : M.Act) → T (asks a) → ¬ OfSet M H a) →
      {acts rest : List M.Act} → Struck (OfSet M H) (OfEither M H L) acts rest →
      (s t : M.State) → AlikeTo M Alike L s t → answers_where M asks s acts ≡ answers_where M asks t rest
  unfolding answers_where
  struck_unheard asks spares no_acts s t alike = refl
  struck_unheard asks spares (struck {a} h r) s t alike =
      rw (front_if_fails (asks a) (λ x. spares a x h)) (struck_unheard asks spares r (M.step s a) t (in_first h s t alike))
  struck_unheard asks spares (kept {a} w r) s t alike =
      rw (struck_unheard asks spares r (M.step s a) (M.step t a) (in_both a w s t alike)) (front_if_agree (asks a) (λ x. same_answer a w (spares a x) s t alike) _)

  -- a test that strikes out acts of H alone changes no answer to a desk of L
  pub strike_unheard : (out : M.Act → Bool) → ((a : M.Act) → T (out a) → OfSet M H a) →
      (acts : List M.Act) → Every (OfEither M H L) acts → (u : ℕ) → L u →
      (s t : M.State) → AlikeTo M Alike L s t → answers_to M u s acts ≡ answers_to M u t (strike out acts)
  strike_unheard out only-H acts every u l = struck_unheard (is_of M u) spares (strike_sorts out acts (λ a m. only-H a) (λ a m x. every a m))
    where
      spares : (a : M.Act) → T (is_of M u a) → ¬ OfSet M H a
      spares a x h = closed.apart u (subst H (some-injective _ _ (sym h.belongs ∙ is_desk_some u (M.desk a) x)) h.inside) l

  -- nor does striking out all acts of one desk of H
  pub desk_unheard : (A : ℕ) → H A → (acts : List M.Act) → Every (OfEither M H L) acts → (u : ℕ) → L u →
      (s : M.State) → answers_to M u s acts ≡ answers_to M u s (strike_desk M A acts)
  desk_unheard A h acts every u l s =
      strike_unheard (is_of M A) (λ a x. record { who = A; belongs = is_desk_some A (M.desk a) x; inside = h }) acts every u l s s (λ v k. (unwound.views v).reflexive s)
