-- Each view is an equivalence; and what becomes of it where something is put in one place of a store.
-- Assumes nothing.
use Prim.Native.Nat.{ℕ, ◌<◌, ◌≤◌}
use native.Mathlib.Omega.{arith}
use mathlib.Core.Path.{◌≡◌, refl, sym, ◌∙◌}
use lib.ListN.{length-set}
use Rattle.secrecy.specs.Views.{Equivalence}
use Rattle.rules.specs.Sizes.{most_processes}
use Rattle.rules.specs.Stores.{Content, holder_of, content_of, mark_at, mark_of, put_holder, put_content, put_mark}
use Rattle.rules.specs.declared.Setup.{Setup}
use Rattle.rules.specs.declared.Store.{Store}
use Rattle.rules.proofs.Lists.{both_set}
use Rattle.rules.proofs.Stores.{mark_at_apart, put_holder_own, put_content_own, put_mark_own, put_content-length, put_content_both}
use Rattle.views.specs.Views.{Sees, SameOf, Alike}

same_of : {q f : ℕ} {m : Store} → SameOf q f m m
same_of = record { holder = refl; content = refl; mark = refl }

same_back : {q f : ℕ} {m k : Store} → SameOf q f m k → SameOf q f k m
same_back a = record { holder = sym a.holder; content = sym a.content; mark = sym a.mark }

same_on : {q f : ℕ} {m k j : Store} → SameOf q f m k → SameOf q f k j → SameOf q f m j
same_on a b = record { holder = a.holder ∙ b.holder; content = a.content ∙ b.content; mark = a.mark ∙ b.mark }

module _ (s : Setup) (u : ℕ) where
  pub equivalence : Equivalence (Alike s u)
  equivalence =
      record {
        reflexive = λ m. record { lengths = refl; meets = λ q f o. same_of };
        symmetric = λ m k a. record { lengths = sym a.lengths; meets = λ q f o. same_back (a.meets q f o) };
        transitive = λ m k j a b. record { lengths = a.lengths ∙ b.lengths; meets = λ q f o. same_on (a.meets q f o) (b.meets q f o) };
      }

  -- what is put in one place of both stores keeps them alike, if it is the same for those who see that place
  module _ {m k : Store} (alike : Alike s u m k) (g : ℕ) where
    pub holders_alike : {a b : ℕ} → ((q : ℕ) → Sees s u q g → a ≡ b) → Alike s u (put_holder m g a) (put_holder k g b)
    holders_alike new =
        record {
          lengths = simp length-set alike.lengths;
          meets =
              λ q f o.
              let old = alike.meets q f o in
              let now = both_set m.holders k.holders g f 0 (λ j. (alike.lengths j).0) old.holder (λ e. new q (rw e at o)) in
              record { holder = now; content = old.content; mark = old.mark };
        }

    pub contents_alike : {a b : Content} → ((q : ℕ) → Sees s u q g → a ≡ b) → Alike s u (put_content m g a) (put_content k g b)
    contents_alike new =
        record {
          lengths = simp put_content-length alike.lengths;
          meets =
              λ q f o.
              let old = alike.meets q f o in
              let now = put_content_both m k g f (λ j. (alike.lengths j).1) old.content (λ e. new q (rw e at o)) in
              record { holder = old.holder; content = now; mark = old.mark };
        }

    -- a mark is seen by its own process alone, since there are no more processes than the marks of a file
    pub marks_alike : s.processes ≤ most_processes → (p : ℕ) → p < s.processes → {a b : ℕ} → (Sees s u p g → a ≡ b) →
        Alike s u (put_mark m g p a) (put_mark k g p b)
    marks_alike few p exists new =
        record {
          lengths = simp length-set alike.lengths;
          meets =
              λ q f o.
              let old = alike.meets q f o in
              let apart = mark_at_apart f g q p (omega (arith, o.process.exists)) (omega arith) in
              let here : mark_at f q ≡ mark_at g p → Sees s u p g = λ e. rw ((apart e).0, (apart e).1) at o in
              let now = both_set m.marks k.marks (mark_at g p) (mark_at f q) 0 (λ j. (alike.lengths j).2) old.mark (λ e. new (here e)) in
              record { holder = old.holder; content = old.content; mark = now };
        }

  -- and what is put in one place of a store is not seen, if it is what stood there for those who see that place
  module _ {m : Store} (g : ℕ) where
    pub holder_unseen : {a : ℕ} → ((q : ℕ) → Sees s u q g → holder_of m g ≡ a) → Alike s u m (put_holder m g a)
    holder_unseen new = rw (put_holder_own m g) at (holders_alike (equivalence.reflexive m) g new)

    pub content_unseen : {a : Content} → ((q : ℕ) → Sees s u q g → content_of m g ≡ a) → Alike s u m (put_content m g a)
    content_unseen new = rw (put_content_own m g) at (contents_alike (equivalence.reflexive m) g new)

    pub mark_unseen : s.processes ≤ most_processes → (p : ℕ) → p < s.processes → {a : ℕ} → (Sees s u p g → mark_of m g p ≡ a) →
        Alike s u m (put_mark m g p a)
    mark_unseen few p exists new = rw (put_mark_own m g p) at (marks_alike (equivalence.reflexive m) g few p exists new)
