-- What a loop over process lines or file lines keeps, and what it answers.
-- Assumes nothing.
use Prim.Native.Nat.{ℕ, ◌+◌, ◌<◌, ◌≤◌}
use mathlib.Core.Path.{◌≡◌, refl, ap, sym, ◌∙◌}
use mathlib.Core.List.{List, [], ◌∷◌, ◌++◌}
use native.Mathlib.Numerals.{add-one}
use native.Mathlib.Omega.{arith}
use borrow.Author.Tests.{le-leb, lt-leb, eq-eqb, ne_eqb}
use lib.ListN.{length, get_or, set, take, length-set}
use lib.Seq.{length-take-le, take_all, take-suc-set}
use Rattle.rules.specs.Refusals.{first_of, number_of}
use Rattle.rules.specs.declared.refusal.Refusal.{Refusal}
use Rattle.rules.specs.declared.refusal.Refusal.TheVariants.{BreaksRules}
use Rattle.std.specs.Prelude.{None, Some, Err}
use Rattle.lines.specs.Shapes.{read_as}
use Rattle.lines.specs.Readings.{SoFar, Text}
use Rattle.fields.specs.Cursor.{line_at}
use Rattle.text.specs.ReadOn.{read_on}
use Rattle.text.specs.Stages.{fault, entry_shape, entry_order, EntriesDue, ForEntries, EntriesRead, EntriesEnd}
use Rattle.text.proofs.ReadOn.{Judges, judges_takes, shape_broken, line_read, line_faulty, line_inside}

-- the lines before a cursor are sound, and give the entries before i
pub record Entered (text : List ℕ) (at : ℕ) (word : List ℕ) (bound refusal count : ℕ) (entries : List ℕ) (from i : ℕ) : Type 0 where
  pub long : length entries ≡ count
  pub before : i ≤ count
  pub within : from ≤ length text
  pub leads : ForEntries word bound refusal count (λ t stage. read_on t text at (stage []) ≡ read_on t text from (stage (take i entries)))

pub entered_none : (text : List ℕ) (at : ℕ) (word : List ℕ) (bound refusal : ℕ) (entries : List ℕ) → at ≤ length text
    → Entered text at word bound refusal (length entries) entries at 0
entered_none text at word bound refusal entries l =
    record { long = refl; before = omega arith; within = l; leads = λ t stage due. refl }

module _ (text : List ℕ) (at : ℕ) (word : List ℕ) (bound refusal count : ℕ) (entries : List ℕ) (from i : ℕ)
    (so_far : Entered text at word bound refusal count entries from i) where
  pub entered_all : count ≤ i → EntriesRead text at word bound refusal count from entries
  entered_all l =
      let all : take i entries ≡ entries = take_all i entries (omega (arith, so_far.long)) in
      record {
        long = so_far.long;
        within = so_far.within;
        leads = λ t stage due. so_far.leads t stage due ∙ ap (λ (xs : List ℕ). read_on t text from (stage xs)) all;
      }

  module _ (l : i < count) where
    taken : length (take i entries) ≡ i
    taken = length-take-le i entries (omega (arith, so_far.long))

    fewer : length (take i entries) < count
    fewer = omega (arith, taken)

    -- so one more line is due, and judged as one of them
    judged_here : (t : Text) (stage : List ℕ → SoFar) → EntriesDue t word bound refusal count stage
        → Judges t (stage (take i entries)) (read_as (entry_shape word)) (entry_order bound refusal (take i entries))
        (λ ns. stage (take i entries ++ (get_or ns 1 0 ∷ [])))
    judged_here t stage due = record { so = due.judges (take i entries) fewer }

    pub entered_broken : None ≡ line_at (read_as (entry_shape word)) text from
        → EntriesEnd text at word bound refusal count (Err (fault BreaksRules from)) entries
    entered_broken e t stage due =
        so_far.leads t stage due ∙ shape_broken text from (judged_here t stage due) so_far.within e (λ q. due.lacks (take i entries) fewer)

    module _ (next first second : ℕ) (e : Some (next, first ∷ second ∷ []) ≡ line_at (read_as (entry_shape word)) text from) where
      held : (r : Refusal) → first_of (entry_order bound refusal (take i entries) (first ∷ second ∷ [])) ≡ number_of r
          → EntriesEnd text at word bound refusal count (Err (fault r from)) entries
      held r z t stage due =
          so_far.leads t stage due ∙ line_faulty text from (judges_takes (judged_here t stage due)) next (first ∷ second ∷ []) e r z

      -- the bound before the number
      pub entered_bound : (r : Refusal) → refusal ≡ number_of r → bound ≤ second → EntriesEnd text at word bound refusal count (Err (fault r from)) entries
      entered_bound r e b = held r (rw (le-leb bound second b) e)

      module _ (b : second < bound) where
        pub entered_order : (first ≡ i → ⊥) → EntriesEnd text at word bound refusal count (Err (fault BreaksRules from)) entries
        entered_order h = held BreaksRules (rw (lt-leb bound second b, taken, ne_eqb first i h))

        -- one more line is read, and its entry written
        pub entered_more : first ≡ i → Entered text at word bound refusal count (set entries i second) next (i + 1)
        entered_more h =
            record {
              long = length-set entries i second ∙ so_far.long;
              before = omega arith;
              within = line_inside (read_as (entry_shape word)) text from next (first ∷ second ∷ []) e;
              leads =
                  λ t stage due.
                  let more : take (i + 1) (set entries i second) ≡ take i entries ++ (second ∷ []) = rw add-one (take-suc-set entries i second (omega (arith, so_far.long))) in
                  so_far.leads t stage due
                  ∙ line_read text from (judges_takes (judged_here t stage due)) next (first ∷ second ∷ []) e
                  (rw (lt-leb bound second b, taken, eq-eqb first i h)) ∙ ap (λ (xs : List ℕ). read_on t text next (stage xs)) (sym more);
            }
