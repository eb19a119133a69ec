-- What a loop over access lines keeps, and what it answers.
-- Assumes nothing.
use Prim.Native.Nat.{ℕ, ◌+◌, ◌<◌, ◌≤◌}
use mathlib.Core.Path.{◌≡◌, refl, sym, ◌∙◌}
use mathlib.Core.List.{List, [], ◌∷◌}
use native.Mathlib.Omega.{arith}
use borrow.Author.Tests.{le-leb, lt-leb}
use lib.ListN.{length, set, replicate}
use Rattle.rules.specs.Sizes.{most_desks, most_classes, most_rights}
use Rattle.rules.specs.Setups.{right_both}
use Rattle.rules.specs.Refusals.{first_of, number_of}
use Rattle.rules.specs.declared.refusal.Refusal.{Refusal}
use Rattle.rules.specs.declared.refusal.Refusal.TheVariants.{NoSuchDesk, NoSuchClass, BreaksRules}
use Rattle.std.specs.Prelude.{None, Some, Err}
use Rattle.lines.specs.Shapes.{header, Access, access_line}
use Rattle.lines.specs.Readings.{after_header, access_order, Text}
use Rattle.lines.proofs.Shapes.{access_line_right}
use Rattle.fields.specs.Cursor.{line_at}
use Rattle.fields.proofs.Firsts.{line_found}
use Rattle.text.specs.ReadOn.{read_on}
use Rattle.text.specs.Stages.{access_stage, AllInside, rights_of, AccessRead, fault, AccessEnd}
use Rattle.text.proofs.ReadOn.{line_read, line_faulty, line_inside}
use Rattle.text.proofs.Stages.{access_judged, access_ends}
use Rattle.text.proofs.Tables.{place_of, least_after, place_rises, place_falls, rights_none, rights_more}

-- the lines before a cursor are sound, their rights stand at their places, and the least place that rises is known
pub record Accessed (desks classes : ℕ) (text : List ℕ) (at : ℕ) (rights : List ℕ) (from least : ℕ) : Type 0 where
  pub access : List Access
  pub inside : AllInside desks classes access
  pub are : rights ≡ rights_of access
  pub within : from ≤ length text
  pub rising : least ≡ least_after access
  pub leads : (t : Text) (processes files : ℕ)
      → (let h = header desks classes processes files in read_on t text at (after_header h) ≡ read_on t text from (access_stage h access))

pub accessed_none : (desks classes : ℕ) (text : List ℕ) (at : ℕ) (rights : List ℕ) → at ≤ length text → rights ≡ replicate most_rights 0
    → Accessed desks classes text at rights at 0
accessed_none desks classes text at rights l e =
    record { access = []; inside = tt; are = e ∙ rights_none; within = l; rising = refl; leads = λ t processes files. refl }

-- a right that is read is none above both
pub right_inside : (text : List ℕ) (at next : ℕ) (line : Access) → Some (next, line) ≡ line_at access_line text at → line.right ≤ right_both
right_inside text at next line e = access_line_right _ line (line_found access_line text at (sym e)).reads

module _ (desks classes : ℕ) (text : List ℕ) (at : ℕ) (rights : List ℕ) (from least : ℕ) (so_far : Accessed desks classes text at rights from least) where
  -- where the line at the cursor has not the shape of an access line, they are all read
  pub accessed_all : None ≡ line_at access_line text from → AccessRead desks classes text at from rights
  accessed_all e =
      record {
        access = so_far.access;
        inside = so_far.inside;
        are = so_far.are;
        within = so_far.within;
        leads =
            λ t processes files.
            so_far.leads t processes files ∙ access_ends t text from (header desks classes processes files) so_far.access so_far.within e;
      }

  module _ (next : ℕ) (line : Access) (e : Some (next, line) ≡ line_at access_line text from) where
    held : (r : Refusal) → first_of (access_order (access_stage (header desks classes 0 0) so_far.access) line) ≡ number_of r
        → AccessEnd desks classes text at (Err (fault r from)) rights
    held r z t processes files =
        so_far.leads t processes files
        ∙ line_faulty text from (access_judged t (header desks classes processes files) so_far.access) next line e r z

    -- 3 before 4, and both before rising order
    pub accessed_desk : desks ≤ line.desk → AccessEnd desks classes text at (Err (fault NoSuchDesk from)) rights
    accessed_desk l = held NoSuchDesk (rw (le-leb desks line.desk l))

    module _ (d : line.desk < desks) where
      pub accessed_class : classes ≤ line.class → AccessEnd desks classes text at (Err (fault NoSuchClass from)) rights
      accessed_class l = held NoSuchClass (rw (lt-leb desks line.desk d, le-leb classes line.class l))

      module _ (c : line.class < classes) (most : classes ≤ most_classes) where
        pub accessed_order : place_of line < least → AccessEnd desks classes text at (Err (fault BreaksRules from)) rights
        accessed_order l =
            held BreaksRules
            (rw (
              lt-leb desks line.desk d,
              lt-leb classes line.class c,
              place_falls desks classes most line c so_far.access so_far.inside (omega (arith, so_far.rising)),
            ))

        -- one more line is read, and its right set at its place
        pub accessed_more : desks ≤ most_desks → least ≤ place_of line
            → Accessed desks classes text at (set rights (place_of line) line.right) next (place_of line + 1)
        accessed_more k l =
            record {
              access = line ∷ so_far.access;
              inside = (d, c, so_far.inside);
              are = rw so_far.are (rights_more line so_far.access (omega arith) (omega arith));
              within = line_inside access_line text from next line e;
              rising = refl;
              leads =
                  λ t processes files.
                  so_far.leads t processes files
                  ∙ line_read text from (access_judged t (header desks classes processes files) so_far.access) next line e
                  (rw (
                    lt-leb desks line.desk d,
                    lt-leb classes line.class c,
                    place_rises desks classes most line c so_far.access so_far.inside (omega (arith, so_far.rising)),
                  ));
            }
