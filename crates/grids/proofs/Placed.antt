-- Laws of a room with columns of a grid in it: which numbers stand where, and what keeps its value.
-- Assumes nothing.
use Prim.Native.Nat.{ℕ, zero, suc, ◌+◌, ◌-◌, ◌*◌, ◌/◌, ◌%◌, ◌<◌, ◌≤◌}
use mathlib.Core.Path.{◌≡◌, refl, ap, sym, ◌∙◌}
use mathlib.Core.Logic.{◌≢◌, ⊎_elim}
use mathlib.Core.List.{List, ◌++◌}
use native.Mathlib.Nat.{eq-or-lt_of_le, le_of_suc-le-suc}
use native.Mathlib.Omega.{arith}
use lib.ListN.{length, get_or, set, take, drop, length-set, length-drop, take-append-drop}
use lib.Seq.{ext_get_or, get_or-set_same, get_or-set_other, get_or-take, get_or-drop, length-take-le}
use Rattle.rules.specs.Sizes.{table}
use Rattle.rules.proofs.Sizes.{table_is}
use Rattle.grids.specs.Grids.{grid_place}
use Rattle.grids.specs.Columns.{with_column}
use Rattle.grids.proofs.Squares.{place_lt, same_row, same_column, row_lt, column_lt, place_again}

module _ (desks b : ℕ) (f : ℕ → ℕ) (room : List ℕ) where
  pub column_length : (n : ℕ) → length (with_column desks b f n room) ≡ length room
  unfolding with_column
  column_length zero = refl
  column_length (suc n) = length-set (with_column desks b f n room) (grid_place desks n b) (f n) ∙ column_length n

  -- a place that is none of the column's keeps its number
  pub column_other : (n i : ℕ) → ((a : ℕ) → a < n → grid_place desks a b ≢ i) → get_or (with_column desks b f n room) i 0 ≡ get_or room i 0
  unfolding with_column
  column_other zero i h = refl
  column_other (suc n) i h =
      get_or-set_other (with_column desks b f n room) (grid_place desks n b) i (f n) 0 (λ e. h n (omega arith) (sym e))
      ∙ column_other n i (λ a l. h a (omega arith))

  -- and each of its own has the number of its row
  pub column_at : b < desks → desks * desks ≤ length room → (n a : ℕ) → n ≤ desks → a < n → get_or (with_column desks b f n room) (grid_place desks a b) 0 ≡ f a
  unfolding with_column
  column_at l room_for zero a m h = absurd (omega arith)
  column_at l room_for (suc n) a m h =
      let before = with_column desks b f n room in
      ⊎_elim
      (λ e. rw e (get_or-set_same before (grid_place desks n b) (f n) 0 (omega (arith, column_length n, place_lt desks n b l m))))
      (λ k.
      get_or-set_other before (grid_place desks n b) (grid_place desks a b) (f n) 0 (λ e. omega (arith, same_row desks a n b b l l e))
      ∙ column_at l room_for n a (omega arith) k)
      (eq-or-lt_of_le (le_of_suc-le-suc h))

-- the numbers of the desks before a stand in column b of the room that was lent
pub record Standing (desks b : ℕ) (f : ℕ → ℕ) (lent room : List ℕ) (a : ℕ) : Type 0 where
  pub before : a ≤ desks
  pub long : length room ≡ length lent
  pub column : room ≡ with_column desks b f a lent

module _ {desks b : ℕ} {f : ℕ → ℕ} {lent : List ℕ} where
  pub standing_none : Standing desks b f lent lent 0
  unfolding with_column
  standing_none = record { before = omega arith; long = refl; column = refl }

  pub standing_more : {room : List ℕ} {a i x : ℕ} → Standing desks b f lent room a → a < desks → i ≡ grid_place desks a b → x ≡ f a
      → Standing desks b f lent (set room i x) (a + 1)
  unfolding with_column
  standing_more {room} {a} {i} {x} h l at e =
      let next : a + 1 ≡ suc a = omega arith in
      record { before = omega arith; long = length-set room i x ∙ h.long; column = rw (next, h.column, at, e) }

  pub standing_all : {room : List ℕ} {a : ℕ} → Standing desks b f lent room a → desks ≤ a → room ≡ with_column desks b f desks lent
  standing_all {room} {a} h l = let last : a ≡ desks = omega arith in h.column ∙ ap (λ (n : ℕ). with_column desks b f n lent) last

-- the columns before b stand in the room that was lent, and what lies past the grid is as it was
pub record Grown (desks : ℕ) (g : ℕ → ℕ → ℕ) (lent room : List ℕ) (b : ℕ) : Type 0 where
  pub before : b ≤ desks
  pub long : length room ≡ length lent
  pub numbers : (a d : ℕ) → a < desks → d < b → get_or room (grid_place desks a d) 0 ≡ g a d
  pub past : (i : ℕ) → desks * desks ≤ i → get_or room i 0 ≡ get_or lent i 0

module _ {desks : ℕ} {g : ℕ → ℕ → ℕ} {lent : List ℕ} where
  pub grown_none : Grown desks g lent lent 0
  grown_none = record { before = omega arith; long = refl; numbers = λ a d l h. absurd (omega arith); past = λ i h. refl }

  pub grown_more : {room next : List ℕ} {b : ℕ} {f : ℕ → ℕ} → Grown desks g lent room b → desks * desks ≤ length lent → b < desks
      → ((a : ℕ) → a < desks → f a ≡ g a b) → next ≡ with_column desks b f desks room → Grown desks g lent next (b + 1)
  grown_more {room} {next} {b} {f} h room_for l q e =
      rw e
      (record {
        before = omega arith;
        long = column_length desks b f room desks ∙ h.long;
        numbers = λ a d m k.
            ⊎_elim (λ z. rw z (column_at desks b f room l (omega (arith, h.long)) desks a (omega arith) m ∙ q a m))
            (λ m'.
            column_other desks b f room desks (grid_place desks a d) (λ c n z. omega (arith, same_column desks c a b d l (omega arith) z))
            ∙ h.numbers a d m m') (eq-or-lt_of_le (omega arith));
        past = λ i k. column_other desks b f room desks i (λ c n z. omega (arith, place_lt desks c b l n)) ∙ h.past i k;
      })

  module _ {room : List ℕ} {b : ℕ} (h : Grown desks g lent room b) (room_for : desks * desks ≤ length lent) (l : desks ≤ b) where
    front : take (desks * desks) room ≡ table (desks * desks) (λ i. g (i / desks) (i % desks))
    front =
        let n = desks * desks in
        table_is n _ (take n room) 0 (length-take-le n room (omega (arith, h.long)))
        (λ i k.
        get_or-take n room i 0 k ∙ ap (λ (j : ℕ). get_or room j 0) (sym (place_again desks i k))
        ∙ h.numbers (i / desks) (i % desks) (row_lt desks i k) (omega (arith, column_lt desks i k)))

    rest : drop (desks * desks) room ≡ drop (desks * desks) lent
    rest =
        let n = desks * desks in
        ext_get_or 0 (drop n room) (drop n lent) (length-drop n room ∙ ap (λ (k : ℕ). k - n) h.long ∙ sym (length-drop n lent))
        (λ i k. get_or-drop n room i 0 ∙ h.past (n + i) (omega arith) ∙ sym (get_or-drop n lent i 0))

    -- all columns are the grid
    pub grown_all : room ≡ table (desks * desks) (λ i. g (i / desks) (i % desks)) ++ drop (desks * desks) lent
    grown_all = sym (take-append-drop (desks * desks) room) ∙ cc (front, rest)
