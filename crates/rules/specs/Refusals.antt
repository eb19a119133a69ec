-- 01, "Refusal numbers": what each is given for, and the orders in which they are judged. Those of lists, routes, gates, grids and texts
-- stand in `lists`, `routes`, `gates`, `grids` and `lines`.
use Rattle.std.specs.Prelude.{ℕ, ◌+◌, ◌*◌, Bool, not, ◌&&◌, ◌||◌, cond, List, [], ◌∷◌, ltb, leb, eqb, length, get_or, Result, Ok, Err}
use Rattle.rules.specs.Sizes.{some_below}
use Rattle.rules.specs.Setups.{SetupBytes, right_both, all_of, within_sizes, accepted}
use Rattle.rules.specs.Stores.{fits}
use Rattle.rules.specs.Calls.{first_code, last_code, code_of_write, code_of_copy}
use Rattle.rules.specs.declared.Numbers.{Numbers}
use Rattle.rules.specs.declared.Setup.{Setup}
use Rattle.rules.specs.declared.Store.{Store}
use Rattle.rules.specs.declared.refusal.Refusal.{Refusal}
use Rattle.rules.specs.declared.refusal.Refusal.TheVariants.{CountOutside, RightAbove, NoSuchDesk, NoSuchClass, NoSuchOperation, NoSuchProcess, NoSuchFile, ExtraGiven, CopyOntoItself, WrongLength, TooLittleRoom, NoSuchRouteDesk, SameDesk, BreaksRules, NotAccepted, DoesNotFit}

infix 20 ◌gives◌
-- a ground for refusal is a condition, and the number that is given where it holds
abbrev pub Ground : Type 0
Ground = Bool × ℕ

abbrev pub ◌gives◌ : Bool → ℕ → Ground
condition gives number = (condition, number)

-- "Each is given exactly then, unless one earlier in its order applies"; 0 where none is given
abbrev pub first_of : List Ground → ℕ
first_of [] = 0
first_of (r ∷ rs) = cond r.0 r.1 (first_of rs)

-- 01's number of each refusal
abbrev pub number_of : Refusal → ℕ
number_of CountOutside = 1
number_of RightAbove = 2
number_of NoSuchDesk = 3
number_of NoSuchClass = 4
number_of NoSuchOperation = 5
number_of NoSuchProcess = 6
number_of NoSuchFile = 7
number_of ExtraGiven = 8
number_of CopyOntoItself = 9
number_of WrongLength = 10
number_of TooLittleRoom = 11
number_of NoSuchRouteDesk = 12
number_of SameDesk = 13
number_of BreaksRules = 14
number_of NotAccepted = 15
number_of DoesNotFit = 16

-- what a result is refused with, as a number; 0 where it is not
abbrev pub refusal_of : {A : Type 0} → Result A Refusal → ℕ
refusal_of (Ok x) = 0
refusal_of (Err refusal) = number_of refusal

-- a result with its refusal as a number
abbrev pub numbered : {A : Type 0} → Result A Refusal → Result A ℕ
numbered (Ok x) = Ok x
numbered (Err refusal) = Err (number_of refusal)

-- an entry of a slice is the bound or more
unfoldable pub some_from : ℕ → List ℕ → Bool
some_from bound entries = some_below (length entries) (λ i. leb bound (get_or entries i 0))

-- each slice is as long as its counts say
abbrev pub slices_asked : SetupBytes → List Bool
slices_asked b =
    eqb (length b.rights) (b.desks * b.classes)
    ∷ eqb (length b.desk) b.processes
    ∷ eqb (length b.class) b.files
    ∷ []

unfoldable pub slices_match : SetupBytes → Bool
slices_match b = all_of (slices_asked b)

-- "a setup count lies outside its sizes"
abbrev pub refusal1 : SetupBytes → Ground
refusal1 b = not (within_sizes b.desks b.classes b.processes b.files) gives 1

-- "a right is above 3"
abbrev pub refusal2 : SetupBytes → Ground
refusal2 b = some_from (right_both + 1) b.rights gives 2

-- "a desk number in a setup is D or more"
abbrev pub refusal3 : SetupBytes → Ground
refusal3 b = some_from b.desks b.desk gives 3

-- "a class number in a setup is T or more"
abbrev pub refusal4 : SetupBytes → Ground
refusal4 b = some_from b.classes b.class gives 4

-- "the operation is not 1 to 8"
abbrev pub refusal5 : Numbers → Ground
refusal5 n = ltb n.operation first_code || ltb last_code n.operation gives 5

-- "p is P or more"
abbrev pub refusal6 : Setup → Numbers → Ground
refusal6 s n = leb s.processes n.process gives 6

-- "f is F or more, or x is for COPY"
abbrev pub refusal7 : Setup → Numbers → Ground
refusal7 s n = leb s.files n.file || eqb n.operation code_of_copy && leb s.files n.extra gives 7

-- "x is not 0, for codes 1 and 3 to 7"; numbers that are no code were refused with 5 before
abbrev pub refusal8 : Numbers → Ground
refusal8 n = not (eqb n.operation code_of_write || eqb n.operation code_of_copy) && not (eqb n.extra 0) gives 8

-- "COPY with x equal to f"
abbrev pub refusal9 : Numbers → Ground
refusal9 n = eqb n.operation code_of_copy && eqb n.extra n.file gives 9

-- "setup slices do not match the counts"
abbrev pub refusal10 : SetupBytes → Ground
refusal10 b = not (slices_match b) gives 10

-- "a setup value that could not have been accepted"
abbrev pub refusal15 : Setup → Ground
refusal15 s = not (accepted s) gives 15

-- "a store that does not fit"
abbrev pub refusal16 : Setup → Store → Ground
refusal16 s m = not (fits s m) gives 16

-- "Setup bytes: 1, 10, 2, 3, 4"
abbrev pub setup_order : SetupBytes → List Ground
setup_order b = refusal1 b ∷ refusal10 b ∷ refusal2 b ∷ refusal3 b ∷ refusal4 b ∷ []

unfoldable pub setup_refusal : SetupBytes → ℕ
setup_refusal b = first_of (setup_order b)

-- "Call: 15, 16, 5, 6, 7, 8, 9"
abbrev pub call_order : Setup → Store → Numbers → List Ground
call_order s m n =
    refusal15 s ∷ refusal16 s m ∷ refusal5 n ∷ refusal6 s n ∷ refusal7 s n ∷ refusal8 n ∷ refusal9 n ∷ []

unfoldable pub call_refusal : Setup → Store → Numbers → ℕ
call_refusal s m n = first_of (call_order s m n)

-- "Fresh store: 15"
unfoldable pub fresh_refusal : Setup → ℕ
fresh_refusal s = first_of (refusal15 s ∷ [])

-- what is judged of a setup and a store alone: a call's first two
unfoldable pub judge_refusal : Setup → Store → ℕ
judge_refusal s m = first_of (refusal15 s ∷ refusal16 s m ∷ [])

-- what is judged of a call once those were: its last five, which look at the setup and the call alone
abbrev pub numbers_order : Setup → Numbers → List Ground
numbers_order s n = refusal5 n ∷ refusal6 s n ∷ refusal7 s n ∷ refusal8 n ∷ refusal9 n ∷ []

unfoldable pub numbers_refusal : Setup → Numbers → ℕ
numbers_refusal s n = first_of (numbers_order s n)
