-- Laws of a refusal's number: it is never the 0 of none, so a result says by its number whether it was refused, and with what.
-- Assumes nothing.
use Rattle.std.specs.Prelude.{◌≡◌, ℕ, Ok, Err}
use Rattle.std.proofs.Common.{refl, sym}
use Rattle.rules.specs.Refusals.{number_of, numbered}
use Rattle.rules.specs.Entries.{unless}
use Rattle.rules.specs.declared.refusal.Refusal.{Refusal}
use Rattle.rules.specs.declared.refusal.Refusal.TheVariants.{CountOutside, RightAbove, NoSuchDesk, NoSuchClass, NoSuchOperation, NoSuchProcess, NoSuchFile, ExtraGiven, CopyOntoItself, WrongLength, TooLittleRoom, NoSuchRouteDesk, SameDesk, BreaksRules, NotAccepted, DoesNotFit}

-- what is refused by its number is not given
pub unless_number {ℓ} : {A : Type ℓ} (r : Refusal) (good refused : A) → unless (number_of r) good refused ≡ refused
unless_number CountOutside good refused = refl
unless_number RightAbove good refused = refl
unless_number NoSuchDesk good refused = refl
unless_number NoSuchClass good refused = refl
unless_number NoSuchOperation good refused = refl
unless_number NoSuchProcess good refused = refl
unless_number NoSuchFile good refused = refl
unless_number ExtraGiven good refused = refl
unless_number CopyOntoItself good refused = refl
unless_number WrongLength good refused = refl
unless_number TooLittleRoom good refused = refl
unless_number NoSuchRouteDesk good refused = refl
unless_number SameDesk good refused = refl
unless_number BreaksRules good refused = refl
unless_number NotAccepted good refused = refl
unless_number DoesNotFit good refused = refl

-- the same where the number is known by another name
pub unless_numbered {ℓ} : {A : Type ℓ} (r : Refusal) (n : ℕ) (good refused : A) → number_of r ≡ n → unless n good refused ≡ refused
unless_numbered r n good refused e = rw (sym e) (unless_number r good refused)

-- so a result is refused exactly with what its number says
pub numbered_refused : {A : Type 0} (r : Refusal) (n : ℕ) (good : A) → number_of r ≡ n → numbered {A = A} (Err r) ≡ unless n (Ok good) (Err n)
numbered_refused r n good e = rw (sym e) (sym (unless_number r _ _))

pub numbered_given : {A : Type 0} (n : ℕ) (good : A) → 0 ≡ n → numbered (Ok good) ≡ unless n (Ok good) (Err n)
numbered_given n good e = rw (sym e) refl
