-- Laws of the call that four numbers are: its process, its files, its place in the table, and what it is to exist.
-- Assumes nothing.
use Prim.Native.Nat.{ℕ, ◌+◌, ◌-◌, ◌<◌}
use mathlib.Core.Path.{◌≡◌, refl, sym, ◌∙◌, subst}
use mathlib.Core.List.{[], ◌∷◌, map}
use mathlib.Core.Option.{some}
use native.Mathlib.Omega.{arith}
use lib.ListN.{length, get_or, get_elem?, replicate, get_or-map}
use Rattle.rules.specs.Sizes.{most_processes, most_files}
use Rattle.rules.specs.Calls.{numbers, numbers_for, calls, first_code, last_code, call_of}
use Rattle.rules.specs.Calls.{code_of_read, code_of_write, code_of_lock, code_of_unlock, code_of_open, code_of_close, code_of_testlock, code_of_copy}
use Rattle.rules.specs.Parts.{process_of, file_of, changeable}
use Rattle.rules.specs.declared.Numbers.{Numbers}
use Rattle.rules.specs.declared.Setup.{Setup}
use Rattle.rules.specs.declared.Call.{Call}
use Rattle.rules.specs.declared.Call.TheVariants.{Read, Write, Lock, Unlock, Open, Close, Testlock, Copy}
use Rattle.rules.proofs.Lists.{set_holds, get_or-alike, get_or_by_option}

-- a call's process exists, and so does each file that it names
pub record Exists (s : Setup) (c : Call) : Type 0 where
  pub process : process_of c < s.processes
  pub file : file_of c < s.files
  pub changed : changeable c < s.files

-- every number that a call names lies inside the most of its kind
pub record InRange (c : Call) : Type 0 where
  pub process : process_of c < most_processes
  pub file : file_of c < most_files
  pub changed : changeable c < most_files

-- a part of the call that numbers are is that part of the call of their code
call_of_part : (part : Call → ℕ) (n : Numbers) → get_or (map part (calls n.process n.file n.extra)) (n.operation - first_code) (part (Read n.process n.file)) ≡ part (call_of n)
unfolding call_of
call_of_part part n = get_or-map part (calls n.process n.file n.extra) (n.operation - first_code) (Read n.process n.file)

-- the second number is the call's process, and the third its file f
pub process_of-call_of : (n : Numbers) → process_of (call_of n) ≡ n.process
process_of-call_of n = sym (call_of_part process_of n) ∙ get_or-alike last_code (n.operation - first_code) n.process

pub file_of-call_of : (n : Numbers) → file_of (call_of n) ≡ n.file
file_of-call_of n = sym (call_of_part file_of n) ∙ get_or-alike last_code (n.operation - first_code) n.file

-- what holds of the third number, and of the fourth for COPY, holds of the file that the call can change
pub changeable_holds {ℓ} : (P : ℕ → Type ℓ) (n : Numbers) → P n.file → (n.operation ≡ code_of_copy → P n.extra) → P (changeable (call_of n))
changeable_holds P n h k =
    subst P (call_of_part changeable n)
    (set_holds P (replicate last_code n.file) (code_of_copy - first_code) (n.operation - first_code) n.extra n.file
    (subst P (sym (get_or-alike last_code (n.operation - first_code) n.file)) h) (λ e. k (omega arith)))

-- the codes are as many as the calls
pub calls-length : (p f x : ℕ) → length (calls p f x) ≡ last_code
calls-length p f x = refl

-- the call of a code is the one that stands in the list at the code's place
pub call_of-at : (n : Numbers) (k : ℕ) → k < last_code → n.operation ≡ first_code + k → get_elem? (calls n.process n.file n.extra) k ≡ some (call_of n)
unfolding call_of
call_of-at n k l e =
    let place : n.operation - first_code ≡ k = omega arith in
    rw place (get_or_by_option (calls n.process n.file n.extra) k (Read n.process n.file) l)

-- so each code's name is that of its call
pub codes_named : (p f x : ℕ)
    → call_of (numbers code_of_read p f x)
    ∷ call_of (numbers code_of_write p f x)
    ∷ call_of (numbers code_of_lock p f x)
    ∷ call_of (numbers code_of_unlock p f x)
    ∷ call_of (numbers code_of_open p f x)
    ∷ call_of (numbers code_of_close p f x)
    ∷ call_of (numbers code_of_testlock p f x)
    ∷ call_of (numbers code_of_copy p f x)
    ∷ []
    ≡ calls p f x
unfolding call_of
codes_named p f x = refl

-- the numbers of a call name its process and its file
pub numbers_process : (call : Call) → (numbers_for call).process ≡ process_of call
numbers_process (Read p f) = refl
numbers_process (Write p f x) = refl
numbers_process (Lock p f) = refl
numbers_process (Unlock p f) = refl
numbers_process (Open p f) = refl
numbers_process (Close p f) = refl
numbers_process (Testlock p f) = refl
numbers_process (Copy p f x) = refl

pub numbers_file : (call : Call) → (numbers_for call).file ≡ file_of call
numbers_file (Read p f) = refl
numbers_file (Write p f x) = refl
numbers_file (Lock p f) = refl
numbers_file (Unlock p f) = refl
numbers_file (Open p f) = refl
numbers_file (Close p f) = refl
numbers_file (Testlock p f) = refl
numbers_file (Copy p f x) = refl
