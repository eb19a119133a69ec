-- Laws of decoded numbers: what a decoded call is, and what running it answers.
-- Assumes nothing.
use Prim.Native.Nat.{ℕ, zero, suc}
use mathlib.Core.Path.{◌≡◌, refl, ◌∙◌, subst}
use mathlib.Core.Bool.{true}
use mathlib.Core.Logic.{◌≢◌}
use native.Mathlib.Nat.{lt_of_lt_of_le}
use native.Mathlib.Omega.{arith}
use Rattle.rules.specs.Setups.{accepted}
use Rattle.rules.specs.Calls.{call_of, answer_to, next_store}
use Rattle.rules.specs.Refusals.{call_refusal, judge_refusal, numbers_refusal}
use Rattle.rules.specs.Entries.{unless, decoded, called, ran}
use Rattle.rules.specs.declared.Numbers.{Numbers}
use Rattle.rules.specs.declared.Setup.{Setup}
use Rattle.rules.specs.declared.Store.{Store}
use Rattle.rules.specs.declared.Call.{Call}
use Rattle.rules.specs.declared.Answer.TheVariants.{Refused}
use Rattle.std.specs.Prelude.{Ok, Err}
use Rattle.rules.proofs.Codes.{InRange}
use Rattle.rules.proofs.Told.{unless_refused}
use Rattle.rules.proofs.Setups.{accepted_sizes}
use Rattle.rules.proofs.Refusals.{call_refusal-after, numbers_exist}
use Rattle.rules.proofs.Entries.{called_refused}

-- four numbers are a call exactly where no refusal is given for them
pub decoded_is : (s : Setup) (n : Numbers) (c : Call) → decoded s n ≡ Ok c → (numbers_refusal s n ≡ 0) × (call_of n ≡ c)
unfolding decoded
decoded_is s n c = go (numbers_refusal s n)
  where
    go : (r : ℕ) → unless r (Ok (call_of n)) (Err r) ≡ Ok c → (r ≡ 0) × (call_of n ≡ c)
    go zero e = (refl, cc)
    go (suc r) e = let z : ◌≡◌ {A = ℕ} 0 1 = cc in absurd (omega arith)

pub decoded-not : (s : Setup) (n : Numbers) (k : ℕ) → decoded s n ≡ Err k → (numbers_refusal s n ≡ k) × (k ≢ 0)
unfolding decoded
decoded-not s n k = go (numbers_refusal s n)
  where
    go : (r : ℕ) → unless r (Ok (call_of n)) (Err r) ≡ Err k → (r ≡ k) × (k ≢ 0)
    go zero e = let z : ◌≡◌ {A = ℕ} 0 1 = cc in absurd (omega arith)
    go (suc r) e = let same : suc r ≡ k = cc in (same, omega arith)

-- every number that a decoded call names lies inside the most of its kind
pub decoded_in_range : (s : Setup) (n : Numbers) (c : Call) → accepted s ≡ true → decoded s n ≡ Ok c → InRange c
decoded_in_range s n c a e =
    let d = decoded_is s n c e in
    let x = numbers_exist s n d.0 in
    let w = accepted_sizes s a in
    subst InRange d.1
    (record {
      process = lt_of_lt_of_le x.process w.of_processes.high;
      file = lt_of_lt_of_le x.file w.of_files.high;
      changed = lt_of_lt_of_le x.changed w.of_files.high;
    })

-- a decoded call is run, and numbers that are no call are answered with their refusal
pub ran_is : (s : Setup) (m : Store) (n : Numbers) (c : Call) → decoded s n ≡ Ok c → ran s m n ≡ record { answer = answer_to s m c; store = next_store s m c }
unfolding ran
ran_is s m n c e = let d = decoded_is s n c e in rw (d.0, d.1)

pub ran-not : (s : Setup) (m : Store) (n : Numbers) (k : ℕ) → decoded s n ≡ Err k → ran s m n ≡ record { answer = Refused k; store = m }
unfolding ran
ran-not s m n k e = let d = decoded-not s n k e in rw d.0 (unless_refused k _ _ d.1)

-- what is held against the setup or the store is the answer, whatever the call is
pub called_unjudged : (s : Setup) (m : Store) (n : Numbers) → judge_refusal s m ≢ 0 → called s m n ≡ record { answer = Refused (judge_refusal s m); store = m }
called_unjudged s m n h =
    let same : call_refusal s m n ≡ judge_refusal s m = call_refusal-after s m n ∙ unless_refused (judge_refusal s m) _ _ h in
    rw same at (called_refused s m n (rw same h))
