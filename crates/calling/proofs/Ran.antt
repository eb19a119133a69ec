-- What a call comes to where the setup, the store or its numbers are refused and where they are not, by what the callees promise.
-- Assumes nothing.
use mathlib.Core.Path.{◌≡◌, sym, ◌∙◌}
use mathlib.Core.Bool.{true}
use Rattle.std.specs.Prelude.{Err}
use Rattle.rules.specs.Setups.{accepted}
use Rattle.rules.specs.Refusals.{number_of, judge_refusal, call_refusal}
use Rattle.rules.specs.Entries.{decoded, called, ran}
use Rattle.rules.specs.declared.Numbers.{Numbers}
use Rattle.rules.specs.declared.Setup.{Setup}
use Rattle.rules.specs.declared.Store.{Store}
use Rattle.rules.specs.declared.Answer.TheVariants.{Refused}
use Rattle.rules.specs.declared.refusal.Refusal.{Refusal}
use Rattle.rules.proofs.Refusals.{judge_refusal_iff, call_refusal-after}
use Rattle.rules.proofs.RefusalNumbers.{unless_number}
use Rattle.rules.proofs.Decodes.{ran-not}
use Rattle.rules.proofs.Entries.{called-judged}

module _ (s : Setup) (m : Store) (n : Numbers) where
  -- numbers that are refused are answered so, and change nothing
  pub ran_refused : (r : Refusal) → Err (number_of r) ≡ decoded s n → ran s m n ≡ record { answer = Refused (number_of r); store = m }
  ran_refused r e = ran-not s m n (number_of r) (sym e)

  -- what is held against the setup or the store is the answer, whatever the call is
  pub called_refused_by : (r : Refusal) → number_of r ≡ judge_refusal s m → called s m n ≡ record { answer = Refused (number_of r); store = m }
  unfolding called
  called_refused_by r e =
      let same : call_refusal s m n ≡ number_of r = call_refusal-after s m n ∙ rw (sym e) (unless_number r _ _) in
      rw same (unless_number r _ _)

  -- and where nothing is, the call is run
  pub called_ran : 0 ≡ judge_refusal s m → called s m n ≡ ran s m n
  called_ran e = called-judged s m n (sym e)

pub accepted_by : (s : Setup) (m : Store) → 0 ≡ judge_refusal s m → accepted s ≡ true
accepted_by s m e = ((judge_refusal_iff s m).0 (sym e)).0
