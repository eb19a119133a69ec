-- What the entries *accept*, *fresh* and *call* answer, refusals too, each as one function of what it is handed.
use Rattle.std.specs.Prelude.{ℕ, zero, suc, Result, Ok, Err}
use Rattle.rules.specs.Setups.{SetupBytes, setup_from, blank_setup}
use Rattle.rules.specs.Stores.{fresh_store, misfit}
use Rattle.rules.specs.Calls.{call_of, answer_to, next_store}
use Rattle.rules.specs.Refusals.{setup_refusal, fresh_refusal, numbers_refusal, call_refusal, number_of}
use Rattle.rules.specs.declared.Numbers.{Numbers}
use Rattle.rules.specs.declared.Setup.{Setup}
use Rattle.rules.specs.declared.Store.{Store}
use Rattle.rules.specs.declared.Answer.TheVariants.{Refused}
use Rattle.rules.specs.declared.Call.{Call}
use Rattle.rules.specs.declared.refusal.Refusal.{Refusal}
use Rattle.rules.specs.declared.GivenSetup.{GivenSetup}
use Rattle.rules.specs.declared.GivenStore.{GivenStore}
use Rattle.rules.specs.declared.Called.{Called}

-- the first where no refusal was given, and the second where one was
abbrev pub unless {ℓ} : {A : Type ℓ} → ℕ → A → A → A
unless zero good refused = good
unless (suc n) good refused = refused

-- "A refusal hands back no new setup or store": a stand-in stands beside the number
unfoldable pub acceptance : SetupBytes → GivenSetup
acceptance b =
    let n = setup_refusal b in
    record { refusal = n; setup = unless n (setup_from b) blank_setup }

unfoldable pub freshness : Setup → GivenStore
freshness s =
    let n = fresh_refusal s in
    record { refusal = n; store = unless n fresh_store misfit }

-- how a result of the two is handed to another language: the number 0 beside what is given, the stand-in beside the refusal's number
abbrev pub given_setup : Result Setup Refusal → GivenSetup
given_setup (Ok setup) = record { refusal = 0; setup = setup }
given_setup (Err refusal) = record { refusal = number_of refusal; setup = blank_setup }

abbrev pub given_store : Result Store Refusal → GivenStore
given_store (Ok store) = record { refusal = 0; store = store }
given_store (Err refusal) = record { refusal = number_of refusal; store = misfit }

-- for the decoding, which is no entry: four numbers as a call, or their refusal
unfoldable pub decoded : Setup → Numbers → Result Call ℕ
decoded s n =
    let r = numbers_refusal s n in
    unless r (Ok (call_of n)) (Err r)

-- "A refused call leaves the store unchanged"
abbrev pub outcome : Setup → Store → Numbers → ℕ → Called
outcome s m n refusal =
    unless refusal
    (record { answer = answer_to s m (call_of n); store = next_store s m (call_of n) })
    (record { answer = Refused refusal; store = m })

unfoldable pub called : Setup → Store → Numbers → Called
called s m n = outcome s m n (call_refusal s m n)

-- a call on a setup and a store that were judged before, as a list of calls has it
unfoldable pub ran : Setup → Store → Numbers → Called
ran s m n = outcome s m n (numbers_refusal s n)
