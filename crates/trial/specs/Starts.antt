-- For inner functions: what the cases of the table start from, as the program holds it.
use Rattle.rules.specs.Setups.{SetupBytes}
use Rattle.rules.specs.Stores.{fresh_store}
use Rattle.rules.specs.Entries.{acceptance}
use Rattle.trial.specs.Trials.{setup_q, in_use}
use Rattle.trial.specs.declared.starting.Start.{Start}

-- a setup that is handed in, and the fresh store
abbrev pub fresh_on : SetupBytes → Start
fresh_on b = record { setup = (acceptance b).setup; store = fresh_store }

-- Q, and the store that is in use
abbrev pub q_in_use : Start
q_in_use = record { setup = (acceptance setup_q).setup; store = in_use }
