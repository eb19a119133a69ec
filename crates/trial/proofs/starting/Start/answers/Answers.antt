-- `trial::starting::Start::answers` meets its contract, by what the list's run promises.
use Rattle.std.proofs.Common.{rules}
use Rattle.trial.proofs.Told.{answers_told}
use Rattle.trial.proofs.starting.Start.answers.Goals as goal

pub returns : goal.returns
returns c =
    let ran = c.run-listed in
    answers_told _ _ _ _ _ _ _ c.is_ok_and-ran.result _ ran.ensures.value ran.ensures.room ran.auto.answers (search rules) c.holds.ensures
