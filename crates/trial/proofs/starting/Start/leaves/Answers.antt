-- `trial::starting::Start::leaves` meets its contract, by what a comparison of stores tells.
use Rattle.trial.specs.Trials.{Leaves}
use Rattle.trial.proofs.Told.{store_told}
use Rattle.trial.proofs.starting.Start.leaves.Goals as goal

pub returns : goal.returns
unfolding Leaves
returns c =
    let told = store_told c.left_by.result c.args.left c.eq.result c.eq.ensures in
    rw c.left_by.ensures at told
