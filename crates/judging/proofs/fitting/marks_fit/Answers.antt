-- `judging::fitting::marks_fit` meets its contract, mark by mark.
use Rattle.std.proofs.Common.{rules, ◌∙◌, length, get_or}
use Rattle.std.proofs.iter.runs.Made.{chains}
use Rattle.rules.specs.Stores.{mark_fits, marks_fit}
use Rattle.judging.proofs.Asked.{asked_all, every_table}
use Rattle.judging.proofs.fitting.marks_fit.Goals as goal

pub returns : goal.returns
unfolding marks_fit
returns c =
    let a = c.args in
    let marks = c.marks_of.result.now in
    asked_all (length marks) (λ p. mark_fits a.setup.now a.f p (get_or marks p 0)) _ (λ e k l. search (rules, chains)) (λ e. search (rules, chains))
    ∙ every_table _ _ (mark_fits a.setup.now a.f) _ c.marks_of.ensures
