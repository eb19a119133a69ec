-- `judging::fitting::file_is_blank` meets its contract: each mark is 0.
use Rattle.std.proofs.Common.{rules, ◌≡◌, ◌∙◌, length, get_or}
use Rattle.std.proofs.iter.runs.Made.{chains}
use lib.Dec.{eqb}
use Rattle.rules.specs.Sizes.{most_processes, every}
use Rattle.rules.specs.Stores.{mark_of, file_is_blank}
use Rattle.judging.proofs.Asked.{asked_all, every_table}
use Rattle.judging.proofs.fitting.file_is_blank.Goals as goal

pub returns : goal.returns
unfolding file_is_blank
returns c =
    let a = c.args in
    let marks = c.marks_of.result.now in
    let shut : c.all.result ≡ every most_processes (λ p. eqb (mark_of a.store.now a.f p) 0) =
    asked_all (length marks) (λ p. eqb (get_or marks p 0) 0) _ (λ e k l. search (rules, chains)) (λ e. search (rules, chains))
    ∙ every_table _ _ (λ p mark. eqb mark 0) _ c.marks_of.ensures in
    simp (shut, c.is_blank.ensures)
