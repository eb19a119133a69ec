-- `judging::fitting::store_fits` meets its contract, file by file.
use Rattle.std.proofs.Common.{rules, refl}
use Rattle.std.proofs.lemmas.Iterator.{YieldsList-from_range}
use Rattle.std.proofs.lemmas.Iterator.Search.{all_from_yields_List}
use Rattle.rules.specs.Sizes.{most_files}
use Rattle.rules.specs.Stores.{holder_of, content_of, mark_of, file_fits, fits}
use Rattle.judging.proofs.Asked.{asked_below}
use Rattle.judging.proofs.fitting.store_fits.Goals as goal

pub returns : goal.returns
unfolding fits
returns c =
    let s = c.args.setup.now in
    let m = c.args.store.now in
    asked_below _ _ _
    (all_from_yields_List (λ f. file_fits s f (holder_of m f) (content_of m f) (mark_of m f)) _ _ _ c.all.ensures.ran (YieldsList-from_range 0 most_files most_files refl refl)
    (λ x b q k. search rules))
