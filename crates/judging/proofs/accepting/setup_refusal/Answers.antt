-- `judging::accepting::setup_refusal` meets its contract: the counts lie inside their sizes once 1 is ruled out; the order is found.
use Rattle.rules.proofs.Told.{known}
use Rattle.rules.proofs.Setups.{within_sizes_iff}
use Rattle.judging.proofs.accepting.setup_refusal.Goals as goal

pub slices_match-requires : goal.slices_match-requires
slices_match-requires c =
    let w = (within_sizes_iff _ _ _ _).0 (known c.within_sizes.ensures c.if-not-within_sizes.false) in
    (w.of_desks.high, w.of_classes.high)
