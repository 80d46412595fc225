use Rattle.worm_picture.proofs.Names.{none_both, none_then}
use Rattle.worm_picture.proofs.counts.add_counts.Goals as goal

pub returns : goal.returns
returns c =
    none_then c.add_arrived.result _ _ _ (none_both _ _ _ c.in_ok-add_waiting.ensures c.in_ok-add_number.ensures)
    c.add_arrived.ensures
