use Rattle.worm_picture.proofs.Names.{none_both, none_then}
use Rattle.worm_picture.proofs.legend.add_heading.Goals as goal

pub returns : goal.returns
returns c =
    none_then c.close.result _ _ _ (none_both _ _ _ (none_both _ _ _ (none_both _ _ _ c.in_ok-open_scaled.ensures
    c.in_ok-add_run.ensures) c.in_ok-add_sums.ensures) c.in_ok-add_network.ensures) c.close.ensures
