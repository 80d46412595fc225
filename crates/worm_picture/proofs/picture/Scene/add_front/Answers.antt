use Rattle.std.proofs.Common.{refl}
use Rattle.worm_picture.proofs.Names.{none_both, none_then, wrote_none}
use Rattle.worm_picture.proofs.picture.Scene.add_front.Goals as goal

pub returns : goal.returns
returns c =
    let style = wrote_none c.open.new.svg c.put.new.self _ c.in_ok-put.ensures (λ rest. refl) in
    none_then c.add_all_traces.result _ _ _ (none_both _ _ _ (none_both _ _ _ (none_both _ _ _ (none_both _ _ _
    (none_both _ _ _ c.in_ok-open.ensures style) c.in_ok-add_heading.ensures) c.in_ok-add_legend.ensures)
    c.in_ok-add_names.ensures) c.in_ok-add_grounds.ensures) c.add_all_traces.ensures
