use Rattle.std.proofs.Common.{ℕ, List, ap, arith, length, subst, sym, ◌∙◌}
use Rattle.worm_region.specs.State.{IsFramed, NetState}
use Rattle.worm_node.specs.Node.{HasClasses}
use Rattle.worm_region.specs.UnderWay.{HaveClasses}
use Rattle.worm_region.proofs.FrameKept.{is_nth}
use Rattle.worm_region.proofs.region.Region.count_under_way.Goals as goal

-- each source has a queue for each of the network's classes
have_classes : (s : NetState) → IsFramed s → HaveClasses (length s.channels) s.nodes
have_classes s framed = λ x there.
    let all = framed.all_nodes in
    let node = framed.each_node x there in
    let classes = ap (λ (cs : List ℕ). length cs) node.source_channels in
    subst (HasClasses (length s.channels)) (sym (is_nth s x framed (omega arith)))
    (record { classes = classes; queues = node.source_holds.all_queues ∙ classes })

pub count_under_way-requires : goal.count_under_way-requires
count_under_way-requires c =
    subst (λ (s : NetState). HaveClasses c.classes-classes.result s.nodes)
    (sym (ap (λ i. i.fabric) c.self-inside.view_is))
    (rw c.classes-classes.ensures.value (have_classes c.self.inside.fabric c.self.invariant.framed))
