use Rattle.std.proofs.Common.{◌≡◌, ◌<◌, true, sym, subst, ◌∙◌}
use Rattle.worm_mesh.specs.Address.{node_count}
use Rattle.worm_region.specs.Workable.{owned}
use Rattle.worm_region.specs.declared.owner.Owner.{Owner}
use Rattle.worm_split.specs.Apart.{IsKept}
use Rattle.worm_split.specs.PartState.{PartState, part_state}
use Rattle.worm_split.proofs.OwnMoves.{inside_now, inside_prepared, part_with_net}
use Rattle.worm_split.proofs.part.Part.prepare.Goals as goal

pub invariant_of-self : goal.invariant_of-self
invariant_of-self c =
    let i = c.self.inside in
    let p : PartState = part_state i.region i.ends.items i.opening.value i.pairs.value.items in
    let here : owned p.net c.args.node ≡ true = (λ t. owned (c.self.view_is t).net c.args.node) ∙ c.requires.own in
    let there : c.args.node < node_count p.net.mesh =
    subst (λ (q : PartState). c.args.node < node_count q.net.mesh) (sym c.self.view_is) c.requires.node in
    let kept = inside_prepared p c.self.invariant.0 c.args.node here c.prepare.result p.net c.prepare.new.self there
    (inside_now p c.self.invariant.0) c.prepare.ensures.prepares in (
      part_with_net p c.self.invariant.0 c.prepare.new.self kept c.prepare.ensures.at_node.config,
      subst (λ (w : Owner). IsKept i.opening.value w i.kept) (sym c.prepare.ensures.at_node.config.own)
          c.self.invariant.1,
    )
