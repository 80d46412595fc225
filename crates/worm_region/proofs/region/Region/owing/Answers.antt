use Rattle.std.proofs.Common.{◌<◌, subst, sym}
use Rattle.worm_mesh.specs.Address.{node_count}
use Rattle.worm_router.specs.Busy.{IsSetOf, OweByLinks, owes}
use Rattle.worm_region.specs.State.{NetState, router_at}
use Rattle.worm_node.specs.declared.node.Node.{Node}
use Rattle.worm_region.proofs.LowestGiven.{node_owes}
use Rattle.worm_region.proofs.region.Region.owing.Goals as goal

pub returns-clause-owing : goal.returns-clause-owing
returns-clause-owing c =
    subst (λ (s : NetState). IsSetOf owes (router_at s c.args.node) c.owing.result) c.self.view_is
    (subst (λ (n : Node). IsSetOf owes n.router c.owing.result) c.node.ensures c.owing.ensures.owing)

pub returns-clause-links : goal.returns-clause-links
returns-clause-links c =
    subst (λ (s : NetState). OweByLinks s.mesh c.args.node c.owing.result) c.self.view_is
    (node_owes c.self.inside.fabric c.args.node c.owing.result c.self.invariant
    (subst (λ (s : NetState). c.args.node < node_count s.mesh) (sym c.self.view_is) c.requires)
    (subst (λ (n : Node). OweByLinks n.router.mesh n.router.node c.owing.result) c.node.ensures c.owing.ensures.links))
