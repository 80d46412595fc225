use Rattle.std.proofs.Common.{◌≡◌, length, subst, sym}
use Rattle.worm_region.specs.State.{NetState}
use Rattle.worm_node.specs.Node.{AreToFeed}
use Rattle.worm_region.specs.Moves.{Covers, NoFeed}
use Rattle.worm_node.specs.declared.node.Node.{Node}
use Rattle.worm_region.proofs.ClassesCovered.{same_channels, unfed_cover}
use Rattle.worm_region.proofs.region.Region.unfed.Goals as goal

pub unfed-requires : goal.unfed-requires
unfed-requires c =
    subst (λ (n : Node). n.source.channels ≡ n.router.channels) (sym c.node.ensures)
    (same_channels c.self.inside.fabric c.args.node c.self.invariant (rw c.self.view_is c.requires))

pub returns-clause-classes : goal.returns-clause-classes
returns-clause-classes c =
    let set = c.unfed.result in
    let x = c.args.node in
    subst (λ (s : NetState). Covers (NoFeed s x) (length s.channels) set) c.self.view_is
    (unfed_cover c.self.inside.fabric x set c.self.invariant (rw c.self.view_is c.requires)
    (subst (λ (n : Node). AreToFeed n set) c.node.ensures c.unfed.ensures))
