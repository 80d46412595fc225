use Rattle.worm_region.proofs.PassIsGrants.{allocated_in}
use Rattle.worm_region.proofs.region.Region.allocate.Goals as goal

pub invariant_of-self : goal.invariant_of-self
invariant_of-self c =
    rw (c.grant_waiting-grants.ensures.after, c.router_mut.ensures.value)
    (allocated_in c.self.inside.fabric c.args.node c.self.invariant (rw (c.self.view_is) c.requires)).0

pub returns-clause-reaches : goal.returns-clause-reaches
returns-clause-reaches c =
    rw (c.grant_waiting-grants.ensures.after, c.router_mut.ensures.value, ← c.self.view_is)
    (allocated_in c.self.inside.fabric c.args.node c.self.invariant (rw (c.self.view_is) c.requires)).1
