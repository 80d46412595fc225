use Rattle.std.proofs.Common.{subst, sym, ◌∙◌}
use Rattle.worm_mesh.specs.Address.{AreRadices}
use Rattle.worm_wires.proofs.Wired.{none_found, none_kept, no_links_there, ports_within}
use Rattle.worm_wires.proofs.wiring.Wiring.links_at.Goals as goal

pub returns-then-out-clause-there : goal.returns-then-out-clause-there
returns-then-out-clause-there c =
    let radices = subst AreRadices c.self.view_is c.nodes-nodes.ensures.mesh in
    none_found _
    (none_kept c.args.self.now c.args.node c.args.port radices (sym c.kept-out.ensures.value ∙ c.if-out.true))

pub returns-then-out-clause-value : goal.returns-then-out-clause-value
returns-then-out-clause-value c =
    let radices = subst AreRadices c.self.view_is c.nodes-nodes.ensures.mesh in
    sym (no_links_there c.args.self.now c.args.node c.args.port
    (none_kept c.args.self.now c.args.node c.args.port radices (sym c.kept-out.ensures.value ∙ c.if-out.true)))

pub returns-clause-bound : goal.returns-clause-bound
returns-clause-bound c =
    let radices = subst AreRadices c.self.view_is c.nodes-nodes.ensures.mesh in
    ports_within c.args.self.now c.args.node c.args.port c.links_by.result radices c.links_by.ensures
