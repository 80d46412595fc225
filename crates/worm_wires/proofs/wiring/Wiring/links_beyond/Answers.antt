use Rattle.std.proofs.Common.{subst}
use Rattle.worm_mesh.specs.Address.{AreRadices}
use Rattle.worm_wires.proofs.Wired.{numbers_there, port_there, ports_within}
use Rattle.worm_wires.proofs.wiring.Wiring.links_beyond.Goals as goal

pub returns-clause-bound : goal.returns-clause-bound
returns-clause-bound c =
    let radices = subst AreRadices c.self.view_is c.nodes-nodes.ensures.mesh in
    (ports_within c.args.self.now c.args.node c.args.port c.links_by.result radices c.links_by.ensures).0

pub returns-clause-out : goal.returns-clause-out
returns-clause-out c = (numbers_there c.args.self.now c.args.node c.args.port c.links_by.result c.links_by.ensures).0

pub returns-clause-into : goal.returns-clause-into
returns-clause-into c = (numbers_there c.args.self.now c.args.node c.args.port c.links_by.result c.links_by.ensures).1

pub returns-clause-back : goal.returns-clause-back
returns-clause-back c =
    let radices = subst AreRadices c.self.view_is c.nodes-nodes.ensures.mesh in
    (ports_within c.args.self.now c.args.node c.args.port c.links_by.result radices c.links_by.ensures).1

pub returns-clause-mesh_port : goal.returns-clause-mesh_port
returns-clause-mesh_port c =
    let radices = subst AreRadices c.self.view_is c.nodes-nodes.ensures.mesh in
    port_there c.args.self.now c.args.node c.args.port radices c.requires
