use Rattle.std.proofs.Common.{ℕ, Some, ◌+◌, ◌%◌, get_or, ap, arith, subst, ◌∙◌}
use Rattle.worm_mesh.specs.Address.{AreRadices}
use Rattle.worm_wires.proofs.StepsAdd.{stepped}
use Rattle.worm_wires.proofs.wiring.Wiring.beyond.Goals as goal

pub returns : goal.returns
returns c =
    let radices = subst AreRadices c.self.view_is c.nodes-nodes.ensures.mesh in
    ap (λ (i : ℕ). Some ((c.args.node + get_or c.self.inside.steps i 0) % 256)) c.from.ensures
    ∙ stepped c.self.inside.mesh c.args.self.now c.self.inside.steps c.args.node c.args.port
    c.self.invariant.steps_by c.self.view_is radices c.requires (omega arith)
