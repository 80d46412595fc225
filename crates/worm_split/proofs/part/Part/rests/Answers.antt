use Rattle.std.proofs.Common.{◌<◌, None, sym, subst}
use Rattle.worm_mesh.specs.Address.{node_count}
use Rattle.worm_split.specs.PartState.{PartState, part_state}
use Rattle.worm_split.specs.PartTurns.{NodePasses}
use Rattle.worm_split.proofs.AtRest.{part_rests}
use Rattle.worm_split.proofs.part.Part.rests.Goals as goal

pub returns-clause-passes : goal.returns-clause-passes
returns-clause-passes c = λ yes.
    let i = c.self.inside in
    let p : PartState = part_state i.region i.ends.items i.opening.value i.pairs.value.items in
    let there : c.args.node < node_count p.net.mesh =
    subst (λ (q : PartState). c.args.node < node_count q.net.mesh) (sym c.self.view_is) c.requires in
    subst (λ (q : PartState). NodePasses c.args.node q None q) c.self.view_is
    (part_rests p c.args.node c.recall.ensures there (c.rests.ensures.rest yes) (c.rests.ensures.comes yes))
