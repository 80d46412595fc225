use Rattle.std.proofs.Common.{refl, subst, ◌<◌}
use Rattle.worm_mesh.specs.Address.{node_count}
use Rattle.worm_theory.specs.Steps.{CloseLane, IsThere}
use Rattle.worm_region.specs.Shape.{net_shape}
use Rattle.worm_region.specs.State.{NetState, shape, with_source}
use Rattle.worm_region.specs.Workable.{IsWorkable}
use Rattle.worm_region.specs.Answers.{accepted_of}
use Rattle.worm_region.specs.Replies.{Replies}
use Rattle.worm_region.proofs.OfferAgrees.{close_answers}
use Rattle.worm_region.proofs.ReachedBySteps.{replies_from, still_workable}
use Rattle.worm_region.proofs.region.Region.close.Goals as goal
use Rattle.worm_region.proofs.region.Region.close.Goals.{After-close}

pub returns-then-not-has_node-clause-replies : goal.returns-then-not-has_node-clause-replies
unfolding net_shape
returns-then-not-has_node-clause-replies c = (
  subst (λ (s : NetState). IsThere (shape s) (CloseLane c.args.node c.args.lane) →
      ⊥) c.self.view_is
      (λ there. let found = c.has_node.ensures.1 there in let missing = c.if-not-has_node.true in absurd (cc)),
  refl,
)

-- the region's lists after it
made : (c : goal.After-close) → c.args.node < node_count c.self.inside.fabric.mesh
    → IsWorkable (with_source c.self.inside.fabric c.args.node c.close.new.self)
    × Replies c.self.inside.fabric (CloseLane c.args.node c.args.lane)
    (accepted_of c.close.result) (with_source c.self.inside.fabric c.args.node c.close.new.self)
unfolding net_shape
made c there =
    let s = c.self.inside.fabric in
    let step = CloseLane c.args.node c.args.lane in
    let a = close_answers s c.args.node c.self.invariant c.args.lane there c.close.result
    c.source_mut.result.now c.close.new.self c.source_mut.ensures.value c.close.ensures.answer in
    (still_workable s _ step (accepted_of c.close.result) a, a.1)

pub invariant_of-self : goal.invariant_of-self
invariant_of-self c = (made (goal.at.invariant_of-self c).After-close
    (c.has_node.ensures.0 c.if-not-has_node.false)).0

pub returns-clause-replies : goal.returns-clause-replies
returns-clause-replies c =
    let a = (made (goal.at.returns-clause-replies c).After-close (c.has_node.ensures.0 c.if-not-has_node.false)).1 in
    rw c.accepted.ensures.value (replies_from _ _ _ (CloseLane c.args.node c.args.lane)
    (accepted_of c.close.result) c.self.view_is a)
