use Rattle.std.proofs.Common.{Ok, ap, subst, sym, ◌<◌, ◌∙◌}
use Rattle.worm_mesh.specs.Address.{node_count}
use Rattle.worm_theory.specs.Steps.{Feed, IsThere}
use Rattle.worm_region.specs.Shape.{net_shape}
use Rattle.worm_region.specs.State.{NetState, shape}
use Rattle.worm_region.specs.Workable.{IsWorkable}
use Rattle.worm_region.specs.Answers.{moved_of}
use Rattle.worm_region.proofs.ClassesCovered.{nth_channels}
use Rattle.worm_region.proofs.FeedAgrees.{nth_answers, nth_fits}
use Rattle.worm_region.proofs.ReachedBySteps.{replies_from, still_workable}
use Rattle.worm_region.proofs.region.Region.feed.Goals as goal

pub feed-requires-clause-front : goal.feed-requires-clause-front
unfolding net_shape
feed-requires-clause-front c =
    let same = ap (λ i. i.fabric) c.self-inside.view_is in
    nth_fits _ c.args.node c.args.class (subst IsWorkable (sym same) c.self.invariant)
    (subst (λ (s : NetState). IsThere (shape s) (Feed c.args.node c.args.class)) (sym (same ∙ c.self.view_is))
    (c.requires.node, c.requires.class))

pub feed-requires-clause-same : goal.feed-requires-clause-same
feed-requires-clause-same c =
    let same = ap (λ i. i.fabric) c.self-inside.view_is in
    nth_channels _ c.args.node (subst IsWorkable (sym same) c.self.invariant)
    (subst (λ (s : NetState). c.args.node < node_count s.mesh) (sym (same ∙ c.self.view_is)) c.requires.node)

pub invariant_of-self : goal.invariant_of-self
unfolding net_shape
invariant_of-self c =
    let same = ap (λ i. i.fabric) c.self-inside.view_is in
    let there = subst (λ (s : NetState). IsThere (shape s) (Feed c.args.node c.args.class))
    (sym (same ∙ c.self.view_is)) (c.requires.node, c.requires.class) in
    still_workable _ _ (Feed c.args.node c.args.class) (Ok (moved_of c.feed.result))
    (nth_answers _ c.args.node c.args.class (subst IsWorkable (sym same) c.self.invariant) there c.feed.result
    c.feed.new.self c.feed.ensures.enabled c.feed.ensures.after)

pub returns : goal.returns
unfolding net_shape
returns c =
    let same = ap (λ i. i.fabric) c.self-inside.view_is in
    let there = subst (λ (s : NetState). IsThere (shape s) (Feed c.args.node c.args.class))
    (sym (same ∙ c.self.view_is)) (c.requires.node, c.requires.class) in
    replies_from _ _ _ (Feed c.args.node c.args.class) (Ok (moved_of c.feed.result)) (same ∙ c.self.view_is)
    (nth_answers _ c.args.node c.args.class (subst IsWorkable (sym same) c.self.invariant) there c.feed.result
    c.feed.new.self c.feed.ensures.enabled c.feed.ensures.after).1
