use Rattle.std.proofs.Common.{◌≡◌, ◌<◌, length, slice_set, subst, sym}
use Rattle.worm_term.specs.Source.{IsSource, SourceState, after_fed, source_state}
use Rattle.worm_term.proofs.Accepted.{fed_sound, fed_is, queue_is}
use Rattle.worm_term.proofs.Unfed.{put_unfed}
use Rattle.worm_term.proofs.source.Source.fed.Goals as goal

-- the class has a queue
there : (c : goal.After-put) → c.args.class < length c.args.self.now.queues
there c =
    let sound : IsSource c.args.self.now = subst IsSource c.self.view_is c.self.invariant.0 in
    subst (λ n. c.args.class < n) (sym sound.all_queues) c.requires.class

-- what stands in the lists is what is made of them
after : (c : goal.After-put) → source_state c.self.inside.node c.self.inside.nodes c.self.inside.classes
    (slice_set c.self.inside.queues.items c.from.result c.feed-has_more.new.self) c.self.inside.lanes.items
    ≡ after_fed c.args.self.now c.args.class
after c =
    fed_is _ c.args.self.now c.args.class c.from.result _ _ c.self.view_is c.from.ensures
    (queue_is _ c.args.self.now c.args.class c.from.result _ c.self.view_is c.from.ensures (there c)
    c.index_mut-queue.ensures.value) c.feed-has_more.ensures.after

pub returns : goal.returns
returns c = after c

pub invariant_of-self : goal.invariant_of-self
invariant_of-self c =
    let sound : IsSource c.args.self.now = subst IsSource c.self.view_is c.self.invariant.0 in
    let inside = subst (λ (s : SourceState). c.args.class < length s.queues) (sym c.self.view_is) (there c) in (
      subst IsSource (sym (after c)) (fed_sound c.args.self.now c.args.class sound (there c)),
      c.self.invariant.1,
      put_unfed c.self.inside.queues.items c.self.inside.unfed c.put.new.self c.from.result c.args.class
          c.feed-has_more.new.self c.feed-has_more.result c.self.invariant.2 c.from.ensures inside c.put.ensures
          c.feed-has_more.ensures.left,
    )
