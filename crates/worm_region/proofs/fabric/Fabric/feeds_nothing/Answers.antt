use Rattle.std.proofs.Common.{◌≡◌, ◌<◌, false, length, inl, inr, arith, sym, subst}
use Rattle.worm_router.specs.Router.{terminal}
use Rattle.worm_term.specs.Source.{front_of}
use Rattle.worm_theory.proofs.Places.{number_cases}
use Rattle.worm_region.specs.Shape.{net_shape}
use Rattle.worm_region.specs.State.{NetState}
use Rattle.worm_node.specs.Node.{can_enter}
use Rattle.worm_node.specs.declared.node.Node.{Node}
use Rattle.worm_region.proofs.FeedAgrees.{feed_fits}
use Rattle.worm_region.proofs.fabric.Fabric.feeds_nothing.Goals as goal

pub can_feed-requires-clause-front : goal.can_feed-requires-clause-front
unfolding net_shape
can_feed-requires-clause-front c =
    let all : c.classes-class-end.result ≡ length c.args.self.now.channels =
    subst (λ (s : NetState). c.classes-class-end.result ≡ length s.channels) c.self.view_is
    c.classes-class-end.ensures.value in
    let below : c.loop-class.class < length c.args.self.now.channels = let test = c.loop-class-test.true in
    omega arith in
    rw c.node-here.ensures (feed_fits c.args.self.now c.args.node c.loop-class.class c.requires.sound (
      c.requires.node,
      below,
    ))

pub loop-class-preserved : goal.loop-class-preserved
loop-class-preserved c = λ k below. elim (number_cases k c.loop-class.class) [
  | inl here ↦
      rw here.1 (subst (λ (n : Node). can_enter n.router (terminal n.router) (front_of n.source c.loop-class.class)
      ≡ false) c.node-here.ensures (sym c.if-can_feed.ensures))
  | inr away ↦ let other = away.1 in c.loop-class.invariant k (omega arith)
]

pub returns : goal.returns
returns c = λ yes k below.
    let all : c.classes-class-end.result ≡ length c.args.self.now.channels =
    subst (λ (s : NetState). c.classes-class-end.result ≡ length s.channels) c.self.view_is
    c.classes-class-end.ensures.value in
    c.loop-class.invariant k (let ended = c.loop-class-test.false in omega arith)
