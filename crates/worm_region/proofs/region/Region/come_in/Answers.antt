use Rattle.std.proofs.Common.{None}
use Rattle.worm_region.specs.Replies.{Attempts}
use Rattle.worm_region.specs.Turns.{◌and_then◌, ComesInBy, Does, FeedsClassesBy, RoutesChannelsBy, TakesCreditsBy}
use Rattle.worm_region.specs.Turns.{TakesFlitsBy}
use Rattle.worm_region.proofs.Passages.{does_then}
use Rattle.worm_region.proofs.StaysAtNode.{comes_at}
use Rattle.worm_region.proofs.region.Region.come_in.Goals as goal
use Rattle.worm_region.proofs.region.Region.come_in.Goals.{After-route_channels}

-- credits, flits, what is fed and the routes, one after the other
came : (c : After-route_channels) → Does (ComesInBy Attempts c.args.node) c.args.self.now None c.route_channels.new.self
came c =
    let x = c.args.node in
    let routes = RoutesChannelsBy Attempts x in
    let feeds = FeedsClassesBy Attempts x and_then routes in
    let new = c.route_channels.new.self in
    let fed = does_then (FeedsClassesBy Attempts x) routes c.take_flits.new.self c.feed_classes.new.self new None
    c.feed_classes.ensures c.route_channels.ensures in
    let taken = does_then (TakesFlitsBy Attempts x) feeds c.take_credits.new.self c.take_flits.new.self new None
    c.take_flits.ensures fed in
    does_then (TakesCreditsBy Attempts x) (TakesFlitsBy Attempts x and_then feeds) c.args.self.now
    c.take_credits.new.self new None c.take_credits.ensures taken

pub returns-clause-does : goal.returns-clause-does
returns-clause-does c = came (goal.at.returns-clause-does c).After-route_channels

pub returns-clause-at_node : goal.returns-clause-at_node
returns-clause-at_node c =
    comes_at c.args.node c.args.self.now c.route_channels.new.self None
    (came (goal.at.returns-clause-at_node c).After-route_channels).exact
