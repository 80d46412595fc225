use Rattle.worm_node.proofs.ToFeed.{to_feed}
use Rattle.worm_node.proofs.node.Node.unfed.Goals as goal

pub returns : goal.returns
returns c =
    to_feed c.args.self.now c.unfed.result c.unfilled.result c.requires c.unfed.ensures c.unfilled.ensures.within
    c.unfilled.ensures.full
