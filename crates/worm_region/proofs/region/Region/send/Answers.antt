use Rattle.worm_region.specs.Replies.{Replies}
use Rattle.worm_region.specs.Workable.{IsWorkable}
use Rattle.worm_region.proofs.SendTried.{IsTried, is_tried}
use Rattle.worm_theory.specs.Steps.{Send}
use Rattle.worm_region.proofs.region.Region.send.Goals as goal
use Rattle.worm_region.proofs.region.Region.send.Goals.{After-self}

tried : (c : goal.After-self) → IsTried c.self.inside.fabric c.args.self.now c.args.node c.args.port c.args.vc
tried c =
    is_tried c.self.inside.fabric c.args.self.now c.args.node c.args.port c.args.vc c.self.view_is c.self.invariant
    c.requires.there c.requires.within

pub send-requires-clause-place : goal.send-requires-clause-place
send-requires-clause-place c = (tried (goal.at.send-requires-clause-place c).After-self).place

pub send-requires-clause-terminal : goal.send-requires-clause-terminal
send-requires-clause-terminal c = (tried (goal.at.send-requires-clause-terminal c).After-self).terminal

pub send-requires-clause-way : goal.send-requires-clause-way
send-requires-clause-way c = (tried (goal.at.send-requires-clause-way c).After-self).way

pub send-requires-clause-sink : goal.send-requires-clause-sink
send-requires-clause-sink c = (tried (goal.at.send-requires-clause-sink c).After-self).sink

-- what it leaves, and what its answer means
answered : (c : goal.After-send)
    → IsWorkable c.send.new.self
    × Replies c.args.self.now (Send c.args.node c.args.port c.args.vc) c.send.result c.send.new.self
answered c =
    (tried (goal.at.returns c).After-self).answers c.send.result c.send.new.self
    c.send.ensures

pub invariant_of-self : goal.invariant_of-self
invariant_of-self c = (answered c).0

pub returns : goal.returns
returns c = (answered c).1
