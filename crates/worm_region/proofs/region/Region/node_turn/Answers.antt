use Rattle.std.proofs.Common.{None}
use Rattle.std.specs.Result.{result_err}
use Rattle.worm_region.specs.Replies.{Attempts}
use Rattle.worm_region.specs.Turns.{Does, AsksSourceBy, NodePassesBy}
use Rattle.worm_region.proofs.Passages.{does_then}
use Rattle.worm_region.proofs.TurnInParts.{asks_none}
use Rattle.worm_region.proofs.ReachedBySteps.{whole_after}
use Rattle.worm_region.proofs.region.Region.node_turn.Goals as goal
use Rattle.worm_region.proofs.region.Region.node_turn.Goals.{then-is_asked+in_ok-ask_source, else-is_asked}

pub returns : goal.returns
returns c =
    let asked : Does (AsksSourceBy Attempts c.args.entries.now c.args.node) c.args.self.now None c.if-is_asked.self =
    elim c.if-is_asked.branch [
      | then-is_asked+in_ok-ask_source w ↦ rw w.self-is w.in_ok-ask_source.ensures.does
      | else-is_asked w ↦
          rw w.self-is (asks_none c.args.node c.args.entries.now c.args.self.now
          (c.requires.asked w.if-is_asked.false))
    ] in
    does_then (AsksSourceBy Attempts c.args.entries.now c.args.node)
    (NodePassesBy Attempts c.args.node) c.args.self.now c.if-is_asked.self c.node_passes.new.self
    (result_err c.node_passes.result) asked c.node_passes.ensures

pub node_passes-requires-clause-whole : goal.node_passes-requires-clause-whole
node_passes-requires-clause-whole c = elim c.if-is_asked.branch [
  | then-is_asked+in_ok-ask_source w ↦
      rw w.self-is (whole_after c.args.self.now w.ask_source.new.self w.in_ok-ask_source.ensures.does.reaches.config
      c.requires.whole)
  | else-is_asked w ↦ rw w.self-is c.requires.whole
]
