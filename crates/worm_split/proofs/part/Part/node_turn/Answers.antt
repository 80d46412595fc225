use Rattle.std.proofs.Common.{inr}
use Rattle.worm_split.proofs.PartLoops.{same_on}
use Rattle.worm_split.proofs.Sharing.{still_shared}
use Rattle.worm_split.proofs.part.Part.node_turn.Goals as goal

pub pull_credits-requires-clause-shared : goal.pull_credits-requires-clause-shared
pull_credits-requires-clause-shared g c =
    still_shared c.args.self.now c.ask_source.new.self c.args.shared c.in_ok-ask_source.ensures.same c.requires.shared

pub pull_flits-requires-clause-shared : goal.pull_flits-requires-clause-shared
pull_flits-requires-clause-shared g c =
    still_shared c.args.self.now c.pull_credits.new.self c.args.shared
    (same_on c.args.self.now c.ask_source.new.self c.pull_credits.new.self c.in_ok-ask_source.ensures.same
    c.pull_credits.ensures.same) c.requires.shared

pub returns-clause-turn : goal.returns-clause-turn
returns-clause-turn g c =
    inr (
      c.ask_source.new.self,
      c.in_ok-ask_source.ensures.asks,
      inr (
        c.pull_credits.new.self,
        c.pull_credits.ensures.pulls,
        inr (c.pull_flits.new.self, c.pull_flits.ensures.pulls, c.node_passes.ensures.passes),
      ),
    )
