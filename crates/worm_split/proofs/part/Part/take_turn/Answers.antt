use Rattle.std.proofs.Common.{List, Option, rules, subst}
use Rattle.std.specs.Result.{result_err}
use Rattle.worm_script.specs.Script.{due}
use Rattle.worm_region.specs.State.{IsFramed}
use Rattle.worm_region.specs.declared.fault.StepFault.{StepFault}
use Rattle.worm_script.specs.declared.entry.Entry.{Entry}
use Rattle.worm_script.specs.Script.{HaveWords}
use Rattle.worm_split.specs.PartState.{PartState}
use Rattle.worm_split.specs.PartTurns.{Turn}
use Rattle.worm_split.proofs.Effects.{turn-refused, turn-sinks, turn-sources}
use Rattle.worm_split.proofs.part.Part.take_turn.Given as given
use Rattle.worm_split.proofs.part.Part.take_turn.Goals as goal

module _ (g : given.Over) (c : goal.After-node_turns g) where
  abbrev old : PartState
  old = c.args.self.now

  abbrev entries : List Entry
  entries = due c.args.turn c.args.script.now

  abbrev fault : Option StepFault
  fault = result_err c.node_turns.result

  framed : IsFramed c.args.self.now.net
  framed = subst (λ (p : PartState). IsFramed p.net) c.self.view_is c.recall-2.ensures.framed

  words : HaveWords entries
  words = subst HaveWords c.due-due.ensures c.recall.ensures

pub returns-clause-exact : goal.returns-clause-exact
returns-clause-exact g c = search rules

pub returns-clause-sources : goal.returns-clause-sources
returns-clause-sources g c =
    let turned = subst (λ (es : List Entry). Turn es (old g c) (fault g c) c.node_turns.new.self) c.due-due.ensures
    c.node_turns.ensures.turn in
    turn-sources (old g c) (entries g c) (fault g c) c.node_turns.new.self (framed g c) (words g c) turned

pub returns-clause-sinks : goal.returns-clause-sinks
returns-clause-sinks g c =
    let turned = subst (λ (es : List Entry). Turn es (old g c) (fault g c) c.node_turns.new.self) c.due-due.ensures
    c.node_turns.ensures.turn in
    turn-sinks (old g c) (entries g c) (fault g c) c.node_turns.new.self (framed g c) (words g c) turned

pub returns-clause-refused : goal.returns-clause-refused
returns-clause-refused g c =
    let turned = subst (λ (es : List Entry). Turn es (old g c) (fault g c) c.node_turns.new.self) c.due-due.ensures
    c.node_turns.ensures.turn in
    turn-refused (old g c) (entries g c) (fault g c) c.node_turns.new.self (framed g c) (words g c) turned
