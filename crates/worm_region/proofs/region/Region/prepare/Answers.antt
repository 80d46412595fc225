use Rattle.std.proofs.Common.{subst}
use Rattle.worm_region.specs.State.{NetState}
use Rattle.worm_region.specs.Turns.{Chooses}
use Rattle.worm_region.specs.Workable.{IsWorkable}
use Rattle.worm_region.proofs.StaysAtNode.{joined_at}
use Rattle.worm_region.proofs.region.Region.prepare.Goals as goal

pub returns-clause-prepares : goal.returns-clause-prepares
returns-clause-prepares c = record {
  came = c.come_in.new.self;
  comes = c.come_in.ensures.does.exact;
  chooses = subst (λ (s : NetState). Chooses c.args.node c.choose.result s c.choose.new.self) c.allocate.ensures.after
      c.choose.ensures.chooses;
  workable = c.recall.ensures;
  still_workable = subst IsWorkable c.allocate.ensures.after c.recall-2.ensures;
}

pub returns-clause-at_node : goal.returns-clause-at_node
returns-clause-at_node c =
    let came = joined_at c.args.node c.args.self.now c.come_in.new.self c.allocate.new.self c.come_in.ensures.at_node
    c.allocate.ensures.reaches in
    joined_at c.args.node c.args.self.now c.allocate.new.self c.choose.new.self came c.choose.ensures.reaches
