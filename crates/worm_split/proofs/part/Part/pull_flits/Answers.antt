use Rattle.std.proofs.Common.{◌≡◌, ◌<◌, ℕ, List, true, sym, subst}
use Rattle.worm_mesh.specs.Address.{node_count}
use Rattle.worm_region.specs.Owned.{owned_by}
use Rattle.worm_region.specs.declared.owner.Owner.{Owner}
use Rattle.worm_split.specs.PartTurns.{PullsFlit}
use Rattle.worm_split.proofs.PortsAsked.{asked_all, asked_more, asked_start, asks_flits}
use Rattle.worm_split.proofs.part.Part.pull_flits.Goals as goal

pub loop-port-init : goal.loop-port-init
loop-port-init c = asked_start (PullsFlit c.args.node) (asks_flits c.args.node) c.args.self.now c.args.shared

pub pull_flit-requires-clause-node : goal.pull_flit-requires-clause-node
pull_flit-requires-clause-node c = subst (λ (ks : List ℕ). c.args.node < node_count ks)
    (sym c.loop-port.invariant.done.same.config.mesh) c.requires.node

pub pull_flit-requires-clause-own : goal.pull_flit-requires-clause-own
pull_flit-requires-clause-own c = subst (λ (w : Owner). owned_by w c.args.node ≡ true)
    (sym c.loop-port.invariant.done.same.config.own) c.requires.own

pub loop-port-preserved : goal.loop-port-preserved
loop-port-preserved c =
    asked_more (PullsFlit c.args.node) (asks_flits c.args.node) c.args.self.now c.loop-port.self
    c.pull_flit.new.self c.loop-port.left c.pop_first.new.self c.in-Some.port c.loop-port.invariant c.in-Some.ensures
    c.pull_flit.ensures.pulls c.pull_flit.ensures.same

pub returns-clause-pulls : goal.returns-clause-pulls
returns-clause-pulls c =
    asked_all (PullsFlit c.args.node) (asks_flits c.args.node) c.args.self.now c.loop-port.self c.loop-port.left
    c.loop-port.invariant c.in_default.ensures.0

pub returns-clause-same : goal.returns-clause-same
returns-clause-same c = c.loop-port.invariant.done.same
