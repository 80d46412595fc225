use Rattle.std.proofs.Common.{◌≤◌, arith, length-set, subst, List}
use Rattle.std.proofs.lemmas.List.{length-replicate}
use Rattle.worm_wires.specs.Links.{LinkView}
use Rattle.worm_wires.specs.Inbox.{AreFiled, IsInbox, inbox_by, inboxes_by}
use Rattle.worm_wires.proofs.AllSpilled.{links_spilled}
use Rattle.worm_wires.proofs.InboxFilled.{nodes_more}
use Rattle.worm_wires.proofs.Joined.{joined_length, joined_set}
use Rattle.worm_wires.proofs.links.Links.new.Goals as goal
use Rattle.worm_wires.proofs.links.Links.new.Goals.{At-loop-node}

pub loop-node-init : goal.loop-node-init
loop-node-init c = record {
  sets = length-replicate 256 c.new-arrivals.result;
  all = c.inboxes.invariant;
  known = λ x below. absurd (omega (arith, below));
}

pub loop-node-preserved : goal.loop-node-preserved
loop-node-preserved c =
    let inv = c.loop-node.invariant in
    let made = c.inbox_of-inbox.result in
    let one = subst
    (λ (lists : List LinkView). IsInbox c.new-wiring.result lists c.loop-node.node (inbox_by made.0 made.1))
    c.as_slice.ensures.value c.inbox_of-inbox.ensures.inbox in
    let long = joined_length c.loop-node.arrivals c.loop-node.fronts.items inv.sets inv.all in
    let put = joined_set c.loop-node.arrivals c.loop-node.fronts.items c.loop-node.node made.0 made.1 in
    record {
      sets = rw length-set inv.sets;
      all = rw length-set inv.all;
      known = rw (c.from-at.ensures, put) (nodes_more c.new-wiring.result c.args.states.items
          (inboxes_by c.loop-node.arrivals c.loop-node.fronts.items) c.loop-node.node (inbox_by made.0 made.1)
          (omega (arith, long, c.loop-node-test.true)) (one, c.inbox_of-inbox.ensures.spilled) inv.known);
    }

filed : (c : At-loop-node) → 256 ≤ c.loop-node.node
    → AreFiled c.new-wiring.result c.args.states.items c.loop-node.arrivals c.loop-node.fronts.items
filed c all =
    let inv = c.loop-node.invariant in
    record {
      all = inv.all;
      inboxes = record {
        radices = rw c.new-wiring.ensures c.requires.mesh;
        all = rw c.new-wiring.ensures c.requires.states;
        nodes = joined_length c.loop-node.arrivals c.loop-node.fronts.items inv.sets inv.all;
        known = λ x x_in. (inv.known x (omega (arith, x_in, all))).0;
      };
    }

pub invariant_of-result : goal.invariant_of-result
invariant_of-result c = filed (goal.at.invariant_of-result c).At-loop-node c.loop-node-test.false

pub returns : goal.returns
returns c =
    let are = (filed (goal.at.returns c).At-loop-node c.loop-node-test.false).inboxes in
    let same = links_spilled c.new-wiring.result c.args.states.items
    (inboxes_by c.loop-node.arrivals c.loop-node.fronts.items) are
    (λ x x_in. (c.loop-node.invariant.known x (omega (arith, x_in, c.loop-node-test.false))).1) in
    λ t. record { mesh = c.new-wiring.ensures t; states = same t }
