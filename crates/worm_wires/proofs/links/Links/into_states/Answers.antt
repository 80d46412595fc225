use Rattle.std.proofs.Common.{◌∙◌, ap, arith, refl, sym}
use Rattle.worm_wires.specs.Arrivals.{LinksView}
use Rattle.worm_wires.proofs.AllSpilled.{links_spilled, spilled_past}
use Rattle.worm_wires.proofs.Spilled.{node_spilled}
use Rattle.worm_wires.specs.Inbox.{inbox_at, inboxes_by}
use Rattle.worm_wires.proofs.links.Links.into_states.Goals as goal

pub loop-node-init : goal.loop-node-init
loop-node-init c = record {
  kept = record { sound = c.self.invariant; same = refl };
  spilled = λ x below. absurd (omega (arith, below));
}

pub spill_node-requires : goal.spill_node-requires
spill_node-requires c = c.loop-node.invariant.kept.sound

pub loop-node-preserved : goal.loop-node-preserved
loop-node-preserved c =
    let inv = c.loop-node.invariant in
    let done = c.spill_node.ensures in
    record {
      kept = record { sound = done.kept.sound; same = done.kept.same ∙ inv.kept.same };
      spilled = node_spilled (inboxes_by c.self.inside.arrivals c.loop-node.fronts.items)
          (inboxes_by c.self.inside.arrivals c.spill_node.new.fronts.items) c.loop-node.node done.spilled done.others
          inv.spilled;
    }

pub invariant_of-inboxes : goal.invariant_of-inboxes
invariant_of-inboxes c = c.loop-node.invariant.kept.sound.all

pub returns : goal.returns
returns c =
    let inv = c.loop-node.invariant in
    let are = inv.kept.sound.inboxes in
    let inboxes = inboxes_by c.self.inside.arrivals c.loop-node.fronts.items in
    sym (links_spilled c.self.inside.wiring c.loop-node.lists.items inboxes are
    (λ x x_in. spilled_past c.self.inside.wiring c.loop-node.lists.items x
    (inbox_at inboxes x) are.radices (are.known x x_in)
    (inv.spilled x (omega (arith, x_in, c.loop-node-test.false)))))
    ∙ inv.kept.same ∙ ap (λ (l : LinksView). l.states) c.self.view_is
