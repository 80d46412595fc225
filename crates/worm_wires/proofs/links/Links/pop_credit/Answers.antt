use Rattle.std.proofs.Common.{◌∙◌, arith, sym}
use Rattle.worm_wires.proofs.EachKind.{credits_kind}
use Rattle.worm_wires.proofs.Moved.{numbered, popped_alone}
use Rattle.worm_wires.proofs.links.Links.pop_credit.Goals as goal

pub invariant_of-self : goal.invariant_of-self
invariant_of-self c =
    (popped_alone credits_kind c.self.invariant c.self.view_is c.from-at.ensures (omega arith)
    c.index-self-at.result c.index.result.now c.index.ensures
    (numbered credits_kind c.args.node c.args.port c.self.view_is c.requires)
    (sym c.contains.ensures ∙ c.if-not-contains.true) c.put.ensures).filed

pub returns-then-not-contains : goal.returns-then-not-contains
returns-then-not-contains c =
    (popped_alone credits_kind c.self.invariant c.self.view_is c.from-at.ensures (omega arith)
    c.index-self-at.result c.index.result.now c.index.ensures
    (numbered credits_kind c.args.node c.args.port c.self.view_is c.requires)
    (sym c.contains.ensures ∙ c.if-not-contains.true) c.put.ensures).seen
