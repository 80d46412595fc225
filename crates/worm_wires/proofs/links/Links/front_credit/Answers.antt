use Rattle.std.proofs.Common.{◌∙◌, arith, sym}
use Rattle.worm_wires.proofs.EachKind.{credits_kind}
use Rattle.worm_wires.proofs.Moved.{front_at, numbered}
use Rattle.worm_wires.proofs.links.Links.front_credit.Goals as goal

pub returns : goal.returns
returns c =
    c.copied.ensures ∙ c.front_at.ensures.value
    ∙ sym (front_at credits_kind c.self.invariant c.self.view_is c.from-at.ensures (omega arith) c.index-self-at.result
    c.index.result.now c.index.ensures
    (numbered credits_kind c.args.node c.args.port c.self.view_is c.requires))
