use Rattle.std.proofs.Common.{arith, rules}
use Rattle.worm_wires.proofs.EachKind.{credits_kind}
use Rattle.worm_wires.proofs.Moved.{brought, none_brought, numbered}
use Rattle.worm_wires.proofs.links.Links.bring_credit.Goals as goal

pub put-requires : goal.put-requires
put-requires c = (
  search rules,
  (
    search rules,
    none_brought credits_kind c.self.invariant c.self.view_is c.from-at.ensures (omega arith) c.index-self-at.result
        c.index_mut.result.now c.index_mut.ensures.value
        (numbered credits_kind c.args.node c.args.port c.self.view_is c.requires.linked) c.requires.empty,
  ),
)

pub invariant_of-self : goal.invariant_of-self
invariant_of-self c =
    (brought credits_kind c.self.invariant c.self.view_is c.from-at.ensures (omega arith) c.index-self-at.result
    c.index_mut.result.now c.index_mut.ensures.value
    (numbered credits_kind c.args.node c.args.port c.self.view_is c.requires.linked) c.put.new.here c.put.new.self
    c.args.vc c.requires.empty c.requires.room c.put.ensures).filed

pub returns : goal.returns
returns c =
    (brought credits_kind c.self.invariant c.self.view_is c.from-at.ensures (omega arith) c.index-self-at.result
    c.index_mut.result.now c.index_mut.ensures.value
    (numbered credits_kind c.args.node c.args.port c.self.view_is c.requires.linked) c.put.new.here c.put.new.self
    c.args.vc c.requires.empty c.requires.room c.put.ensures).seen
