use Rattle.std.proofs.Common.{arith, rules}
use Rattle.worm_wires.proofs.EachKind.{flits_kind}
use Rattle.worm_wires.proofs.Moved.{brought, none_brought, numbered}
use Rattle.worm_wires.proofs.links.Links.bring_flit.Goals as goal

pub put-requires : goal.put-requires
put-requires c = (
  search rules,
  (
    search rules,
    none_brought flits_kind c.self.invariant c.self.view_is c.from-at.ensures (omega arith) c.index-self-at.result
        c.index_mut.result.now c.index_mut.ensures.value
        (numbered flits_kind c.args.node c.args.port c.self.view_is c.requires.linked) c.requires.empty,
  ),
)

pub invariant_of-self : goal.invariant_of-self
invariant_of-self c =
    (brought flits_kind c.self.invariant c.self.view_is c.from-at.ensures (omega arith) c.index-self-at.result
    c.index_mut.result.now c.index_mut.ensures.value
    (numbered flits_kind c.args.node c.args.port c.self.view_is c.requires.linked) c.put.new.here c.put.new.self
    c.args.flit c.requires.empty c.requires.room c.put.ensures).filed

pub returns : goal.returns
returns c =
    (brought flits_kind c.self.invariant c.self.view_is c.from-at.ensures (omega arith) c.index-self-at.result
    c.index_mut.result.now c.index_mut.ensures.value
    (numbered flits_kind c.args.node c.args.port c.self.view_is c.requires.linked) c.put.new.here c.put.new.self
    c.args.flit c.requires.empty c.requires.room c.put.ensures).seen
