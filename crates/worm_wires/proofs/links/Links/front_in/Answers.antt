use Rattle.std.proofs.Common.{◌∙◌, Option, ap, arith, sym}
use Rattle.std.specs.Prelude.{is_some}
use Rattle.worm_flit.specs.declared.Flit.{Flit}
use Rattle.worm_wires.proofs.EachKind.{flits_kind}
use Rattle.worm_wires.proofs.Moved.{front_at, numbered}
use Rattle.worm_wires.proofs.links.Links.front_in.Goals as goal

pub returns : goal.returns
returns c =
    let front = front_at flits_kind c.self.invariant c.self.view_is c.from-at.ensures (omega arith)
    c.index-self-at.result c.index.result.now c.index.ensures
    (numbered flits_kind c.args.node c.args.port c.self.view_is c.requires) in
    record {
      value = c.front_at.ensures.value ∙ sym front;
      variant = c.front_at.ensures.variant ∙ sym (ap (λ (f : Option Flit). is_some f) front);
    }
