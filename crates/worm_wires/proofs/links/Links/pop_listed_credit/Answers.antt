use Rattle.std.proofs.Common.{◌∙◌, ℕ, ap, arith, min, refl}
use Rattle.std.specs.VecDeque.{deque_capacity}
use Rattle.worm_wires.specs.Arrivals.{LinksView, number_out}
use Rattle.worm_wires.proofs.EachKind.{credits_kind}
use Rattle.worm_wires.proofs.Moved.{numbered, popped}
use Rattle.worm_wires.proofs.links.Links.pop_listed_credit.Goals as goal

pub invariant_of-self : goal.invariant_of-self
invariant_of-self c =
    (popped credits_kind c.self.invariant c.self.view_is c.from-at.ensures (omega arith)
    c.index-self-at.result c.index_mut.result.now c.index_mut.ensures.value
    (numbered credits_kind c.args.node c.args.port c.self.view_is c.requires) c.from.result _
    (c.from.ensures ∙ c.links_beyond-number.ensures.out
    ∙ ap (λ (l : LinksView). number_out l c.args.node c.args.port) c.self.view_is) c.link.view_is
    c.index_mut-link.ensures.value _ refl
    (ap (λ (n : ℕ). min (deque_capacity c.link.inside.flits) n) c.pop_listed.ensures.room) c.pop_listed.new.here
    c.pop_listed.new.self c.pop_listed.ensures.list c.pop_listed.ensures.filed).filed

pub returns : goal.returns
returns c =
    (popped credits_kind c.self.invariant c.self.view_is c.from-at.ensures (omega arith)
    c.index-self-at.result c.index_mut.result.now c.index_mut.ensures.value
    (numbered credits_kind c.args.node c.args.port c.self.view_is c.requires) c.from.result _
    (c.from.ensures ∙ c.links_beyond-number.ensures.out
    ∙ ap (λ (l : LinksView). number_out l c.args.node c.args.port) c.self.view_is) c.link.view_is
    c.index_mut-link.ensures.value _ refl
    (ap (λ (n : ℕ). min (deque_capacity c.link.inside.flits) n) c.pop_listed.ensures.room) c.pop_listed.new.here
    c.pop_listed.new.self c.pop_listed.ensures.list c.pop_listed.ensures.filed).seen
