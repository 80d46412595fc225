use Rattle.std.proofs.Common.{◌∙◌, ℕ, ap, arith, min, refl}
use Rattle.std.specs.VecDeque.{deque_capacity}
use Rattle.worm_wires.specs.Arrivals.{LinksView, number_into}
use Rattle.worm_wires.proofs.EachKind.{flits_kind}
use Rattle.worm_wires.proofs.Moved.{numbered, popped}
use Rattle.worm_wires.proofs.links.Links.pop_listed.Goals as goal

pub invariant_of-self : goal.invariant_of-self
invariant_of-self c =
    (popped flits_kind c.self.invariant c.self.view_is c.from-at.ensures (omega arith)
    c.index-self-at.result c.index_mut.result.now c.index_mut.ensures.value
    (numbered flits_kind c.args.node c.args.port c.self.view_is c.requires) c.from.result _
    (c.from.ensures ∙ c.links_beyond-number.ensures.into
    ∙ ap (λ (l : LinksView). number_into l c.args.node c.args.port) c.self.view_is) c.link.view_is
    c.index_mut-link.ensures.value _ refl
    (ap (λ (n : ℕ). min n (deque_capacity c.link.inside.credits)) c.pop_listed.ensures.room) c.pop_listed.new.here
    c.pop_listed.new.self c.pop_listed.ensures.list c.pop_listed.ensures.filed).filed

pub returns : goal.returns
returns c =
    (popped flits_kind c.self.invariant c.self.view_is c.from-at.ensures (omega arith)
    c.index-self-at.result c.index_mut.result.now c.index_mut.ensures.value
    (numbered flits_kind c.args.node c.args.port c.self.view_is c.requires) c.from.result _
    (c.from.ensures ∙ c.links_beyond-number.ensures.into
    ∙ ap (λ (l : LinksView). number_into l c.args.node c.args.port) c.self.view_is) c.link.view_is
    c.index_mut-link.ensures.value _ refl
    (ap (λ (n : ℕ). min n (deque_capacity c.link.inside.credits)) c.pop_listed.ensures.room) c.pop_listed.new.here
    c.pop_listed.new.self c.pop_listed.ensures.list c.pop_listed.ensures.filed).seen
