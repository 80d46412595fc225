use Rattle.std.proofs.Common.{◌≡◌, ◌∙◌, Bool, List, ap, arith, cond, false, length, refl, sym, true}
use mir.Val.{bool_byte}
use Rattle.worm_flit.specs.declared.Flit.{Flit}
use Rattle.worm_wires.specs.Arrivals.{LinksView, number_out}
use Rattle.worm_wires.proofs.EachKind.{flits_kind}
use Rattle.worm_wires.proofs.Joined.{no_arrivals}
use Rattle.worm_wires.proofs.Moved.{by_links, lone_count, seen_listed}
use Rattle.worm_wires.proofs.links.Links.count.Goals as goal

pub returns-then-contains : goal.returns-then-contains
returns-then-contains c =
    c.count.ensures
    ∙ ap (λ (fs : List Flit). length fs)
    (sym (seen_listed flits_kind c.self.invariant c.self.view_is c.from-at.ensures (omega arith) no_arrivals
    c.index.result.now c.index.ensures
    (by_links flits_kind c.args.node c.args.port c.self.view_is c.self.invariant.inboxes.radices
    c.links_beyond-links.ensures.value) c.from.result _
    (c.from.ensures ∙ c.links_beyond-links.ensures.out
    ∙ ap (λ (l : LinksView). number_out l c.args.node c.args.port) c.self.view_is) refl
    c.index-then-contains.ensures (sym c.contains.ensures ∙ c.if-contains.true)))

byte_is : (b : Bool) → bool_byte b ≡ cond b 1 0
byte_is true = refl
byte_is false = refl

pub returns : goal.returns
returns c =
    c.from-2.ensures ∙ byte_is c.contains-2.result ∙ ap (λ (b : Bool). cond b 1 0) c.contains-2.ensures
    ∙ sym (lone_count flits_kind c.self.invariant c.self.view_is c.from-at.ensures (omega arith)
    c.index-self-at.result c.index.result.now c.index.ensures
    (by_links flits_kind c.args.node c.args.port c.self.view_is c.self.invariant.inboxes.radices
    c.links_beyond-links.ensures.value) (sym c.contains.ensures ∙ c.if-contains.false))
