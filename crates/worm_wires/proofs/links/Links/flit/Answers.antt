use Rattle.std.proofs.Common.{◌≡◌, ◌∙◌, List, ap, arith, length, sym}
use Rattle.std.specs.Prelude.{slice_get}
use Rattle.std.proofs.lemmas.Option.{slice_get_read}
use Rattle.worm_flit.specs.declared.Flit.{Flit}
use Rattle.worm_wires.specs.Arrivals.{LinksView, number_out, state_at}
use Rattle.worm_wires.proofs.EachKind.{flits_kind}
use Rattle.worm_wires.proofs.Joined.{no_arrivals}
use Rattle.worm_wires.proofs.Moved.{by_links, lone_at, seen_listed}
use Rattle.worm_wires.proofs.links.Links.flit.Goals as goal
use Rattle.worm_wires.proofs.links.Links.flit.Goals.{After-link}

-- the list is what is seen
listed : (c : After-link) → (state_at c.args.self.now (number_out c.args.self.now c.args.node c.args.port)).flits
    ≡ c.link.inside.flits.items
listed c =
    seen_listed flits_kind c.self.invariant c.self.view_is c.from.ensures (omega arith) no_arrivals
    c.index-there.result.now c.index-there.ensures
    (by_links flits_kind c.args.node c.args.port c.self.view_is c.self.invariant.inboxes.radices
    c.links_beyond-links.ensures.value) c.from-then-contains.result _
    (c.from-then-contains.ensures ∙ c.links_beyond-links.ensures.out
    ∙ ap (λ (l : LinksView). number_out l c.args.node c.args.port) c.self.view_is) c.link.view_is
    c.index-link.ensures (sym c.contains.ensures ∙ c.if-contains.true)

pub index-requires : goal.index-requires
index-requires c =
    let long = ap (λ (fs : List Flit). length fs) (listed c) in omega (arith, c.requires.place, long)

pub returns-then-contains : goal.returns-then-contains
returns-then-contains c =
    let same = listed (goal.at.returns-then-contains c).After-link in
    ap (λ (fs : List Flit). slice_get fs c.args.i) same
    ∙ slice_get_read c.link.inside.flits.items _ c.args.i c.index.result.now (ap (λ (fs : List Flit). length fs) same)
    c.requires.place c.index.ensures

pub returns : goal.returns
returns c =
    lone_at flits_kind c.self.invariant c.self.view_is c.from.ensures (omega arith) no_arrivals
    c.index-there.result.now c.index-there.ensures
    (by_links flits_kind c.args.node c.args.port c.self.view_is c.self.invariant.inboxes.radices
    c.links_beyond-links.ensures.value) (sym c.contains.ensures ∙ c.if-contains.false) c.args.i c.requires.place
    c.from-2.result _ c.from-2.ensures
