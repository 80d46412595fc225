use Rattle.std.proofs.Common.{◌≡◌, ◌∙◌, ℕ, Some, ap, arith, min, refl, sym}
use Rattle.std.specs.VecDeque.{deque_capacity}
use Rattle.worm_wires.specs.Arrivals.{LinksView, number_out}
use Rattle.worm_wires.specs.Wiring.{in_link}
use Rattle.worm_wires.proofs.EachKind.{flits_kind}
use Rattle.worm_wires.proofs.Moved.{beyond, none_listed, pushed_alone, pushed_behind, pushes}
use Rattle.worm_wires.proofs.links.Links.push.Goals as goal
use Rattle.worm_wires.proofs.links.Links.push.Goals.{After-contains, After-from}

-- the link into the port that is entered
by : (c : After-contains) → in_link c.self.inside.wiring c.beyond-beyond.result c.entered-entered.result
    ≡ Some (number_out c.args.self.now c.args.node c.args.port)
by c =
    beyond flits_kind c.args.node c.args.port c.self.view_is c.self.invariant.inboxes.radices c.beyond-beyond.ensures
    c.entered-entered.ensures.value

-- its number
number : (c : After-from) → c.from.result ≡ number_out c.args.self.now c.args.node c.args.port
number c =
    c.from.ensures ∙ c.links_beyond-number.ensures.out
    ∙ ap (λ (l : LinksView). number_out l c.args.node c.args.port) c.self.view_is

-- none comes in there yet

pub put-requires : goal.put-requires
put-requires c = (
  omega arith,
  (
    c.entered-entered.ensures.mesh_port,
    none_listed flits_kind c.self.invariant c.self.view_is c.from-at.ensures (omega arith) c.index-self-at.result
        c.index_mut.result.now c.index_mut.ensures.value (by (goal.at.put-requires c).After-contains)
        (sym c.contains.ensures ∙ c.if-not-contains.true),
  ),
)

pub invariant_of-self : goal.invariant_of-self
invariant_of-self c =
    (pushed_alone flits_kind c.self.invariant c.self.view_is c.from-at.ensures (omega arith) c.index-self-at.result
    c.index_mut.result.now c.index_mut.ensures.value (by (goal.at.invariant_of-self c).After-contains) c.put.new.here
    c.put.new.self c.args.flit (sym c.contains.ensures ∙ c.if-not-contains.true) c.requires.room c.put.ensures).filed

pub returns-then-not-contains : goal.returns-then-not-contains
returns-then-not-contains c =
    (pushed_alone flits_kind c.self.invariant c.self.view_is c.from-at.ensures (omega arith) c.index-self-at.result
    c.index_mut.result.now c.index_mut.ensures.value (by (goal.at.returns-then-not-contains c).After-contains)
    c.put.new.here c.put.new.self c.args.flit (sym c.contains.ensures ∙ c.if-not-contains.true) c.requires.room
    c.put.ensures).seen

-- others are there

pub push_listed-requires : goal.push_listed-requires
push_listed-requires c = (
  omega arith,
  (
    c.entered-entered.ensures.mesh_port,
    pushes flits_kind c.self.invariant c.self.view_is c.from-at.ensures (omega arith) c.index-self-at.result
        c.index_mut.result.now c.index_mut.ensures.value (by (goal.at.push_listed-requires c).After-contains)
        c.from.result _ (number (goal.at.push_listed-requires c).After-from) c.link.view_is
        c.index_mut-link.ensures.value c.requires.room
        (deque_capacity c.link.inside.flits) (omega arith),
  ),
)

pub invariant_of-self-2 : goal.invariant_of-self-2
invariant_of-self-2 c =
    (pushed_behind flits_kind c.self.invariant c.self.view_is c.from-at.ensures (omega arith) c.index-self-at.result
    c.index_mut.result.now c.index_mut.ensures.value (by (goal.at.invariant_of-self-2 c).After-contains) c.from.result _
    (number (goal.at.invariant_of-self-2 c).After-from) c.link.view_is c.index_mut-link.ensures.value _ refl
    (ap (λ (n : ℕ). min n (deque_capacity c.link.inside.credits)) c.push_listed.ensures.room) c.push_listed.new.self
    c.push_listed.ensures.filed c.args.flit (sym c.contains.ensures ∙ c.if-not-contains.false)
    c.push_listed.ensures.list).filed

pub returns : goal.returns
returns c =
    (pushed_behind flits_kind c.self.invariant c.self.view_is c.from-at.ensures (omega arith) c.index-self-at.result
    c.index_mut.result.now c.index_mut.ensures.value (by (goal.at.returns c).After-contains) c.from.result _
    (number (goal.at.returns c).After-from) c.link.view_is c.index_mut-link.ensures.value _ refl
    (ap (λ (n : ℕ). min n (deque_capacity c.link.inside.credits)) c.push_listed.ensures.room) c.push_listed.new.self
    c.push_listed.ensures.filed c.args.flit (sym c.contains.ensures ∙ c.if-not-contains.false)
    c.push_listed.ensures.list).seen
