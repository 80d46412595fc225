use Rattle.std.proofs.Common.{◌≡◌, ◌==◌, ◌*◌, ◌<◌, ℕ, Bool, true, false, Option, None, Some, IsSome, Ok, Err, List}
use Rattle.std.proofs.Common.{if◌then◌else◌, length, slice_set, ap, arith, rules, sym, ◌∙◌}
use Rattle.std.proofs.lemmas.Grind.{common_steps}
use Rattle.std.proofs.lemmas.List.{get_or_default, set-get_or}
use Rattle.worm_flit.specs.declared.Flit.{Flit}
use Rattle.worm_mesh.specs.Address.{neighbour_of}
use Rattle.worm_router.specs.Router.{RouterState, leaving, terminal}
use Rattle.worm_node.specs.declared.node.Node.{Node}
use Rattle.worm_node.specs.Node.{delivered_node}
use Rattle.worm_region.specs.Resting.{no_node, nth_node, put_router}
use Rattle.worm_region.specs.State.{NetState, link_at, node_at, router_at, sink_at, with_node}
use Rattle.worm_region.specs.Moves.{LeavesByLink, Sends, link_out}
use Rattle.worm_region.specs.declared.step.Moved.TheVariants.{Done, Idle}
use Rattle.worm_region.specs.declared.fault.StepFault.TheVariants.{NoMemory}
use Rattle.worm_region.specs.contracts.fabric.Fabric.{the_view}
use Rattle.worm_region.proofs.fabric.Fabric.send.Goals as goal

-- two numbers are equal, and so is their test
equal : (a b : ℕ) → a ≡ b → (a == b) ≡ true
equal a b same = grind arith

-- two numbers differ, and their test is false
unequal : (a b : ℕ) → (a ≡ b → ⊥) → (a == b) ≡ false
unequal a b other = grind arith

-- what a lent router is, by the network's words
router_is : (s now : NetState) (x : ℕ) (r : RouterState) → s ≡ now → x < length now.nodes
    → r ≡ (nth_node s.nodes x).router → r ≡ router_at now x
router_is s now x r same there is =
    is ∙ ap (λ (t : NetState). (nth_node t.nodes x).router) same
    ∙ ap (λ (n : Node). n.router) (get_or_default now.nodes x no_node _ there)

-- a router that is put back as it was changes no node
put_back : (nodes : List Node) (x : ℕ) (r : RouterState) → r ≡ (nth_node nodes x).router → put_router nodes x r ≡ nodes
put_back nodes x r is = rw is (set-get_or nodes x no_node)

-- the lists, when the router is put back as it was
stays : (s now : NetState) (x : ℕ) (r : RouterState) → s ≡ now → r ≡ (nth_node s.nodes x).router
    → record s { nodes = put_router s.nodes x r } ≡ now
stays s now x r same is = ap (λ (ns : List Node). record s { nodes = ns }) (put_back s.nodes x r is) ∙ same

-- what leaves, as the lent router says it
leaves : (now : NetState) (x p v : ℕ) (r : RouterState) (d e : Option (ℕ × Flit)) → r ≡ router_at now x
    → d ≡ leaving r p v → d ≡ e → leaving (router_at now x) p v ≡ e
leaves now x p v r d e is left known = ap (λ (t : RouterState). leaving t p v) (sym is) ∙ sym left ∙ known

-- nothing leaves
idle : (now new : NetState) (x p v : ℕ) (d : Option (ℕ × Flit)) → d ≡ None → new ≡ now
    → Sends now x p v d (Ok Idle) new
idle now new x p v d none same = rw none same

-- a flit for another node does not go into the sink
away : (now new : NetState) (x p v o : ℕ) (f : Flit) (d : Option (ℕ × Flit)) → d ≡ Some (o, f)
    → o ≡ 2 * length now.mesh → (f.lane.dst ≡ x → ⊥) → new ≡ now → Sends now x p v d (Ok Idle) new
away now new x p v o f d some home other same = rw some ((λ way. other (way (equal o _ home)), same))

-- what is delivered, whether or not the router was put back before
delivers : (s now : NetState) (x p v : ℕ) (r : RouterState) (f : Flit) (nodes : List Node) (done : Bool) → s ≡ now
    → x < length now.nodes → r ≡ (nth_node s.nodes x).router
    → nodes ≡ (if done then slice_set (put_router s.nodes x r) x
    (delivered_node (nth_node (put_router s.nodes x r) x) p v f) else put_router s.nodes x r) → done ≡ true
    → record s { nodes = nodes } ≡ with_node now x (delivered_node (node_at now x) p v f)
delivers s now x p v r f nodes done same there is after sent =
    let back = put_back s.nodes x r is in
    let all = (rw (sent, back) at after) in
    ap (λ (ns : List Node). record s { nodes = ns }) all
    ∙ ap (λ (t : NetState). with_node t x (delivered_node (nth_node t.nodes x) p v f)) same
    ∙ ap (λ (n : Node). with_node now x (delivered_node n p v f)) (get_or_default now.nodes x no_node _ there)

-- where the sink has no memory the nodes are as they were
refuses : (s now : NetState) (x : ℕ) (r : RouterState) (nodes new : List Node) (done : Bool) → s ≡ now
    → r ≡ (nth_node s.nodes x).router → nodes ≡ (if done then new else put_router s.nodes x r) → done ≡ false
    → record s { nodes = nodes } ≡ now
refuses s now x r nodes new done same is after full =
    ap (λ (ns : List Node). record s { nodes = ns }) (rw full at after) ∙ stays s now x r same is

-- a flit that is at home, for which the sink has no memory
no_memory : (now new : NetState) (x p v o : ℕ) (f : Flit) (d : Option (ℕ × Flit)) → d ≡ Some (o, f)
    → o ≡ 2 * length now.mesh → f.lane.dst ≡ x → new ≡ now → Sends now x p v d (Err NoMemory) new
no_memory now new x p v o f d some home here same = rw some ((equal o _ home, same, λ _. here))

-- a flit that is at home goes into the sink
sunk : (now new : NetState) (x p v o : ℕ) (f : Flit) (d : Option (ℕ × Flit)) → d ≡ Some (o, f)
    → o ≡ 2 * length now.mesh → f.lane.dst ≡ x → new ≡ with_node now x (delivered_node (node_at now x) p v f)
    → Sends now x p v d (Ok Done) new
sunk now new x p v o f d some home here same = rw some ((λ _. here, rw (equal o _ home) same))

-- the link by which a flit leaves
by_link : (s now : NetState) (x o : ℕ) (f : Flit) (d : Option (ℕ × Flit)) → s ≡ now → LeavesByLink now x d
    → d ≡ Some (o, f) → (o ≡ 2 * length now.mesh → ⊥) → IsSome (neighbour_of s.mesh x o)
    × (length (link_at s (link_out s x o)).flits < (link_at s (link_out s x o)).room)
by_link s now x o f d same way some out = rw same ((rw some at way) (unequal o _ out))

-- the sink has the node's number, by the list as by the network's words
sink_is : (s now : NetState) (x : ℕ) → s ≡ now → x < length now.nodes → (sink_at now x).node ≡ x
    → (nth_node s.nodes x).sink.node ≡ x
sink_is s now x same there at =
    ap (λ (t : NetState). (nth_node t.nodes x).sink.node) same
    ∙ ap (λ (n : Node). n.sink.node) (get_or_default now.nodes x no_node _ there) ∙ at

pub ready-requires : goal.ready-requires
ready-requires c =
    let is = c.router_mut-router.ensures.value in
    rw (router_is _ c.args.self.now c.args.node _ c.self.view_is c.requires.place.node_in is) c.requires.place.place

pub sent-requires-clause-place : goal.sent-requires-clause-place
sent-requires-clause-place c =
    let is = c.router_mut-router.ensures.value in
    rw (router_is _ c.args.self.now c.args.node _ c.self.view_is c.requires.place.node_in is) c.requires.place.place

pub returns-in_default : goal.returns-in_default
returns-in_default c =
    let is = c.router_mut-router.ensures.value in
    let at = router_is _ c.args.self.now c.args.node _ c.self.view_is c.requires.place.node_in is in
    idle c.args.self.now _ c.args.node c.args.port c.args.vc _
    (leaves c.args.self.now c.args.node c.args.port c.args.vc _ _ _ at c.ready.ensures.leaves c.in_default.is)
    (stays _ c.args.self.now c.args.node _ c.self.view_is is)

pub returns-then-flit-node : goal.returns-then-flit-node
returns-then-flit-node c =
    let is = c.router_mut-router.ensures.value in
    let at = router_is _ c.args.self.now c.args.node _ c.self.view_is c.requires.place.node_in is in
    away c.args.self.now _ c.args.node c.args.port c.args.vc c.in-Some.out c.in-Some.flit _
    (leaves c.args.self.now c.args.node c.args.port c.args.vc _ _ _ at c.ready.ensures.leaves c.in-Some.is)
    (c.if-out-terminal.true ∙ c.terminal-terminal.ensures.value ∙ ap terminal at ∙ c.requires.terminal)
    c.if-flit-node.true
    (stays _ c.args.self.now c.args.node _ c.self.view_is is)

pub deliver-requires-clause-place : goal.deliver-requires-clause-place
deliver-requires-clause-place c =
    let is = c.router_mut-router.ensures.value in
    let at = router_is _ c.args.self.now c.args.node _ c.self.view_is c.requires.place.node_in is in
    rw (put_back _ c.args.node _ is) (rw (← is) (rw at c.requires.place.place))

pub deliver-requires-clause-home : goal.deliver-requires-clause-home
deliver-requires-clause-home c =
    let home : c.in-Some.flit.lane.dst ≡ c.args.node = search rules in
    rw (put_back _ c.args.node _ c.router_mut-router.ensures.value)
    (home ∙ sym (sink_is _ c.args.self.now c.args.node c.self.view_is c.requires.place.node_in c.requires.sink))

pub returns-then-not-deliver : goal.returns-then-not-deliver
returns-then-not-deliver c =
    let is = c.router_mut-router.ensures.value in
    let at = router_is _ c.args.self.now c.args.node _ c.self.view_is c.requires.place.node_in is in
    let home : c.in-Some.flit.lane.dst ≡ c.args.node = search rules in
    no_memory c.args.self.now _ c.args.node c.args.port c.args.vc c.in-Some.out c.in-Some.flit _
    (leaves c.args.self.now c.args.node c.args.port c.args.vc _ _ _ at c.ready.ensures.leaves c.in-Some.is)
    (c.if-out-terminal.true ∙ c.terminal-terminal.ensures.value ∙ ap terminal at ∙ c.requires.terminal) home
    (refuses _ c.args.self.now c.args.node _ _ _ _ c.self.view_is is c.deliver.ensures c.if-not-deliver.true)

pub returns-then-out-terminal : goal.returns-then-out-terminal
returns-then-out-terminal c =
    let is = c.router_mut-router.ensures.value in
    let at = router_is _ c.args.self.now c.args.node _ c.self.view_is c.requires.place.node_in is in
    let home : c.in-Some.flit.lane.dst ≡ c.args.node = search rules in
    sunk c.args.self.now _ c.args.node c.args.port c.args.vc c.in-Some.out c.in-Some.flit _
    (leaves c.args.self.now c.args.node c.args.port c.args.vc _ _ _ at c.ready.ensures.leaves c.in-Some.is)
    (c.if-out-terminal.true ∙ c.terminal-terminal.ensures.value ∙ ap terminal at ∙ c.requires.terminal) home
    (delivers _ c.args.self.now c.args.node c.args.port c.args.vc _ c.in-Some.flit _ _ c.self.view_is
    c.requires.place.node_in is c.deliver.ensures c.if-not-deliver.false)

-- what leaves by another port than the terminal has a link, with room there
linked : (c : goal.After-push-arg-1)
    → IsSome (neighbour_of c.self.inside.links.mesh c.args.node c.in-Some.out)
    × (length (link_at (the_view c.self.inside) (link_out (the_view c.self.inside) c.args.node c.in-Some.out)).flits
    < (link_at (the_view c.self.inside) (link_out (the_view c.self.inside) c.args.node c.in-Some.out)).room)
linked c =
    let is = c.router_mut-router.ensures.value in
    let at = router_is _ c.args.self.now c.args.node _ c.self.view_is c.requires.place.node_in is in
    by_link _ c.args.self.now c.args.node c.in-Some.out c.in-Some.flit _ c.self.view_is c.requires.way
    (leaves c.args.self.now c.args.node c.args.port c.args.vc _ _ _ at c.ready.ensures.leaves c.in-Some.is)
    (λ home. c.if-out-terminal.false
    (home ∙ sym (c.terminal-terminal.ensures.value ∙ ap terminal at ∙ c.requires.terminal)))

pub push-requires-clause-linked : goal.push-requires-clause-linked
push-requires-clause-linked c = (linked c).0

pub push-requires-clause-room : goal.push-requires-clause-room
push-requires-clause-room c = (linked c).1

-- out by a link
pub returns : goal.returns
returns c = grind (arith, common_steps)
