use Rattle.std.proofs.Common.{◌*◌, ◌≤◌, length, get_or, arith, subst, sym, ◌∙◌}
use Rattle.worm_wires.specs.Arrivals.{LinksView, credits_to, flits_to}
use Rattle.worm_wires.specs.Inbox.{inbox_by, inboxes_by}
use Rattle.worm_wires.specs.declared.inbox.Arrivals.{Arrivals}
use Rattle.worm_wires.proofs.ArrivalsFound.{come_by, credits_past, flits_past, none_come, true_of}
use Rattle.worm_wires.proofs.Called.{IsCall, come_read}
use Rattle.worm_wires.proofs.EachKind.{credits_kind, flits_kind}
use Rattle.worm_wires.proofs.Joined.{no_fronts, sets_call_of}
use Rattle.worm_wires.proofs.links.Links.brings_nothing.Goals as goal
use Rattle.worm_wires.proofs.links.Links.brings_nothing.Goals.{After-is_empty}

-- the node's ports at which something comes in
abbrev sets : After-is_empty → Arrivals
sets c = get_or c.self.inside.arrivals c.from.result c.index-self-from.result

call : (c : After-is_empty) → IsCall c.self.inside.wiring c.self.inside.lists.items
    (inboxes_by c.self.inside.arrivals c.self.inside.fronts.items) c.args.self.now c.args.node c.from.result
    (inbox_by (sets c) (get_or c.self.inside.fronts.items c.from.result no_fronts))
call c =
    sets_call_of c.self.invariant c.from.result c.args.self.now c.args.node c.index-self-from.result c.self.view_is
    (omega arith) c.from.ensures

past_few : (c : After-is_empty) → 2 * length c.args.self.now.mesh ≤ 6
past_few c =
    subst (λ (l : LinksView). 2 * length l.mesh ≤ 6) c.self.view_is
    (omega (arith, c.terminal-terminal.ensures.value, c.terminal-terminal.ensures.bound))

pub returns-then-is_empty-clause-flits : goal.returns-then-is_empty-clause-flits
returns-then-is_empty-clause-flits c = λ nothing.
    let before = (goal.at.returns-then-is_empty-clause-flits c).After-is_empty in
    none_come (flits_to c.args.self.now c.args.node) (sets before).flits
    (2 * length c.args.self.now.mesh)
    (come_read (call before) flits_kind) (past_few before) (flits_past c.args.self.now c.args.node)
    (sym c.is_empty.ensures.value ∙ c.if-is_empty.true)

pub returns-then-is_empty-clause-credits : goal.returns-then-is_empty-clause-credits
returns-then-is_empty-clause-credits c = λ nothing.
    let before = (goal.at.returns-then-is_empty-clause-credits c).After-is_empty in
    none_come (credits_to c.args.self.now c.args.node) (sets before).credits
    (2 * length c.args.self.now.mesh) (come_read (call before) credits_kind) (past_few before)
    (credits_past c.args.self.now c.args.node)
    (sym c.is_empty-then-is_empty.ensures.value ∙ true_of c.is_empty-then-is_empty.result nothing)

pub returns-then-is_empty-clause-nothing : goal.returns-then-is_empty-clause-nothing
returns-then-is_empty-clause-nothing c = λ no_flits no_credits.
    let before = (goal.at.returns-then-is_empty-clause-nothing c).After-is_empty in
    come_by (credits_to c.args.self.now c.args.node) (sets before).credits
    c.is_empty-then-is_empty.result
    (come_read (call before) credits_kind)
    c.is_empty-then-is_empty.ensures.some
    no_credits

pub returns-else-is_empty-clause-nothing : goal.returns-else-is_empty-clause-nothing
returns-else-is_empty-clause-nothing c = λ no_flits no_credits.
    let before = (goal.at.returns-else-is_empty-clause-nothing c).After-is_empty in
    come_by (flits_to c.args.self.now c.args.node) (sets before).flits c.is_empty.result
    (come_read (call before) flits_kind) c.is_empty.ensures.some
    no_flits
