use Rattle.std.proofs.Common.{◌≡◌, ◌<◌, ◌≤◌, ◌+◌, ◌%◌, ℕ, List, Option, Some, None, [], ◌∷◌, true, arith, refl}
use Rattle.std.proofs.Common.{sym, ap, subst, ◌∙◌}
use Rattle.std.proofs.Math.Nat.{add-mod_right, mod-eq_of_lt}
use Rattle.std.proofs.lemmas.Bool.{eq-eqb}
use Rattle.std.proofs.lemmas.Result.{err_from_is_err_and}
use Rattle.std.specs.List.{range_with_len}
use Rattle.std.specs.Prelude.{filter}
use Rattle.worm_mesh.specs.Address.{node_count}
use Rattle.worm_region.specs.Workable.{owned}
use Rattle.worm_region.specs.declared.fault.StepFault.{StepFault}
use Rattle.worm_region.specs.declared.owner.Owner.{Owner}
use Rattle.worm_region.specs.Turns.{Each}
use Rattle.worm_split.specs.PartState.{PartState}
use Rattle.worm_split.specs.PartTurns.{NodeTurn}
use Rattle.worm_split.proofs.OwnNodes.{none_before, none_more, none_near}
use Rattle.worm_region.proofs.Passages.{each_one}
use Rattle.worm_split.proofs.PartLoops.{of_ending, of_next, same_on, same_still}
use Rattle.worm_split.proofs.Sharing.{still_shared}
use Rattle.worm_split.proofs.part.Part.node_turns.Goals as goal
use Rattle.worm_split.proofs.part.Part.node_turns.Goals.{After-from-node, After-node_turn}
use Rattle.worm_split.proofs.part.Part.node_turns.Given as given

own_is : (g : given.Over) (c : After-from-node g) → c.own-own.result ≡ c.args.self.now.net.own
own_is g c = c.own-own.ensures ∙ (λ t. (c.self.view_is t).net.own)

nodes_are : (g : given.Over) (c : After-from-node g) → c.from-nodes.result ≡ node_count c.args.self.now.net.mesh
nodes_are g c = c.from-nodes.ensures ∙ (c.nodes.ensures.value ∙ (λ t. node_count (c.self.view_is t).net.mesh))

worker_in : (g : given.Over) (c : After-from-node g)
    → c.args.self.now.net.own.worker < c.args.self.now.net.own.workers
worker_in g c =
    subst (λ (p : PartState). p.net.own.worker < p.net.own.workers) c.self.view_is c.self.invariant.0.worker

pub loop-node-init : goal.loop-node-init
loop-node-init g c =
    let here = (goal.at.loop-node-init g c).After-from-node in
    let a = c.args.self.now in
    let less = worker_in g here in
    let start : c.from-node.result ≡ a.net.own.worker =
    c.from-node.ensures ∙ ap (λ (w : Owner). w.worker) (own_is g here) in
    let none : filter (owned a.net) (range_with_len 0 c.from-node.result) ≡ [] =
    ap (λ (n : ℕ). filter (owned a.net) (range_with_len 0 n)) start ∙ none_before a.net.own less in
    record {
      turned = subst (λ (ns : List ℕ). Each (NodeTurn c.args.entries.now) ns a None a) (sym none) (refl, refl);
      same = same_still a;
      mine = ap (λ (n : ℕ). n % a.net.own.workers) start
          ∙ mod-eq_of_lt less;
      near = omega (arith, start, less);
    }

pub node_turn-requires-clause-shared : goal.node_turn-requires-clause-shared
node_turn-requires-clause-shared g c =
    still_shared c.args.self.now c.loop-node.self c.shared_ports-shared.result c.loop-node.invariant.same
    c.shared_ports-shared.ensures

-- the turn of an own node, as the turns of the own ones among it alone
one_turned : (g : given.Over) (c : After-node_turn g) (fault : Option StepFault)
    → NodeTurn c.args.entries.now c.loop-node.node c.loop-node.self fault c.node_turn.new.self
    → Each (NodeTurn c.args.entries.now) (filter (owned c.args.self.now.net) (c.loop-node.node ∷ []))
    c.loop-node.self fault c.node_turn.new.self
one_turned g c fault turned =
    let a = c.args.self.now in
    let n = c.loop-node.node in
    let own : owned a.net n ≡ true = eq-eqb (n % a.net.own.workers) a.net.own.worker c.loop-node.invariant.mine in
    let one : filter (owned a.net) (n ∷ []) ≡ n ∷ [] = rw own refl in
    subst (λ (ns : List ℕ). Each (NodeTurn c.args.entries.now) ns c.loop-node.self fault c.node_turn.new.self)
    (sym one)
    (each_one (NodeTurn c.args.entries.now) n c.loop-node.self c.node_turn.new.self fault turned)

pub loop-node-preserved : goal.loop-node-preserved
loop-node-preserved g c =
    let here = (goal.at.loop-node-preserved g c).After-from-node in
    let a = c.args.self.now in
    let b = c.loop-node.self in
    let new = c.node_turn.new.self in
    let n = c.loop-node.node in
    let own = a.net.own in
    let less = worker_in g here in
    let nodes = nodes_are g here in
    let step : c.from-node-in-loop-node.result ≡ own.workers =
    c.from-node-in-loop-node.ensures ∙ ap (λ (w : Owner). w.workers) (own_is g here) in
    let next : (n + own.workers) % own.workers ≡ own.worker =
    add-mod_right n own.workers ∙ c.loop-node.invariant.mine in
    let past : n + 1 ≤ n + own.workers = omega (arith, less) in
    let gap : filter (owned a.net) (range_with_len 0 (n + own.workers))
    ≡ filter (owned a.net) (range_with_len 0 (n + 1))
    = none_more own (n + 1) (n + own.workers) past
    (λ y above under. none_near own (n + own.workers) y next under (omega (arith, above))) in
    let turned = of_next (owned a.net) (NodeTurn c.args.entries.now) n a b new None c.loop-node.invariant.turned
    (one_turned g (goal.at.loop-node-preserved g c).After-node_turn None c.in_ok-node_turn.ensures.turn) in
    let test : n < node_count a.net.mesh = omega (arith, nodes, c.loop-node-test.true) in
    record {
      turned = subst (λ (k : ℕ). Each (NodeTurn c.args.entries.now)
          (filter (owned a.net) (range_with_len 0 (n + k))) a None new) (sym step)
          (subst (λ (ns : List ℕ). Each (NodeTurn c.args.entries.now) ns a None new) (sym gap) turned);
      same = same_on a b new c.loop-node.invariant.same c.in_ok-node_turn.ensures.same;
      mine = ap (λ (k : ℕ). (n + k) % own.workers) step ∙ next;
      near = omega (arith, step, test);
    }

pub returns-in_err-node_turn-clause-turn : goal.returns-in_err-node_turn-clause-turn
returns-in_err-node_turn-clause-turn g c =
    let here = (goal.at.returns-in_err-node_turn-clause-turn g c).After-from-node in
    let p = err_from_is_err_and c.from_residual.result c.from_residual.ensures.1 in
    let a = c.args.self.now in
    let fault = c.in_err-node_turn.field-0.0 in
    let nodes = nodes_are g here in
    let below : c.loop-node.node < node_count a.net.mesh = omega (arith, nodes, c.loop-node-test.true) in
    let done = of_ending (owned a.net) (NodeTurn c.args.entries.now) c.loop-node.node a c.loop-node.self
    c.node_turn.new.self (node_count a.net.mesh) fault below c.loop-node.invariant.turned
    (one_turned g (goal.at.returns-in_err-node_turn-clause-turn g c).After-node_turn (Some fault)
    c.in_err-node_turn.ensures.turn) in
    rw (p.1, p.2) done

pub returns-clause-turn : goal.returns-clause-turn
returns-clause-turn g c =
    let nodes = nodes_are g (goal.at.returns-clause-turn g c).After-from-node in
    let a = c.args.self.now in
    let n = c.loop-node.node in
    let inside = c.loop-node.invariant in
    let near = inside.near in
    let past : node_count a.net.mesh ≤ n = omega (arith, nodes, c.loop-node-test.false) in
    let gap : filter (owned a.net) (range_with_len 0 n)
    ≡ filter (owned a.net) (range_with_len 0 (node_count a.net.mesh))
    = none_more a.net.own (node_count a.net.mesh) n past
    (λ y above under. none_near a.net.own n y inside.mine under (omega (arith, above, near))) in
    subst (λ (ns : List ℕ). Each (NodeTurn c.args.entries.now) ns a None c.loop-node.self) gap inside.turned
