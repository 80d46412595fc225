use Rattle.std.proofs.Common.{◌≡◌, ◌<◌, ℕ, List, sym, subst, ◌∙◌}
use Rattle.worm_mesh.specs.Address.{node_count}
use Rattle.std.proofs.lemmas.Result.{err_from_is_err_and}
use Rattle.worm_region.specs.Owned.{sole}
use Rattle.worm_region.specs.State.{router_at}
use Rattle.worm_region.specs.Prepared.{allocated_at}
use Rattle.worm_router.specs.Allocation.{switch_grants}
use Rattle.worm_region.proofs.Passages.{does_nothing}
use Rattle.worm_region.proofs.TurnInParts.{passes_all, passes_cut}
use Rattle.worm_region.proofs.ReachedBySteps.{whole_after}
use Rattle.worm_region.proofs.StaysAtNode.{anywhere}
use Rattle.worm_region.proofs.region.Region.node_passes.Goals as goal

pub returns-then-rests : goal.returns-then-rests
returns-then-rests c =
    let still = does_nothing c.args.self.now in
    rw c.rests.ensures.same record { exact = c.rests.ensures.passes c.if-rests.true; reaches = still.reaches }

pub send_granted-requires-clause-granted : goal.send_granted-requires-clause-granted
send_granted-requires-clause-granted c =
    let done = c.prepare-granted.ensures.prepares in
    (switch_grants (router_at (allocated_at c.args.node done.came) c.args.node), done.chooses.0)

pub send_granted-requires-clause-whole : goal.send_granted-requires-clause-whole
send_granted-requires-clause-whole c =
    let rested : c.rests.new.self.own ≡ sole = rw c.rests.ensures.same c.requires.whole in
    whole_after c.rests.new.self c.prepare-granted.new.self c.prepare-granted.ensures.at_node.config rested

pub give_credits-requires-clause-node : goal.give_credits-requires-clause-node
give_credits-requires-clause-node c =
    let done = c.prepare-granted.ensures.prepares in
    let grants = switch_grants (router_at (allocated_at c.args.node done.came) c.args.node) in
    let sent = c.in_ok-send_granted.ensures grants done.chooses.0 in
    let rested : c.args.node < node_count c.rests.new.self.mesh = rw c.rests.ensures.same c.requires.node in
    subst (λ (mesh : List ℕ). c.args.node < node_count mesh)
    (sym (sent.reaches.config.mesh ∙ c.prepare-granted.ensures.at_node.config.mesh)) rested

pub give_credits-requires-clause-whole : goal.give_credits-requires-clause-whole
give_credits-requires-clause-whole c =
    let done = c.prepare-granted.ensures.prepares in
    let rested : c.rests.new.self.own ≡ sole = rw c.rests.ensures.same c.requires.whole in
    let prepared =
    whole_after c.rests.new.self c.prepare-granted.new.self c.prepare-granted.ensures.at_node.config rested in
    let grants = switch_grants (router_at (allocated_at c.args.node done.came) c.args.node) in
    let sent = c.in_ok-send_granted.ensures grants done.chooses.0 in
    whole_after c.prepare-granted.new.self c.send_granted.new.self sent.reaches.config prepared

pub returns-in_err-send_granted : goal.returns-in_err-send_granted
returns-in_err-send_granted c =
    let x = c.args.node in
    let done = c.prepare-granted.ensures.prepares in
    let p = err_from_is_err_and c.from_residual.result c.from_residual.ensures.1 in
    rw (p.1, p.2, ← c.rests.ensures.same) (passes_cut x c.prepare-granted.result c.rests.new.self
    c.prepare-granted.new.self c.send_granted.new.self c.in_err-send_granted.field-0.0 done
    (anywhere x c.rests.new.self c.prepare-granted.new.self c.prepare-granted.ensures.at_node)
    (switch_grants (router_at (allocated_at x done.came) x), done.chooses.0) c.in_err-send_granted.ensures)

pub returns : goal.returns
returns c =
    let x = c.args.node in
    let done = c.prepare-granted.ensures.prepares in
    rw (← c.rests.ensures.same) (passes_all x c.prepare-granted.result c.rests.new.self c.prepare-granted.new.self
    c.send_granted.new.self c.give_credits.new.self done
    (anywhere x c.rests.new.self c.prepare-granted.new.self c.prepare-granted.ensures.at_node)
    (switch_grants (router_at (allocated_at x done.came) x), done.chooses.0) c.in_ok-send_granted.ensures
    c.give_credits.ensures)
