-- Where a node of a part is at rest, what it does once its source and its links were asked changes nothing.
use Rattle.std.proofs.Common.{◌≡◌, ℕ, ◌+◌, ◌*◌, ◌<◌, ◌≤◌, List, length, replicate, Option, None}
use Rattle.std.proofs.Common.{inr, refl, arith, ap, sym, subst, ◌∙◌}
use Rattle.std.specs.Prelude.{slice_index_or}
use Rattle.std.specs.Option.{option_to_list}
use Rattle.worm_mesh.specs.Address.{node_count}
use Rattle.worm_router.specs.Router.{RouterState, terminal}
use Rattle.worm_router.specs.Allocation.{after_allocate, after_choose, switch_grants}
use Rattle.worm_router.specs.Rest.{IsAtRest, OwesNothing}
use Rattle.worm_swalloc.specs.declared.grant.SwGrant.{SwGrant}
use Rattle.worm_swalloc.proofs.SwitchPass.{get_or-replicate_same}
use Rattle.worm_region.specs.Moves.{chosen_router}
use Rattle.worm_region.specs.Replies.{Attempts}
use Rattle.worm_region.specs.State.{router_at, with_router}
use Rattle.worm_region.specs.Turns.{Each}
use Rattle.worm_region.specs.Turns.{ComesInBy, lowest_owed}
use Rattle.worm_region.specs.Workable.{IsWorkable}
use Rattle.worm_region.proofs.NodeWritten.{with_router_same}
use Rattle.worm_region.proofs.TurnInParts.{owed_lowest}
use Rattle.worm_split.specs.PartState.{PartState}
use Rattle.worm_split.specs.PartTurns.{Gives, GivesCredit, NodePasses, SendsGrant, SendsGranted}
use Rattle.worm_split.proofs.PartLoops.{of_rest}

grant_none : (grants : List (Option SwGrant)) (x i : ℕ) (p : PartState) → grants ≡ replicate 7 None
    → SendsGrant grants x i p None p
grant_none grants x i p is =
    let none : slice_index_or grants i None ≡ None =
    ap (λ (gs : List (Option SwGrant)). slice_index_or gs i None) is ∙ get_or-replicate_same 7 i None in
    rw none (refl, refl)

sends_nothing : (p : PartState) (x : ℕ) → x < length p.net.nodes → IsAtRest (router_at p.net x)
    → SendsGranted x p None p
unfolding chosen_router
sends_nothing p x there rest =
    let r = router_at p.net x in
    let same : with_router p.net x (after_choose r) ≡ p.net =
    ap (λ (q : RouterState). with_router p.net x q) rest.chooses_nothing ∙ with_router_same p.net x there in
    of_rest (SendsGrant (switch_grants r) x) 0 (2 * length p.net.mesh + 1)
    (record p { net = with_router p.net x (after_choose r) }) p (omega arith)
    (refl, λ t. record p { net = sym same t })
    (λ i above below. grant_none (switch_grants r) x i p rest.grants_nothing)

gives_nothing : (p : PartState) (x o : ℕ) → o ≤ terminal (router_at p.net x) → OwesNothing (router_at p.net x)
    → GivesCredit x o p None p
gives_nothing p x o o_in owes =
    let none : None ≡ lowest_owed (router_at p.net x) o =
    owed_lowest (router_at p.net x) o None tt tt (λ v below. owes o v o_in below) in
    subst (λ (vc : Option ℕ). Each (Gives x o) (option_to_list vc) p None p) none (refl, refl)

pub part_rests : (p : PartState) (x : ℕ) → IsWorkable p.net → x < node_count p.net.mesh → IsAtRest (router_at p.net x)
    → ComesInBy Attempts x p.net None p.net → NodePasses x p None p
part_rests p x net x_in rest comes =
    let all = net.framed.all_nodes in
    let there : x < length p.net.nodes = omega arith in
    let node = net.framed.each_node x there in
    let allocated : with_router p.net x (after_allocate (router_at p.net x)) ≡ p.net =
    ap (λ (q : RouterState). with_router p.net x q) rest.allocates_nothing ∙ with_router_same p.net x there in
    inr (
      p,
      (comes, refl),
      inr (
        p,
        ((refl, sym allocated), refl),
        inr (
          p,
          sends_nothing p x there rest,
          of_rest (GivesCredit x) 0 (2 * length p.net.mesh) p p (omega arith) (refl, refl)
              (λ o above below. gives_nothing p x o (rw node.same_mesh (omega arith)) rest.owes_nothing),
        ),
      ),
    )
