-- Where nothing can come into a node and its router is at rest, what the node does in a turn changes nothing.
use Rattle.std.proofs.Common.{◌≡◌, ℕ, zero, suc, ◌*◌, ◌<◌, ◌≤◌, false, List, [], ◌∷◌, length, replicate, get_or}
use Rattle.std.proofs.Common.{Option, Some, None, Ok, Err, inr, refl, arith, ap, sym, subst, ◌∙◌}
use Rattle.std.specs.Prelude.{IsSome, option_map}
use Rattle.std.specs.List.{flat_map}
use Rattle.std.specs.Option.{option_to_list}
use Rattle.worm_mesh.specs.Address.{node_count, neighbour_of}
use Rattle.worm_router.specs.Router.{RouterState, terminal}
use Rattle.worm_router.specs.Allocation.{after_allocate, after_choose, switch_grants}
use Rattle.worm_router.specs.Rest.{IsAtRest, OwesNothing}
use Rattle.worm_swalloc.specs.declared.grant.SwGrant.{SwGrant}
use Rattle.worm_term.specs.Source.{front_of}
use Rattle.worm_theory.specs.Steps.{Step, Feed, Send, Take, TakeCredit}
use Rattle.worm_region.specs.Shape.{net_shape}
use Rattle.worm_region.specs.State.{NetState, node_at, router_at, source_at, with_router}
use Rattle.worm_region.specs.Workable.{IsWorkable}
use Rattle.worm_node.specs.Node.{can_enter}
use Rattle.worm_region.specs.Moves.{NothingComes, can_get, chosen_router, front_credit, front_into}
use Rattle.worm_region.specs.Resting.{IsResting, nth_node}
use Rattle.worm_region.specs.Replies.{Attempts}
use Rattle.worm_region.specs.Turns.{Each, all_ports, granted_send, SendsGrantedBy, GivesCreditBy}
use Rattle.worm_region.specs.Turns.{NodePassesBy, ComesInBy}
use Rattle.worm_region.specs.declared.step.Moved.TheVariants.{Idle}
use Rattle.worm_region.specs.declared.fault.StepFault.TheVariants.{NoSuchPlace}
use Rattle.worm_region.proofs.GetAgrees.{get_answers}
use Rattle.worm_region.proofs.TakeAgrees.{take_answers}
use Rattle.worm_region.proofs.FeedAgrees.{feed_answers}
use Rattle.worm_region.proofs.FrameKept.{is_nth}
use Rattle.worm_region.proofs.NodeWritten.{with_router_same}
use Rattle.worm_region.proofs.TurnInParts.{gives_none, owed_lowest}
use Rattle.worm_region.proofs.RoutedStays.{each_still, numbers_still, node_still}

-- a credit or a flit that is tried where there is none

pub credit_still : (s : NetState) (x p : ℕ) (n : Option ℕ) → IsWorkable s → x < node_count s.mesh →
    neighbour_of s.mesh x p ≡ n → (IsSome (neighbour_of s.mesh x p) → front_credit s x p ≡ None) →
    Attempts (TakeCredit x p) s None s
unfolding net_shape
credit_still s x p (Some y) net x_in e none =
    let linked : IsSome (neighbour_of s.mesh x p) = subst IsSome (sym e) refl in
    let nothing : can_get (router_at s x) p (front_credit s x p) ≡ false =
    ap (λ (o : Option ℕ). can_get (router_at s x) p o) (none linked) in
    (Ok Idle, (get_answers s x p net linked false s (sym nothing) refl).1, refl)
credit_still s x p None net x_in e none =
    (Err NoSuchPlace, (λ there. let no : IsSome {T = ℕ} None = subst IsSome e there.1 in absurd (cc), refl), refl)

pub flit_still : (s : NetState) (x p : ℕ) (n : Option ℕ) → IsWorkable s → x < node_count s.mesh →
    neighbour_of s.mesh x p ≡ n → (IsSome (neighbour_of s.mesh x p) → front_into s x p ≡ None) →
    Attempts (Take x p) s None s
unfolding net_shape
flit_still s x p (Some y) net x_in e none =
    let linked : IsSome (neighbour_of s.mesh x p) = subst IsSome (sym e) refl in
    let nothing : can_enter (router_at s x) p (front_into s x p) ≡ false =
    ap (can_enter (router_at s x) p) (none linked) in
    (Ok Idle, (take_answers s x p net linked false s (sym nothing) refl).1, refl)
flit_still s x p None net x_in e none =
    (Err NoSuchPlace, (λ there. let no : IsSome {T = ℕ} None = subst IsSome e there.1 in absurd (cc), refl), refl)

pub feed_still : (s : NetState) (x k : ℕ) → IsWorkable s → x < node_count s.mesh → k < length s.channels →
    can_enter (router_at s x) (terminal (router_at s x)) (front_of (source_at s x) k) ≡ false →
    Attempts (Feed x k) s None s
unfolding net_shape
feed_still s x k net x_in k_in nothing = (Ok Idle, (feed_answers s x k net (x_in, k_in) false (sym nothing)).1, refl)

-- the allocators

same_all_through : {A : Type 0} (d : A) (n p : ℕ) → get_or (replicate n d) p d ≡ d
same_all_through d zero p = refl
same_all_through d (suc n) zero = refl
same_all_through d (suc n) (suc p) = same_all_through d n p

all_empty : (f : ℕ → List Step) (ns : List ℕ) → ((n : ℕ) → f n ≡ []) → flat_map f ns ≡ []
all_empty f [] none = refl
all_empty f (n ∷ ns) none = rw (none n) (all_empty f ns none)

sends_nothing : (grants : List (Option SwGrant)) (x p : ℕ) → grants ≡ replicate 7 None → granted_send grants x p ≡ []
sends_nothing grants x p is =
    ap (λ (gs : List (Option SwGrant)). granted_send gs x p) is
    ∙ ap (λ (g : Option SwGrant). option_to_list (option_map (λ g. Send x p g.vc) g)) (same_all_through None 7 p)

sends_still : (s : NetState) (x : ℕ) → x < length s.nodes → after_choose (router_at s x) ≡ router_at s x →
    switch_grants (router_at s x) ≡ replicate 7 None → SendsGrantedBy Attempts x s None s
unfolding chosen_router
sends_still s x there same none =
    let r = router_at s x in
    let chosen : with_router s x (after_choose r) ≡ s =
    ap (λ (q : RouterState). with_router s x q) same ∙ with_router_same s x there in
    let nobody : flat_map (granted_send (switch_grants r) x) (all_ports s) ≡ [] =
    all_empty (granted_send (switch_grants r) x) (all_ports s) (λ p. sends_nothing (switch_grants r) x p none) in
    subst (λ (steps : List Step). Each Attempts steps (with_router s x (after_choose r)) None s) (sym nobody) (
      refl,
      sym chosen,
    )

-- the credits

pub gives_still : (s : NetState) (x p : ℕ) → p ≤ terminal (router_at s x) → OwesNothing (router_at s x) →
    GivesCreditBy Attempts x p s None s
gives_still s x p p_in owes =
    (gives_none x p s (owed_lowest (router_at s x) p None tt tt (λ v below. owes p v p_in below))).exact

pub comes_still : (s : NetState) (x : ℕ) → IsWorkable s → x < node_count s.mesh → IsAtRest (router_at s x) →
    NothingComes s x
    → ComesInBy Attempts x s None s
comes_still s x net x_in rest nothing =
    inr (
      s,
      each_still Attempts (TakeCredit x) s (2 * length s.mesh) 0
          (λ p below. credit_still s x p (neighbour_of s.mesh x p) net x_in refl (nothing.no_credit p)),
      inr (
        s,
        each_still Attempts (Take x) s (2 * length s.mesh) 0
            (λ p below. flit_still s x p (neighbour_of s.mesh x p) net x_in refl (nothing.no_flit p)),
        inr (
          s,
          each_still Attempts (Feed x) s (length s.channels) 0
              (λ k below. feed_still s x k net x_in (omega arith) (nothing.no_feed k (omega arith))),
          node_still s x net x_in rest.routes_nothing,
        ),
      ),
    )

pub node_rests : (s : NetState) (x : ℕ) → IsWorkable s → x < node_count s.mesh → IsAtRest (router_at s x) →
    NothingComes s x
    → NodePassesBy Attempts x s None s
node_rests s x net x_in rest nothing =
    let all = net.framed.all_nodes in
    let there : x < length s.nodes = omega arith in
    let node = net.framed.each_node x (omega arith) in
    let allocated : with_router s x (after_allocate (router_at s x)) ≡ s =
    ap (λ (q : RouterState). with_router s x q) rest.allocates_nothing ∙ with_router_same s x there in
    inr (
      s,
      comes_still s x net x_in rest nothing,
      inr (
        s,
        (refl, sym allocated),
        inr (
          s,
          sends_still s x there rest.chooses_nothing rest.grants_nothing,
          numbers_still (GivesCreditBy Attempts x) s (2 * length s.mesh) 0
              (λ p below. gives_still s x p (rw node.same_mesh (omega arith)) rest.owes_nothing),
        ),
      ),
    )

-- a node whose router is at rest, and whose source has nothing to feed
pub found_resting : (s : NetState) (x : ℕ) → IsWorkable s → x < node_count s.mesh → IsAtRest (router_at s x) →
    ((k : ℕ) → k < length s.channels →
    can_enter (router_at s x) (terminal (router_at s x)) (front_of (source_at s x) k) ≡ false)
    → IsResting (nth_node s.nodes x)
found_resting s x net x_in rest no_feed =
    let all = net.framed.all_nodes in
    let node = net.framed.each_node x (omega arith) in
    subst IsResting (sym (is_nth s x net.framed x_in))
    (record { rest = rest; no_feed = λ k below. no_feed k (rw node.source_channels at below) })

-- where no link brings anything, a still node rests
pub still_rests : (s : NetState) (x : ℕ) → IsWorkable s → x < node_count s.mesh → IsResting (nth_node s.nodes x)
    → ((p : ℕ) → IsSome (neighbour_of s.mesh x p) → front_credit s x p ≡ None)
    → ((p : ℕ) → IsSome (neighbour_of s.mesh x p) → front_into s x p ≡ None)
    → ComesInBy Attempts x s None s × IsAtRest (router_at s x) × NodePassesBy Attempts x s None s
still_rests s x net x_in still no_credit no_flit =
    let all = net.framed.all_nodes in
    let node = net.framed.each_node x (omega arith) in
    let here : IsResting (node_at s x) = subst IsResting (is_nth s x net.framed x_in) still in
    let nothing : NothingComes s x = record {
      no_credit = no_credit;
      no_flit = no_flit;
      no_feed = λ k below. here.no_feed k (rw node.source_channels below);
    } in
    (comes_still s x net x_in here.rest nothing, here.rest, node_rests s x net x_in here.rest nothing)
