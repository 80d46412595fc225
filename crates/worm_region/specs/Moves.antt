-- What the moves of a network make of its lists, in the words of routers, terminals and links (Dally and Towles,
-- chapters 13 and 16).
use Rattle.std.specs.Prelude.{ℕ, ◌*◌, ◌<◌, ◌≡◌, ◌==◌, Bool, true, false, nat_lt, if◌then◌else◌, List, [], ◌∷◌}
use Rattle.std.specs.Prelude.{◌++◌, length, drop, slice_get, slice_index_or, Option, Some, None, IsSome, Result}
use Rattle.std.specs.Prelude.{Ok, Err}
use Rattle.worm_flit.specs.declared.Flit.{Flit}
use Rattle.worm_flit.specs.SmallSet.{has as has_small}
use Rattle.worm_mesh.specs.Address.{neighbour_of}
use Rattle.worm_mesh.specs.Links.{links_before}
use Rattle.worm_router.specs.Router.{RouterState, IsPlace, terminal, width, input_at, output_at, leaving, after_accept}
use Rattle.worm_router.specs.Router.{after_route, after_grant, after_send, after_gave, after_credit, can_route}
use Rattle.worm_router.specs.Allocation.{after_choose}
use Rattle.worm_swalloc.specs.declared.grant.SwGrant.{SwGrant}
use Rattle.worm_term.specs.Source.{front_of, after_offer, after_close}
use Rattle.worm_theory.specs.Steps.{Step, Offer, CloseLane, Feed, Route, Grant, Send, Take, GiveCredit, TakeCredit}
use Rattle.worm_node.specs.Node.{can_enter, delivered_node, fed_node}
use Rattle.worm_wires.specs.Wiring.{into_from}
use Rattle.worm_region.specs.State.{NetState, node_at, router_at, source_at, link_at, with_node, with_router}
use Rattle.worm_region.specs.State.{with_source, with_link}
use Rattle.worm_region.specs.declared.step.Moved.{Moved}
use Rattle.worm_region.specs.declared.step.Moved.TheVariants.{Done, Idle}
use Rattle.worm_region.specs.declared.fault.StepFault.{StepFault}
use Rattle.worm_region.specs.declared.fault.StepFault.TheVariants.{NoSuchPlace, Refused, NoMemory}

-- the router after a pass of its switch allocator; kept closed in goals
unfoldable pub chosen_router : RouterState → RouterState
chosen_router r = after_choose r

-- a set of mesh ports or of classes, of which there are so many, and at each that is left out there is none
pub record Covers (NoneAt : ℕ → Type 0) (count set : ℕ) : Type 0 where
  pub rest : (n : ℕ) → n < 8 → n < count → has_small set n ≡ false → NoneAt n
  pub places : (n : ℕ) → n < 8 → has_small set n ≡ true → n < count

-- a flit may leave this channel now
pub record IsReady (r : RouterState) (p v : ℕ) : Type 0 where
  pub place : IsPlace r p v
  pub leaves : IsSome (leaving r p v)

-- what is granted to each input port is ready
pub record AreReady (r : RouterState) (grants : List (Option SwGrant)) : Type 0 where
  pub each : (p : ℕ) (g : SwGrant) → slice_index_or grants p None ≡ Some g → IsReady r p g.vc

-- the number of the link that comes into a port
abbrev pub link_into : NetState → ℕ → ℕ → ℕ
link_into s x p = into_from s.mesh p (neighbour_of s.mesh x p)

abbrev pub link_out : NetState → ℕ → ℕ → ℕ
link_out s x o = links_before s.mesh x o

-- the front flit of the link into a port
abbrev pub front_into : NetState → ℕ → ℕ → Option Flit
front_into s x p = slice_get (link_at s (link_into s x p)).flits 0

-- Take: the front of the link k goes into the node's buffer
abbrev pub after_take : NetState → ℕ → ℕ → ℕ → Option Flit → NetState
after_take s x p k None = s
after_take s x p k (Some f) =
    with_link (with_router s x (after_accept (router_at s x) p f)) k
    (record (link_at s k) { flits = drop 1 (link_at s k).flits })

-- Send: the front leaves by the port d.0 as the flit d.1, into the sink or onto the link
abbrev pub after_sending : NetState → ℕ → ℕ → ℕ → ℕ × Flit → NetState
after_sending s x p v d =
    if d.0 == 2 * length s.mesh then with_node s x (delivered_node (node_at s x) p v d.1)
    else with_link (with_router s x (after_send (router_at s x) p v)) (link_out s x d.0)
    (record (link_at s (link_out s x d.0)) { flits = (link_at s (link_out s x d.0)).flits ++ d.1 ∷ [] })

-- what leaves goes into the sink, or by a port that has a link with room
abbrev pub LeavesByLink : NetState → ℕ → Option (ℕ × Flit) → Type 0
LeavesByLink s x None = Unit {0}
LeavesByLink s x (Some d) =
    (d.0 == 2 * length s.mesh) ≡ false → IsSome (neighbour_of s.mesh x d.0) ×
    (length (link_at s (link_out s x d.0)).flits < (link_at s (link_out s x d.0)).room)

-- what leaves for the sink is at home
abbrev pub HasWay : NetState → ℕ → Option (ℕ × Flit) → Type 0
HasWay s x None = Unit {0}
HasWay s x (Some d) = (d.0 == 2 * length s.mesh) ≡ true → d.1.lane.dst ≡ x

abbrev pub Sends : NetState → ℕ → ℕ → ℕ → Option (ℕ × Flit) → Result Moved StepFault → NetState → Type 0
Sends old x p v None (Ok Done) new = ⊥
Sends old x p v None (Ok Idle) new = new ≡ old
Sends old x p v None (Err fault) new = ⊥
Sends old x p v (Some d) (Ok Done) new = HasWay old x (Some d) × (new ≡ after_sending old x p v d)
Sends old x p v (Some d) (Ok Idle) new = (HasWay old x (Some d) → ⊥) × (new ≡ old)
Sends old x p v (Some d) (Err NoSuchPlace) new = ⊥
Sends old x p v (Some d) (Err (Refused fault)) new = ⊥
Sends old x p v (Some d) (Err NoMemory) new =
    ((d.0 == 2 * length old.mesh) ≡ true) × (new ≡ old) × HasWay old x (Some d)

-- GiveCredit: a credit owed goes to the end of the credits of the link k, which comes into the port
abbrev pub can_give : NetState → ℕ → ℕ → ℕ → Bool
can_give s x p v = nat_lt 0 (input_at (router_at s x) p v).owed

abbrev pub after_giving : NetState → ℕ → ℕ → ℕ → ℕ → NetState
after_giving s x p v k =
    with_link (with_router s x (after_gave (router_at s x) p v)) k
    (record (link_at s k) { credits = (link_at s k).credits ++ v ∷ [] })

-- TakeCredit: the front credit of the link out of the port goes to its channel's count
abbrev pub front_credit : NetState → ℕ → ℕ → Option ℕ
front_credit s x o = slice_get (link_at s (link_out s x o)).credits 0

abbrev pub CreditFits : RouterState → ℕ → Option ℕ → Type 0
CreditFits r o None = Unit {0}
CreditFits r o (Some c) = IsPlace r o c

abbrev pub can_get : RouterState → ℕ → Option ℕ → Bool
can_get r o None = false
can_get r o (Some c) = if (output_at r o c).credits == r.depth then false else true

abbrev pub after_getting : NetState → ℕ → ℕ → Option ℕ → NetState
after_getting s x o None = s
after_getting s x o (Some c) =
    with_link (with_router s x (after_credit (router_at s x) o c)) (link_out s x o)
    (record (link_at s (link_out s x o)) { credits = drop 1 (link_at s (link_out s x o)).credits })

-- by the port no credit comes back, or no flit comes in
abbrev pub NoCredit : NetState → ℕ → ℕ → Type 0
NoCredit s x p = IsSome (neighbour_of s.mesh x p) → front_credit s x p ≡ None

abbrev pub NoFlit : NetState → ℕ → ℕ → Type 0
NoFlit s x p = IsSome (neighbour_of s.mesh x p) → front_into s x p ≡ None

-- the source has no flit of the class for which the injection buffer has room
abbrev pub NoFeed : NetState → ℕ → ℕ → Type 0
NoFeed s x k = can_enter (router_at s x) (terminal (router_at s x)) (front_of (source_at s x) k) ≡ false

-- a set of mesh ports, by each of which the node has a neighbour
abbrev pub AreLinked : NetState → ℕ → ℕ → Type 0
AreLinked s x set = (p : ℕ) → p < 8 → has_small set p ≡ true → IsSome (neighbour_of s.mesh x p)

-- Nothing can come into a node: no credit is on a link out of it, no flit on a link into it, and its source has no
-- flit for which there is room.
pub record NothingComes (s : NetState) (x : ℕ) : Type 0 where
  pub no_credit : (p : ℕ) → NoCredit s x p
  pub no_flit : (p : ℕ) → NoFlit s x p
  pub no_feed : (k : ℕ) → k < length s.channels →
      can_enter (router_at s x) (terminal (router_at s x)) (front_of (source_at s x) k) ≡ false

-- the channel of a port owes what it owed
pub record OwesTheSame (old new : NetState) (x p v : ℕ) : Type 0 where
  pub there : v < width (router_at old x)
  pub owed : (input_at (router_at new x) p v).owed ≡ (input_at (router_at old x) p v).owed

-- the channel of a port has to route what it had
pub record RoutesTheSame (old new : NetState) (x p v : ℕ) : Type 0 where
  pub there : v < width (router_at old x)
  pub routes : can_route (router_at new x) p v ≡ can_route (router_at old x) p v

-- Send, whatever is ready to leave
abbrev pub after_ready : NetState → ℕ → ℕ → ℕ → Option (ℕ × Flit) → NetState
after_ready s x p v None = s
after_ready s x p v (Some d) = after_sending s x p v d

-- what a step makes of a network's lists, where it is done
abbrev pub done_step : NetState → Step → NetState
done_step s (Offer x lane words) =
    with_source s x (after_offer (source_at s x) (record { lane = lane; words = words }))
done_step s (CloseLane x lane) = with_source s x (after_close (source_at s x) lane)
done_step s (Feed x k) = with_node s x (fed_node (node_at s x) k (front_of (source_at s x) k))
done_step s (Route x p v) = with_router s x (after_route (router_at s x) p v)
done_step s (Grant x p v c) = with_router s x (after_grant (router_at s x) p v c)
done_step s (Send x p v) = after_ready s x p v (leaving (router_at s x) p v)
done_step s (Take x p) = after_take s x p (link_into s x p) (front_into s x p)
done_step s (GiveCredit x p v) = after_giving s x p v (link_into s x p)
done_step s (TakeCredit x o) = after_getting s x o (front_credit s x o)
