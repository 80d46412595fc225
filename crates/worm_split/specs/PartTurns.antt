-- The turn of a node in a worker's part: the turn of a node, in which what goes to another worker goes by the worker's
-- end of the link, and what comes from one comes by it (Dally and Towles, chapters 13 and 16).
use Rattle.std.specs.Prelude.{ℕ, ◌≡◌, ◌≤◌, ◌⊎◌, List, [], ◌∷◌, ◌++◌, length, filter, slice_set}
use Rattle.std.specs.Prelude.{false, slice_index_or, Option, Some, None}
use Rattle.std.specs.Option.{option_to_list}
use Rattle.worm_flit.specs.declared.Flit.{Flit}
use Rattle.worm_flit.specs.SmallSet.{has}
use Rattle.worm_mesh.specs.Address.{neighbour_of, opposite_of}
use Rattle.worm_mesh.specs.Links.{links_before}
use Rattle.worm_links.specs.Links.{TxView, RxView, CreditTxView, CreditRxView, link_capacity}
use Rattle.worm_router.specs.Router.{leaving, after_send, after_gave}
use Rattle.worm_router.specs.Allocation.{switch_grants}
use Rattle.worm_theory.specs.Steps.{Send, GiveCredit}
use Rattle.worm_region.specs.State.{NetState, router_at, with_router, network_of}
use Rattle.worm_region.specs.Edges.{after_arriving, after_credit_back}
use Rattle.worm_region.specs.Moves.{chosen_router}
use Rattle.worm_region.specs.Replies.{Attempts}
use Rattle.worm_region.specs.Turns.{Each, PassageOf, ◌and_then◌}
use Rattle.worm_region.specs.Turns.{ComesInBy, AsksSourceBy, Passage, Allocates, lowest_owed, mesh_ports}
use Rattle.worm_region.specs.Turns.{all_ports, all_nodes}
use Rattle.worm_script.specs.declared.entry.Entry.{Entry}
use Rattle.worm_split.specs.declared.ends.End.{End}
use Rattle.worm_split.specs.declared.ends.End.TheVariants.{Leaving, Entering}
use Rattle.worm_region.specs.Workable.{owned}
use Rattle.worm_swalloc.specs.declared.grant.SwGrant.{SwGrant}
use Rattle.worm_split.specs.PartState.{PartState, end_of}

-- Passages of a part

-- what is done to a part
abbrev pub PartPassage : Type 1
PartPassage = PassageOf PartState

-- the network of the part moves, as a network does by itself, and no end
abbrev pub Within : Passage → PartPassage
Within P old fault new = P old.net fault new.net × (new ≡ record old { net = new.net })

-- What goes over the ends

-- the part with this end of the link by port o of node y, and this network
abbrev pub with_end : PartState → ℕ → ℕ → End → NetState → PartState
with_end p y o e net = record p { net = net; ends = slice_set p.ends (links_before p.net.mesh y o) e }

-- a credit that came back by this end of the link out of port o of node x, which leads to node y, stands behind the
-- credits of its list
abbrev pub with_credit : PartState → ℕ → ℕ → ℕ → TxView → CreditRxView → ℕ → PartState
with_credit p x o y tx back c =
    with_end p x o (Leaving tx (record back { taken = back.taken ++ c ∷ [] }))
    (after_credit_back p.net y (opposite_of o) c)

pub record CreditComes (x o : ℕ) (old new : PartState) : Type 0 where
  pub beyond : ℕ
  pub tx : TxView
  pub back : CreditRxView
  pub credit : ℕ
  pub linked : neighbour_of old.net.mesh x o ≡ Some beyond
  pub end : end_of old x o ≡ Leaving tx back
  -- one is taken only where none waits
  pub none_waits : (network_of old.net).credit_list x o ≡ []
  pub exact : new ≡ with_credit old x o beyond tx back credit

-- a credit is asked for, and one comes or none does
abbrev pub PullsCredit : ℕ → ℕ → PartPassage
PullsCredit x o old fault new = (fault ≡ None) × ((new ≡ old) ⊎ CreditComes x o old new)

-- a flit that came by this end of the link into port p of node x, from node y, stands behind the flits of its list
abbrev pub with_flit : PartState → ℕ → ℕ → RxView → CreditTxView → Flit → PartState
with_flit part y o rx give f =
    with_end part y o (Entering (record rx { taken = rx.taken ++ f ∷ [] }) give) (after_arriving part.net y o f)

pub record FlitComes (x p : ℕ) (old new : PartState) : Type 0 where
  pub beyond : ℕ
  pub rx : RxView
  pub give : CreditTxView
  pub flit : Flit
  pub linked : neighbour_of old.net.mesh x p ≡ Some beyond
  pub end : end_of old beyond (opposite_of p) ≡ Entering rx give
  pub none_waits : (network_of old.net).out beyond (opposite_of p) ≡ []
  pub exact : new ≡ with_flit old beyond (opposite_of p) rx give flit

abbrev pub PullsFlit : ℕ → ℕ → PartPassage
PullsFlit x p old fault new = (fault ≡ None) × ((new ≡ old) ⊎ FlitComes x p old new)

-- by a port that is not in the set no link leads from a worker's node to another worker's
abbrev pub AreShared : NetState → ℕ → Type 0
AreShared net shared = (x o y : ℕ) → neighbour_of net.mesh x o ≡ Some y → has shared o ≡ false
    → owned net y ≡ owned net x

-- The flit that is ready leaves by a link to another worker: its push lands, and it left; or the push comes back full,
-- and nothing is done. It comes back full only where as many flits were sent as the queue holds.
pub record SendsAcross (x p v : ℕ) (old new : PartState) : Type 0 where
  pub out : ℕ
  pub flit : Flit
  pub tx : TxView
  pub back : CreditRxView
  pub ready : leaving (router_at old.net x) p v ≡ Some (out, flit)
  pub end : end_of old x out ≡ Leaving tx back
  pub answer : (new ≡ with_end old x out (Leaving (record tx { sent = tx.sent ++ flit ∷ [] }) back)
      (with_router old.net x (after_send (router_at old.net x) p v)))
      ⊎ ((new ≡ old) × (link_capacity tx.link ≤ length tx.sent))

-- what leaves a node leaves by this port for another worker
abbrev pub LeavesBy : PartState → ℕ → ℕ → Type 0
LeavesBy part x o = (tx : TxView) × (back : CreditRxView) × (end_of part x o ≡ Leaving tx back)

-- what is ready, if anything, stays within the part
abbrev pub StaysWithin : PartState → ℕ → Option (ℕ × Flit) → Type 0
StaysWithin part x None = Unit {0}
StaysWithin part x (Some d) = LeavesBy part x d.0 → ⊥

-- a channel sends, over a link to another worker or within the part
abbrev pub Sends : ℕ → ℕ → ℕ → PartPassage
Sends x p v old fault new =
    ((fault ≡ None) × SendsAcross x p v old new)
    ⊎ (StaysWithin old x (leaving (router_at old.net x) p v) × Within (Attempts (Send x p v)) old fault new)

-- A credit that is owed goes back over a link to another worker: its push lands, and it is given; or the push comes
-- back full, and nothing is done. It comes back full only where as many credits were given as the line holds.
pub record GivesAcross (x p v : ℕ) (old new : PartState) : Type 0 where
  pub beyond : ℕ
  pub rx : RxView
  pub give : CreditTxView
  pub linked : neighbour_of old.net.mesh x p ≡ Some beyond
  pub end : end_of old beyond (opposite_of p) ≡ Entering rx give
  pub answer : (new ≡ with_end old beyond (opposite_of p) (Entering rx (record give { sent = give.sent ++ v ∷ [] }))
      (with_router old.net x (after_gave (router_at old.net x) p v)))
      ⊎ ((new ≡ old) × (link_capacity give.link ≤ length give.sent))

-- what comes in by this port comes from another worker
abbrev pub ComesBy : PartState → ℕ → ℕ → Type 0
ComesBy part x p = (y : ℕ) × (neighbour_of part.net.mesh x p ≡ Some y)
    × ((rx : RxView) × (give : CreditTxView) × (end_of part y (opposite_of p) ≡ Entering rx give))

-- a credit is given, over a link to another worker or within the part
abbrev pub Gives : ℕ → ℕ → ℕ → PartPassage
Gives x p v old fault new =
    ((fault ≡ None) × GivesAcross x p v old new)
    ⊎ ((ComesBy old x p → ⊥) × Within (Attempts (GiveCredit x p v)) old fault new)

-- The turn of a node

-- a credit is asked for of each link out of the node, and a flit of each link into it
abbrev pub PullsCredits : ℕ → PartPassage
PullsCredits x old fault new = Each (PullsCredit x) (mesh_ports old.net) old fault new

abbrev pub PullsFlits : ℕ → PartPassage
PullsFlits x old fault new = Each (PullsFlit x) (mesh_ports old.net) old fault new

-- what was granted to an input port is sent
abbrev pub SendsGrant : List (Option SwGrant) → ℕ → ℕ → PartPassage
SendsGrant grants x p = Each (λ (g : SwGrant). Sends x p g.vc) (option_to_list (slice_index_or grants p None))

abbrev pub SendsGrants : List (Option SwGrant) → ℕ → PartPassage
SendsGrants grants x old fault new = Each (SendsGrant grants x) (all_ports old.net) old fault new

-- one pass of the switch allocator, and then what it granted is sent, by input port
abbrev pub SendsGranted : ℕ → PartPassage
SendsGranted x old fault new =
    SendsGrants (switch_grants (router_at old.net x)) x
    (record old { net = with_router old.net x (chosen_router (router_at old.net x)) }) fault new

-- a credit of the lowest channel that owes one is given to each link into the node
abbrev pub GivesCredit : ℕ → ℕ → PartPassage
GivesCredit x p old fault new = Each (Gives x p) (option_to_list (lowest_owed (router_at old.net x) p)) old fault new

abbrev pub GivesCredits : ℕ → PartPassage
GivesCredits x old fault new = Each (GivesCredit x) (mesh_ports old.net) old fault new

-- what a node does in a turn once its source and its links were asked
abbrev pub NodePasses : ℕ → PartPassage
NodePasses x =
    Within (ComesInBy Attempts x) and_then Within (Allocates x) and_then SendsGranted x
    and_then GivesCredits x

-- the turn of a node, with these entries for all nodes
abbrev pub NodeTurn : List Entry → ℕ → PartPassage
NodeTurn entries x =
    Within (AsksSourceBy Attempts entries x) and_then PullsCredits x and_then PullsFlits x and_then NodePasses x

-- the turns of the part's nodes, by rising number
abbrev pub own_nodes : PartState → List ℕ
own_nodes p = filter (owned p.net) (all_nodes p.net)

abbrev pub Turn : List Entry → PartPassage
Turn entries old fault new = Each (NodeTurn entries) (own_nodes old) old fault new
