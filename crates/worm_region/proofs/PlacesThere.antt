-- A port or a place of the theory is one of the network's routers, and a channel with a flit is a place of the theory.
use Rattle.std.proofs.Common.{◌≡◌, ℕ, ◌*◌, ◌<◌, ◌≤◌, true, inl, inr, [], ◌∷◌, length, nat_lt, refl}
use Rattle.std.proofs.Common.{subst, sym, ◌∙◌, ◌&&◌, arith, Bool, false}
use Rattle.std.specs.Prelude.{All, IsSome, List, Option, Some, None}
use Rattle.std.proofs.lemmas.List.Elements.{All-head}
use Rattle.worm_flit.specs.declared.Flit.{Flit}
use Rattle.worm_mesh.specs.Address.{neighbour_of, node_count}
use Rattle.worm_mesh.proofs.Digits.{AreLarge, AreLarge-from_radices}
use Rattle.worm_mesh.proofs.Neighbours.{Joins-from}
use Rattle.worm_router.specs.Router.{input_at, is_idle}
use Rattle.worm_router.specs.Busy.{IsSetOf, is_occupied, lacks_route}
use Rattle.worm_theory.specs.Steps.{IsPort, IsThere, Send}
use Rattle.worm_region.specs.Shape.{net_shape}
use Rattle.worm_region.specs.State.{NetState, IsFramed, IsNetPlace, router_at, shape}
use Rattle.worm_region.specs.Turns.{AreThere}
use Rattle.worm_region.specs.Workable.{IsKept, IsWorkable}
use Rattle.worm_region.proofs.AsListed.{buffer_there}

-- a port with a neighbour is below the terminal
pub linked_port : (ks : List ℕ) (x p : ℕ) → AreLarge ks → (o : Option ℕ) → neighbour_of ks x p ≡ o → IsSome o →
    p < 2 * length ks
linked_port ks x p l None e some = absurd (cc)
linked_port ks x p l (Some y) e some = (Joins-from ks x p y l e).mesh_port

-- a port of the theory is one of the router
pub port_below : (s : NetState) (x p : ℕ) → IsFramed s → IsPort (shape s) x p → p ≤ 2 * length s.mesh
unfolding net_shape
port_below s x p framed port =
    let l = AreLarge-from_radices s.mesh framed.radices.radices in
    elim port [
      | inl e ↦ let same : p ≡ 2 * length s.mesh = e in omega arith
      | inr some ↦
          let below : p < 2 * length s.mesh = linked_port s.mesh x p l (neighbour_of s.mesh x p) refl some in
          omega arith
    ]

-- a place of the theory is a place of the router
pub net_place : (s : NetState) (x p v : ℕ) → IsFramed s → x < (shape s).nodes → IsPort (shape s) x p →
    v < (shape s).vcs → IsNetPlace s x p v
unfolding net_shape
net_place s x p v framed x_in port v_in =
    let all = framed.all_nodes in
    let there : x < length s.nodes = omega arith in
    let node = framed.each_node x there in
    let port_in : p ≤ 2 * length s.mesh = port_below s x p framed port in
    record {
      node_in = there;
      place = record { port_in = rw node.same_mesh port_in; channel_in = rw node.same_channels v_in };
    }

-- the same of the lists that a region has, where whoever has it sees the place
pub place_inside : (s seen : NetState) (x p v : ℕ) → s ≡ seen → IsFramed s → IsThere (shape seen) (Send x p v)
    → IsNetPlace s x p v
place_inside s seen x p v same framed there_seen =
    let there = subst (λ (t : NetState). IsThere (shape t) (Send x p v)) (sym same) there_seen in
    net_place s x p v framed there.0 there.1 there.2

-- a channel with a flit is there
pub flit_there : (s : NetState) (x p v : ℕ) (f : Flit) (rest : List Flit) → IsWorkable s → x < node_count s.mesh
    → IsNetPlace s x p v → (input_at (router_at s x) p v).buffer ≡ f ∷ rest → IsThere (shape s) (Send x p v)
unfolding net_shape
flit_there s x p v f rest net x_in place b =
    let node = net.framed.each_node x place.node_in in
    let all =
    subst (λ (fs : List Flit). All (IsKept (shape s) x p) fs) (buffer_there s x p v place ∙
    b) (net.works.buffered x p v) in
    (x_in, (All-head (IsKept (shape s) x p) f rest all).port, rw (← node.same_channels) place.place.channel_in)

occupied_there : (s : NetState) (x p v : ℕ) → IsWorkable s → x < node_count s.mesh → IsNetPlace s x p v
    → (fs : List Flit) → (input_at (router_at s x) p v).buffer ≡ fs → nat_lt 0 (length fs) ≡ true
    → IsThere (shape s) (Send x p v)
occupied_there s x p v net x_in place [] b some = absurd (cc)
occupied_there s x p v net x_in place (f ∷ rest) b some = flit_there s x p v f rest net x_in place b

has_flit : (idle full : Bool) → (idle && full) ≡ true → full ≡ true
has_flit true full e = e
has_flit false full e = absurd (cc)

-- and so are the channels that lack a route
pub unrouted_there : (s : NetState) (x set : ℕ) → IsWorkable s → x < node_count s.mesh
    → IsSetOf lacks_route (router_at s x) set → AreThere s x set
unrouted_there s x set net x_in unrouted = λ p v p_in v_in on.
    let all = net.framed.all_nodes in
    let c = input_at (router_at s x) p v in
    let place = unrouted.outside p v p_in v_in on in
    let lacks = sym (unrouted.inside p v place.0 place.1) ∙ on in
    occupied_there s x p v net x_in
    (record { node_in = omega arith; place = record { port_in = place.0; channel_in = place.1 } })
    c.buffer refl (has_flit (is_idle c.state) (is_occupied c) lacks)
