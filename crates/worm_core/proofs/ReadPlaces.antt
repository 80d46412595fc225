-- What a buffer and a link hold of a lane, in the words of the router and of the list of links that are read.
use Rattle.std.proofs.Common.{ℕ, ◌≡◌, ◌*◌, ◌<◌, ◌≤◌, length, sum, true, arith, ap, sym, ◌∙◌}
use Rattle.worm_flit.specs.declared.Lane.{Lane}
use Rattle.worm_flit.specs.Stamps.{of_lane, on_channel}
use Rattle.worm_mesh.specs.Address.{node_count, has_neighbour}
use Rattle.worm_router.specs.Router.{ChannelState, input_at}
use Rattle.worm_region.specs.State.{NetState, IsFramed, IsNetPlace, router_at, link_at}
use Rattle.worm_wires.specs.Links.{LinkView}
use Rattle.worm_region.specs.Moves.{link_out}
use Rattle.worm_core.specs.LaneView.{at_place, buffer_held, link_held}
use Rattle.worm_core.specs.declared.view.Place.TheVariants.{Buffer, Link}
use Rattle.worm_region.proofs.NodeWritten.{input_of-there}
use Rattle.worm_region.proofs.LinkWritten.{link_there}

-- a port and a channel of a framed network are those of its routers
pub framed_place : (s : NetState) (x p v : ℕ) → IsFramed s → x < node_count s.mesh → p ≤ 2 * length s.mesh
    → v < sum s.channels → IsNetPlace s x p v
framed_place s x p v framed x_in port_in v_in =
    let all = framed.all_nodes in
    let there : x < length s.nodes = omega arith in
    let node = framed.each_node x there in
    record {
      node_in = there;
      place = record {
        port_in = rw node.same_mesh port_in;
        channel_in = rw node.same_channels v_in;
      };
    }

pub buffer_read : (s : NetState) (lane : Lane) (x p v : ℕ) → IsNetPlace s x p v
    → buffer_held s lane x p v ≡ at_place (Buffer x p v) (of_lane lane (input_at (router_at s x) p v).buffer)
buffer_read s lane x p v place =
    ap (λ (c : ChannelState). at_place (Buffer x p v) (of_lane lane c.buffer))
    (input_of-there (router_at s x) p v place.place.channel_in)

pub link_read : (s : NetState) (lane : Lane) (x o v : ℕ) (link : LinkView) → has_neighbour s.mesh x o ≡ true
    → link ≡ link_at s (link_out s x o)
    → at_place (Link x o v) (of_lane lane (on_channel v link.flits)) ≡ link_held s lane x o v
link_read s lane x o v link has e =
    ap (λ (l : LinkView). at_place (Link x o v) (of_lane lane (on_channel v l.flits))) (e ∙ sym (link_there s x o has))
