-- A region may be moved to another thread: nothing of it is one thread's alone.
use denote.Param.Send.{IsSend, sendable}
use Rattle.std.proofs.Crossing.{crosses}
use Rattle.arrayvec.proofs.ArrayVec.TheSendSync.{the_send as names_send}
use Rattle.worm_flit.proofs.channels.ClassChannels.TheSendSync.{the_send as classes_send}
use Rattle.worm_node.proofs.Sent.{node_send}
use Rattle.worm_wires.proofs.links.Links.TheSendSync.{the_send as links_send}
use Rattle.worm_region.specs.contracts.fabric.Fabric as Fabric
use Rattle.worm_region.specs.contracts.nodes.Nodes as Nodes
use Rattle.worm_region.specs.contracts.region.Region as Region

nodes_send : IsSend Nodes.the_row
nodes_send = search (sendable, crosses, node_send) depth 60

fabric_send : IsSend Fabric.the_row
fabric_send = search (sendable, crosses, nodes_send, links_send, classes_send, names_send) depth 60

pub region_send : IsSend Region.the_row
region_send = search (sendable, crosses, fabric_send) depth 60
