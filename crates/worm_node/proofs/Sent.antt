-- A node may be moved to another thread: what its router keeps for contracts alone has no bytes.
use denote.Param.Send.{IsSend, sendable}
use Rattle.std.proofs.Crossing.{crosses}
use Rattle.worm_router.proofs.Sent.{router_send}
use Rattle.worm_term.proofs.sink.Sink.TheSendSync.{the_send as sink_send}
use Rattle.worm_term.proofs.source.Source.TheSendSync.{the_send as source_send}
use Rattle.worm_node.specs.contracts.node.Node as Node

pub node_send : IsSend Node.the_row
node_send = search (sendable, crosses, router_send, sink_send, source_send) depth 60
