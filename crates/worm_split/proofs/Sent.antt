-- A network taken apart may be moved to another thread.
use denote.Param.Send.{IsSend, sendable}
use Rattle.std.proofs.Crossing.{crosses}
use Rattle.worm_mesh.proofs.mesh.LinkEnds.TheSendSync.{the_send as ends_send}
use Rattle.worm_node.proofs.Sent.{node_send}
use Rattle.worm_region.proofs.config.Config.TheSendSync.{the_send as config_send}
use Rattle.worm_wires.proofs.inbox.Inboxes.TheSendSync.{the_send as inboxes_send}
use Rattle.worm_wires.proofs.link.LinkState.TheSendSync.{the_send as link_send}
use Rattle.worm_split.proofs.ends.EndPair.TheSendSync.{the_send as pair_send}
use Rattle.worm_split.specs.contracts.apart.TakenApart as TakenApart

pub kept_send : IsSend TakenApart.the_row
kept_send = search (sendable, crosses, node_send, config_send, ends_send, inboxes_send, link_send, pair_send) depth 60
