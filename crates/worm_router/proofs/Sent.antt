-- A router may be moved to another thread.
use denote.Param.Send.{IsSend, sendable}
use Rattle.std.proofs.Crossing.{crosses}
use Rattle.circular_buffer.proofs.heap.HeapCircularBuffer.TheSendSync.{the_send as ring_send}
use Rattle.worm_flit.proofs.channels.ClassChannels.TheSendSync.{the_send as classes_send}
use Rattle.worm_flit.proofs.Flit.TheSendSync.{the_send as flit_send}
use Rattle.worm_records.proofs.OutRecord.TheSendSync.{the_send as record_send}
use Rattle.worm_router.proofs.busy.BusyChannels.TheSendSync.{the_send as busy_send}
use Rattle.worm_router.proofs.demand.Demand.TheSendSync.{the_send as demand_send}
use Rattle.worm_router.proofs.routes.Routes.TheSendSync.{the_send as routes_send}
use Rattle.worm_swalloc.proofs.sw_alloc.SwAlloc.TheSendSync.{the_send as switch_send}
use Rattle.worm_vcalloc.proofs.vc_alloc.VcAlloc.TheSendSync.{the_send as alloc_send}
use Rattle.worm_router.specs.contracts.channel.InputChannel as InputChannel
use Rattle.worm_router.specs.contracts.router.Router as Router

pub channel_send : IsSend InputChannel.the_row
channel_send = search (sendable, crosses, ring_send, flit_send) depth 60

pub router_send : IsSend Router.the_row
router_send = search (
  sendable,
  crosses,
  channel_send,
  classes_send,
  routes_send,
  record_send,
  busy_send,
  demand_send,
  switch_send,
  alloc_send,
) depth 60
