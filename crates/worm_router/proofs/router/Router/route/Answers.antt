use Rattle.worm_vcalloc.specs.Table.{with_cell}
use Rattle.worm_flit.specs.Channels.{class_bits}
use Rattle.std.proofs.Common.{refl, slice_get, slice_set, Some, sym, ap, ◌∙◌, inr, ◌≡◌, ◌≤◌, ℕ, List}
use Rattle.std.proofs.lemmas.Bool.{true≢false}
use Rattle.std.proofs.lemmas.List.Elements.{All-set}
use Rattle.worm_router.specs.Allocation.{asking}
use Rattle.worm_flit.specs.declared.Flit.{Flit}
use Rattle.worm_router.specs.declared.busy.BusyChannels.{BusyChannels}
use Rattle.worm_router.specs.Demand.{DemandView}
use Rattle.worm_router.specs.Busy.{HasFront, IsKept, is_occupied, owes, port_held}
use Rattle.worm_route.specs.Route.{port_of}
use Rattle.worm_router.specs.Router.{ChannelState, RouterState, IsChannel, terminal, front_port, in_state, input_at}
use Rattle.worm_router.proofs.Places.{IsInput, input_of}
use Rattle.worm_router.proofs.ChangesSound.{input_read, input_set_sound, read_sound, state_sound}
use Rattle.worm_router.proofs.Leaving.{front_port_is}
use Rattle.worm_router.proofs.Filed.{busy_filed}
use Rattle.worm_records.specs.declared.InRecord.TheVariants.{Idle, Waiting}
use Rattle.worm_router.proofs.Holders.{holders_in, none_by_idle, none_by_waiting}
use Rattle.worm_router.proofs.Demanded.{requests_put, asks_by_front, front_there}
use Rattle.worm_router.proofs.HeldOuts.{outs_kept}
use Rattle.worm_router.proofs.LackCredit.{lack_waiting}
use Rattle.worm_router.proofs.OweAll.{owe_stay}
use Rattle.worm_router.proofs.FullBuffers.{full_kept}
use Rattle.worm_router.proofs.router.Router.route.Goals as goal
use Rattle.worm_router.proofs.router.Router.route.Goals.{in-Idle, in_default}

-- the channel that is written was read as idle

pub route_to-requires : goal.route_to-requires
route_to-requires c =
    let input = input_of _ c.args.self.now c.args.port c.args.vc c.line-i.result c.index_mut-channel.result.now
    c.self.view_is c.requires c.line-i.ensures.value c.line-i.ensures.in_inputs
    c.index_mut-channel.ensures.value in
    let read = input_of _ c.args.self.now c.args.port c.args.vc c.line-i.result c.index-channel.result.now
    c.self.view_is c.requires c.line-i.ensures.value c.line-i.ensures.in_inputs c.index-channel.ensures in
    let idle : c.state.result ≡ Idle = elim c.match-matches.branch [
      | in-Idle w ↦ w.in-Idle.is
      | in_default w ↦ absurd (true≢false (sym c.if-not-matches.false ∙ w.matches-is))
    ] in
    ap (λ (x : ChannelState). x.state) (input.was ∙ sym read.was) ∙ sym c.state.ensures ∙ idle

-- a channel that was idle comes to wait with a front packet of this class, and asks for that
comes_to_wait : (r : RouterState) (sets : BusyChannels) (asked new : DemandView) (masks : List ℕ) (port vc i out : ℕ)
    (had now : ChannelState) (front : Flit) (allowed : ℕ)
    → IsInput r port vc i had → IsKept r sets asked masks → had.state ≡ Idle → out ≤ terminal r
    → slice_get had.buffer 0 ≡ Some front → allowed ≡ class_bits r.channels front.lane.class
    → IsChannel r.mesh r.channels r.depth had → now ≡ in_state had (Waiting out)
    → new ≡ record asked {
      requests = with_cell asked.requests port vc (Some (record { out = out; allowed = allowed }));
    }
    → IsKept (record r { inputs = slice_set r.inputs i now }) sets new masks
comes_to_wait r sets asked new masks port vc i out had now front allowed input kept was_idle out_in is_front classed
    sound waits asks =
    let few_ports = kept.busy.few_ports in
    let few_channels = kept.busy.few_channels in
    let waiting : now.state ≡ Waiting out = ap (λ (x : ChannelState). x.state) waits in
    record {
      router = record {
        lists = input_set_sound _ _ _ _ _ _ _ _ kept.router.lists
            (state_sound _ _ _ _ _ (Waiting out) sound out_in waits);
        allocators = kept.router.allocators;
      };
      arbiters = kept.arbiters;
      busy = busy_filed _ _ _ _ _ _ _ _ input kept.busy (inr (refl, ap is_occupied waits)) (inr (refl, ap owes waits));
      demand = record {
        requests = requests_put _ _ _ _ _ _ input _ _ _ few_ports few_channels kept.demand.requests
            (ap (λ (d : DemandView). d.requests) asks)
            (ap (λ (x : ChannelState). asking r.channels x.state x.buffer) waits
            ∙ asks_by_front _ _ front _ _ is_front classed);
        free = ap (λ (d : DemandView). d.free) asks ∙ kept.demand.free;
      };
      fronts = All-set HasFront r.inputs i now (λ it. ap is_occupied waits ∙ front_there _ _ is_front) kept.fronts;
      holders = holders_in _ _ _ _ _ _ input (λ o k holds. absurd (none_by_waiting (sym waiting ∙ holds)))
          (λ o k holds. absurd (none_by_idle (sym was_idle ∙ holds))) kept.holders;
      classes = kept.classes;
      outs = outs_kept _ _ _ _ _ _ input _ (ap port_held waiting ∙ sym (ap port_held was_idle)) kept.outs;
      no_credit = lack_waiting _ _ _ _ _ _ input few_ports few_channels _ _ refl _ was_idle waiting kept.no_credit;
      owes_all = owe_stay _ _ _ _ _ _ input few_ports few_channels _ _ _ refl (ap (λ (x : ChannelState). x.owed) waits)
          kept.owes_all;
      links = kept.links;
      full = full_kept _ _ _ _ _ _ input _ _ _ refl (ap (λ (x : ChannelState). x.buffer) waits) kept.full;
    }

pub invariant_of-self : goal.invariant_of-self
invariant_of-self c =
    let input = input_of _ c.args.self.now c.args.port c.args.vc c.line-i.result c.index_mut-channel.result.now
    c.self.view_is c.requires c.line-i.ensures.value c.line-i.ensures.in_inputs
    c.index_mut-channel.ensures.value in
    let read = input_of _ c.args.self.now c.args.port c.args.vc c.line-i.result c.index-channel.result.now
    c.self.view_is c.requires c.line-i.ensures.value c.line-i.ensures.in_inputs c.index-channel.ensures in
    let same : c.index_mut-channel.result.now ≡ c.index-channel.result.now = input.was ∙ sym read.was in
    let idle : c.state.result ≡ Idle = elim c.match-matches.branch [
      | in-Idle w ↦ w.in-Idle.is
      | in_default w ↦ absurd (true≢false (sym c.if-not-matches.false ∙ w.matches-is))
    ] in
    comes_to_wait _ _ _ _ _ c.args.port c.args.vc c.line-i.result c.port-out.result c.index_mut-channel.result.now
    c.route_to.new.self c.in-Some.front c.mask-allowed.result input c.self.invariant
    (ap (λ (x : ChannelState). x.state) same ∙ sym c.state.ensures ∙ idle) c.port-out.ensures.bound
    (ap (λ (x : ChannelState). slice_get x.buffer 0) same ∙ sym c.flit_at.ensures ∙ c.in-Some.is)
    (c.mask-allowed.ensures
    ∙ ap (λ (r : RouterState). class_bits r.channels c.in-Some.front.lane.class) (sym c.self.view_is))
    (read_sound _ _ _ _ _ c.index_mut-channel.result.now c.index_mut-channel.ensures.value input.within
    c.self.invariant.router.lists.inputs_sound) c.route_to.ensures c.ask.ensures

pub returns-clause-after : goal.returns-clause-after
returns-clause-after c =
    let now = c.args.self.now in
    let written = input_read _ now c.args.port c.args.vc c.line-i.result c.index_mut-channel.result.now c.self.view_is
    c.index_mut-channel.ensures.value c.line-i.ensures.value c.line-i.ensures.in_inputs in
    let read = input_read _ now c.args.port c.args.vc c.line-i.result c.index-channel.result.now c.self.view_is
    c.index-channel.ensures c.line-i.ensures.value c.line-i.ensures.in_inputs in
    let front : slice_get (input_at now c.args.port c.args.vc).buffer 0 ≡ Some c.in-Some.front =
    ap (λ (x : ChannelState). slice_get x.buffer 0) (sym read) ∙ sym c.flit_at.ensures ∙ c.in-Some.is in
    let out : c.port-out.result ≡ front_port now (input_at now c.args.port c.args.vc).buffer =
    c.port-out.ensures.value
    ∙ ap (λ (r : RouterState). port_of r.mesh r.node c.in-Some.front.lane.dst) c.self.view_is
    ∙ sym (front_port_is now (input_at now c.args.port c.args.vc).buffer c.in-Some.front front) in
    ap (λ (r : RouterState). record r { inputs = slice_set r.inputs c.line-i.result c.route_to.new.self })
    c.self.view_is
    ∙ ap (λ (x : ChannelState). record now { inputs = slice_set now.inputs c.line-i.result x }) (c.route_to.ensures
    ∙ ap (λ (x : ChannelState). in_state x (Waiting c.port-out.result)) written
    ∙ ap (λ o. in_state (input_at now c.args.port c.args.vc) (Waiting o)) out)
    ∙ ap (λ k. record now {
      inputs = slice_set now.inputs k
          (in_state (input_at now c.args.port c.args.vc)
          (Waiting (front_port now (input_at now c.args.port c.args.vc).buffer)));
    }) c.line-i.ensures.value
